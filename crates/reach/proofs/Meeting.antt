-- The state of a flood after one dart and after many: what it gains, and how the code holds it.
--   Fair m l         the ports of l are distinct and marked in m
--   added q s        s with port q met
--   Gains s s'       s' has the ports of s and the ports `new` behind them, and just those are marked besides
-- meet_.., meet_all_..: what is met comes by a dart in play, and what such a dart enters is marked. fair_few: distinct marked ports are at most as many as there are marks (pigeons).
-- held_.., room_..: the marks and the queue of the code hold the state, and the queue has room for a port that has no mark.
-- Assumes nothing.
use mathlib.Core.Path.{◌≡◌, refl, sym, ap, ◌∙◌, subst}
use mathlib.Core.Logic.{◌⊎◌, inl, inr, ⊎_elim}
use mathlib.Core.Bool.{Bool, true, false, not, ◌&&◌}
use mathlib.Core.List.{List, [], ◌∷◌, ◌++◌, append_assoc, append-nil}
use Prim.Native.Nat.{ℕ, ◌+◌, ◌-◌, ◌≤◌, ◌<◌}
use native.Mathlib.Nat.{not-suc-le-zero}
use native.Mathlib.Numerals.{add-one}
use native.Mathlib.Omega.{arith}
use lib.Dec.{T, T_not}
use lib.ListN.{length, set, take, drop, length-set, length-append}
use lib.Seq.{get_or-set_other, take-suc-set, drop-set-lt, length-take-le, drop-drop}
use Rattle.rules.specs.Lists.{at}
use Rattle.rules.specs.Terms.{leaves, reverse, enters}
use Rattle.rules.specs.Ways.{in_play}
use Rattle.laws.proofs.Tests.{cond_cases, and_T, not_and, not_not}
use Rattle.laws.proofs.Counts.{flag, flag_T, flag_F, T_flag, flag_le, is, is_self, is_cases, is_apart, count, count_append, pigeon}
use Rattle.laws.proofs.Runs.{reverse_below}
use Rattle.laws.proofs.Sets.{at_lt, at_set_same, Sub}
use Rattle.reach.specs.Floods.{Sized}
use Rattle.reach.specs.Meets.{Met, met_in, meet, meet_all, Room, Held}

-- ---- the port that a dart enters is one of the ports

pub enters_in : (v : ℕ) (ends : List ℕ) (play : List Bool) → Sized v ends play → (d : ℕ) → d < length ends → enters ends d < v
unfolding enters leaves
enters_in v ends play z d h = z.ports (reverse d) (omega (arith, z.channels, reverse_below d (length play) (omega (arith, z.channels))))

-- ---- one more mark

pub flag_set : (m : List Bool) (q z : ℕ) → q < length m → T (not (at m q)) → flag (at (set m q true) z) ≡ flag (at m z) + is z q
unfolding at
flag_set m q z h n =
    ⊎_elim (λ e. rw e (omega (arith, flag_T (at (set m q true) q) (at_set_same m q h), flag_F (at m q) (T_not (at m q) n), is_self q)))
    (λ k. omega (arith, ap flag (get_or-set_other m q z true false (is_apart z q k)))) (is_cases z q)

-- ---- distinct marked ports

abbrev pub Fair : List Bool → List ℕ → Type 0
Fair m l = (z : ℕ) → count z l ≤ flag (at m z)

pub fair_few : (m : List Bool) (l : List ℕ) → Fair m l → length l ≤ length m
fair_few m l h =
    pigeon (length m) l (λ z k. at_lt m z (T_flag (at m z) (omega (arith, h z)))) (λ z. omega (arith, h z, flag_le (at m z)))

-- ---- what a state gains

abbrev pub added : ℕ → Met → Met
added q s = record { marks = set s.marks q true; queue = s.queue ++ (q ∷ []) }

pub record Gains (s s' : Met) : Type 0 where
  pub new : List ℕ
  pub long : length s'.marks ≡ length s.marks
  pub list : s'.queue ≡ s.queue ++ new
  pub marked : (z : ℕ) → flag (at s'.marks z) ≡ flag (at s.marks z) + count z new

pub gains_none : (s : Met) → Gains s s
unfolding count
gains_none s = record { new = []; long = refl; list = sym (append-nil s.queue); marked = λ z. omega arith }

pub gains_trans : (s t u : Met) → Gains s t → Gains t u → Gains s u
gains_trans s t u g h = record {
  new = g.new ++ h.new;
  long = h.long ∙ g.long;
  list = h.list ∙ ap (λ (l : List ℕ). l ++ h.new) g.list ∙ append_assoc s.queue g.new h.new;
  marked = λ z. omega (arith, g.marked z, h.marked z, count_append z g.new h.new);
}

pub gains_keeps : (s t : Met) → Gains s t → Sub s.marks t.marks
gains_keeps s t g z h = T_flag (at t.marks z) (omega (arith, g.marked z, flag_T (at s.marks z) h))

pub gains_count : (s t : Met) → Gains s t → (z : ℕ) → flag (at t.marks z) + count z s.queue ≡ flag (at s.marks z) + count z t.queue
gains_count s t g z = omega (arith, g.marked z, ap (count z) g.list, count_append z s.queue g.new)

-- ---- one dart, and many

module _ (ends : List ℕ) (play : List Bool) where
  meet_cases : (P : Met → Type 0) (d : ℕ) (s : Met)
      → (T (in_play play d) → T (not (at s.marks (enters ends d))) → P (added (enters ends d) s)) → (T (not (in_play play d && not (at s.marks (enters ends d)))) → P s)
      → P (meet ends play d s)
  unfolding meet
  meet_cases P d s f g =
      cond_cases P (in_play play d && not (at s.marks (enters ends d)))
      (λ t. let w = and_T (in_play play d) (not (at s.marks (enters ends d))) t in f w.0 w.1) g

  -- what the code finds, as equations
  pub meet_out : (d : ℕ) (s : Met) → in_play play d ≡ false → meet ends play d s ≡ s
  unfolding meet
  meet_out d s e = rw e

  pub meet_old : (d : ℕ) (s : Met) → in_play play d ≡ true → at s.marks (enters ends d) ≡ true → meet ends play d s ≡ s
  unfolding meet
  meet_old d s e m = rw (e, m)

  pub meet_new : (d : ℕ) (s : Met) → in_play play d ≡ true → at s.marks (enters ends d) ≡ false → meet ends play d s ≡ added (enters ends d) s
  unfolding meet
  meet_new d s e m = rw (e, m)

  pub meet_gains : (d : ℕ) (s : Met) → enters ends d < length s.marks → Gains s (meet ends play d s)
  unfolding count
  meet_gains d s h =
      meet_cases (Gains s) d s
      (λ i n. record {
        new = enters ends d ∷ [];
        long = length-set s.marks (enters ends d) true;
        list = refl;
        marked = λ z. omega (arith, flag_set s.marks (enters ends d) z h n);
      })
      (λ t. gains_none s)

  pub meet_from : (d : ℕ) (s : Met) (z : ℕ) → 1 ≤ count z (meet ends play d s).queue → (1 ≤ count z s.queue) ⊎ (T (in_play play d) × (enters ends d ≡ z))
  unfolding count
  meet_from d s z h =
      meet_cases (λ (t : Met). 1 ≤ count z t.queue → (1 ≤ count z s.queue) ⊎ (T (in_play play d) × (enters ends d ≡ z))) d s
      (λ i n k. ⊎_elim (λ e. inr (i, sym e)) (λ m. inl (omega (arith, count_append z s.queue (enters ends d ∷ [])))) (is_cases z (enters ends d)))
      (λ t k. inl k) h

  pub meet_marks : (d : ℕ) (s : Met) → enters ends d < length s.marks → T (in_play play d) → T (at (meet ends play d s).marks (enters ends d))
  meet_marks d s h i =
      meet_cases (λ (t : Met). T (at t.marks (enters ends d))) d s (λ _ n. at_set_same s.marks (enters ends d) h)
      (λ t. not_not (at s.marks (enters ends d)) (not_and (in_play play d) (not (at s.marks (enters ends d))) t i))

  -- every dart enters one of v ports
  module _ (v : ℕ) (inside : (d : ℕ) → enters ends d < v) where
    pub meet_all_gains : (ds : List ℕ) (s : Met) → length s.marks ≡ v → Gains s (meet_all ends play ds s)
    unfolding meet_all
    meet_all_gains [] s e = gains_none s
    meet_all_gains (d ∷ ds) s e =
        let g = meet_gains d s (omega (arith, inside d)) in
        gains_trans s (meet ends play d s) (meet_all ends play ds (meet ends play d s)) g (meet_all_gains ds (meet ends play d s) (g.long ∙ e))

    pub meet_all_from : (ds : List ℕ) (s : Met) (z : ℕ) → 1 ≤ count z (meet_all ends play ds s).queue
        → (1 ≤ count z s.queue) ⊎ ((d : ℕ) × (1 ≤ count d ds) × T (in_play play d) × (enters ends d ≡ z))
    unfolding meet_all count
    meet_all_from [] s z h = inl h
    meet_all_from (d ∷ ds) s z h =
        ⊎_elim (λ k. ⊎_elim inl (λ j. inr (d, omega (arith, is_self d), j.0, j.1)) (meet_from d s z k)) (λ w. inr (w.0, omega (arith, w.1), w.2, w.3))
        (meet_all_from ds (meet ends play d s) z h)

    pub meet_all_marks : (ds : List ℕ) (s : Met) → length s.marks ≡ v → (d : ℕ) → 1 ≤ count d ds → T (in_play play d)
        → T (at (meet_all ends play ds s).marks (enters ends d))
    unfolding meet_all count
    meet_all_marks [] s e d h i = absurd (not-suc-le-zero h)
    meet_all_marks (x ∷ ds) s e d h i =
        let g = meet_gains x s (omega (arith, inside x)) in
        ⊎_elim
        (λ q.
        gains_keeps (meet ends play x s) (meet_all ends play ds (meet ends play x s)) (meet_all_gains ds (meet ends play x s) (g.long ∙ e)) (enters ends d)
        (subst (λ (y : ℕ). T (at (meet ends play x s).marks (enters ends y))) (sym q) (meet_marks x s (omega (arith, inside x)) (subst (λ (y : ℕ). T (in_play play y)) q i))))
        (λ m. meet_all_marks ds (meet ends play x s) (g.long ∙ e) d (omega arith) i) (is_cases d x)

-- ---- how the code holds it

pub held_same : (marks : List Bool) (queue : List ℕ) (n : ℕ) (s : Met) → n ≤ length queue → s ≡ met_in marks queue n → Held s queue n marks queue n
held_same marks queue n s h e = record { state = sym e; least = omega arith; most = h; rest = refl; size = refl }

-- port q is marked and stands behind the others
pub held_new : (marks : List Bool) (queue : List ℕ) (n : ℕ) (q : ℕ) (s : Met) → n < length queue → s ≡ added q (met_in marks queue n)
    → Held s queue n (set marks q true) (set queue n q) (n + 1)
held_new marks queue n q s h e = record {
  state = ap (λ (l : List ℕ). record { marks = set marks q true; queue = l }) (ap (λ (k : ℕ). take k (set queue n q)) (add-one n) ∙ take-suc-set queue n q h) ∙ sym e;
  least = omega arith;
  most = omega (arith, length-set queue n q);
  rest = drop-set-lt (n + 1) queue n q (omega arith);
  size = length-set queue n q;
}

drop_later : (n k : ℕ) (a b : List ℕ) → n ≤ k → drop n a ≡ drop n b → drop k a ≡ drop k b
drop_later n k a b h e =
    let f : n + (k - n) ≡ k = omega arith in
    ap (λ (j : ℕ). drop j a) (sym f) ∙ sym (drop-drop (k - n) n a) ∙ ap (drop (k - n)) e ∙ drop-drop (k - n) n b ∙ ap (λ (j : ℕ). drop j b) f

pub held_trans : (s t : Met) (q₀ : List ℕ) (n₀ : ℕ) (m₁ : List Bool) (q₁ : List ℕ) (n₁ : ℕ) (m₂ : List Bool) (q₂ : List ℕ) (n₂ : ℕ)
    → Held s q₀ n₀ m₁ q₁ n₁ → Held t q₁ n₁ m₂ q₂ n₂ → Held t q₀ n₀ m₂ q₂ n₂
held_trans s t q₀ n₀ m₁ q₁ n₁ m₂ q₂ n₂ g h = record {
  state = h.state;
  least = omega (arith, g.least, h.least);
  most = h.most;
  rest = h.rest ∙ drop_later n₁ n₂ q₁ q₀ h.least g.rest;
  size = h.size ∙ g.size;
}

-- there is room for a port that has no mark
pub room_left : (marks : List Bool) (queue : List ℕ) (n q : ℕ) → Room marks queue n → q < length marks → T (not (at marks q)) → n < length queue
unfolding count
room_left marks queue n q r h k =
    omega (
      arith,
      r.places,
      r.most,
      length-set marks q true,
      length-append (take n queue) (q ∷ []),
      length-take-le n queue r.most,
      fair_few (set marks q true) (take n queue ++ (q ∷ [])) (λ z. omega (arith, flag_set marks q z h k, r.fair z, count_append z (take n queue) (q ∷ []))),
    )

pub room_on : (s : Met) (m₀ : List Bool) (q₀ : List ℕ) (n₀ : ℕ) (m₁ : List Bool) (q₁ : List ℕ) (n₁ : ℕ) → Room m₀ q₀ n₀ → Gains (met_in m₀ q₀ n₀) s → Held s q₀ n₀ m₁ q₁ n₁
    → Room m₁ q₁ n₁
room_on s m₀ q₀ n₀ m₁ q₁ n₁ r g h = record {
  places = omega (arith, h.size, r.places, long);
  small = omega (arith, r.small, long);
  most = h.most;
  fair = λ z.
      omega (arith, r.fair z, gains_count (met_in m₀ q₀ n₀) s g z, ap (λ (t : Met). count z t.queue) h.state, ap (λ (t : Met). flag (at t.marks z)) h.state);
}
  where
    long : length m₁ ≡ length m₀
    long = ap (λ (t : Met). length t.marks) h.state ∙ g.long
