-- Runs of darts (document 01, "Terms"): a land is a run that closes.
--   Run t d l e     d, then the darts of l, then e, each the next of the one before
--   Land t l        l is a run that comes back to its first dart
-- reverse_.., channel_..: the two darts of a channel are each other's reverses. run_append, run_cut: a run is cut and joined anywhere. run_keep, run_end: turns that a run does not use do not matter.
-- land_turn, listed_keeps, land_listed: a land is one from whichever of its darts it is listed. least_.., turn_to_first: the smallest dart of a list, and a list turned to begin with a dart.
-- Assumes nothing.
use mathlib.Core.Path.{◌≡◌, sym, ◌∙◌, ap, subst, refl}
use mathlib.Core.Logic.{◌≢◌, ◌⊎◌, ⊎_elim, inl, inr}
use mathlib.Core.List.{List, [], ◌∷◌, ◌++◌, append-nil, append_assoc}
use mathlib.Core.Bool.{cond}
use Prim.Native.Nat.{ℕ, ◌<◌, ◌*◌, ◌/◌, ◌%◌, ◌≤◌, ◌+◌}
use native.Mathlib.Nat.{eq-zero-or-pos, not-suc-le-zero}
use native.Mathlib.Omega.{arith}
use lib.Dec.{eqb, eqb→eq, ltb, ltb→lt, nltb→le}
use lib.ListN.{length, length-append}
use Rattle.rules.specs.Terms.{reverse, missing, next, least, turn_to, listed}
use Rattle.rules.specs.Laying.{back, last, first}
use Rattle.laws.proofs.Tests.{cond_cases, neqb_ne}
use Rattle.laws.proofs.Counts.{is, is_self, is_not, is_cases, count, count_head, count_append, Distinct}

-- ---- reversal

pub reverse_reverse : (d : ℕ) → reverse (reverse d) ≡ d
unfolding reverse
reverse_reverse d = omega arith

pub reverse_inj : (d e : ℕ) → reverse d ≡ reverse e → d ≡ e
reverse_inj d e h = sym (reverse_reverse d) ∙ ap reverse h ∙ reverse_reverse e

pub reverse_below : (d n : ℕ) → d < 2 * n → reverse d < 2 * n
unfolding reverse
reverse_below d n h = omega arith

pub reverse_channel : (d : ℕ) → reverse d / 2 ≡ d / 2
unfolding reverse
reverse_channel d = omega arith

pub reverse_other : (d : ℕ) → reverse d ≢ d
unfolding reverse
reverse_other d = omega arith

pub channel_darts : (d k : ℕ) → d / 2 ≡ k → (d ≡ 2 * k) ⊎ (d ≡ reverse (2 * k))
unfolding reverse
channel_darts d k e = ⊎_elim (λ z. inl (omega arith)) (λ z. inr (omega arith)) (eq-zero-or-pos (d % 2))

pub channel_of : (k : ℕ) → (2 * k) / 2 ≡ k
channel_of k = omega arith

pub is_reverse : (x y : ℕ) → is (reverse x) y ≡ is x (reverse y)
is_reverse x y = ⊎_elim
    (λ e. sub₁ e) (λ n. n ∙ sym (is_not x (reverse y) (λ k. other k n)))
    (is_cases (reverse x) y)
  where
    sub₁ : reverse x ≡ y → is (reverse x) y ≡ is x (reverse y)
    sub₁ e = subst (λ (z : ℕ). is (reverse x) z ≡ is x (reverse z)) e (is_self (reverse x) ∙ sym (ap (is x) (reverse_reverse x) ∙ is_self x))

    other : x ≡ reverse y → is (reverse x) y ≡ 0 → ⊥
    other k n = omega (arith, is_self y, ap (λ (z : ℕ). is z y) (ap reverse k ∙ reverse_reverse y))

pub count_back : (z : ℕ) (q : List ℕ) → count z (back q) ≡ count (reverse z) q
unfolding back count
count_back z [] = refl
count_back z (d ∷ q) = omega (arith, count_append z (back q) (reverse d ∷ []), count_back z q, is_reverse z d)

pub length_back : (q : List ℕ) → length (back q) ≡ length q
unfolding back
length_back [] = refl
length_back (d ∷ q) = omega (arith, length-append (back q) (reverse d ∷ []), length_back q)

pub same_channel : (d e : ℕ) → d / 2 ≡ e / 2 → (d ≡ e) ⊎ (d ≡ reverse e)
same_channel d e h =
    ⊎_elim
    (λ p. ⊎_elim (λ q. inl (p ∙ sym q)) (λ q. inr (p ∙ sym (reverse_reverse (2 * (e / 2))) ∙ ap reverse (sym q))) (channel_darts e (e / 2) refl))
    (λ p. ⊎_elim (λ q. inr (p ∙ ap reverse (sym q))) (λ q. inl (p ∙ sym q)) (channel_darts e (e / 2) refl))
    (channel_darts d (e / 2) h)

-- ---- runs

abbrev pub Run : List ℕ → ℕ → List ℕ → ℕ → Type 0
Run t d [] e = next t d ≡ e
Run t d (x ∷ l) e = (next t d ≡ x) × Run t x l e

-- a land: a run that closes
abbrev pub Land : List ℕ → List ℕ → Type 0
Land t [] = ⊥
Land t (d ∷ l) = Run t d l d

pub run_append : (t : List ℕ) (d : ℕ) (l : List ℕ) (x : ℕ) (m : List ℕ) (e : ℕ) → Run t d l x → Run t x m e → Run t d (l ++ x ∷ m) e
run_append t d [] x m e h k = (h, k)
run_append t d (y ∷ l) x m e h k = (h.0, run_append t y l x m e h.1 k)

pub run_cut : (t : List ℕ) (d : ℕ) (l : List ℕ) (x : ℕ) (m : List ℕ) (e : ℕ) → Run t d (l ++ x ∷ m) e → Run t d l x × Run t x m e
run_cut t d [] x m e h = (h.0, h.1)
run_cut t d (y ∷ l) x m e h = let r = run_cut t y l x m e h.1 in ((h.0, r.0), r.1)

-- a land listed from another of its darts
pub land_turn : (t l m : List ℕ) → Land t (l ++ m) → Land t (m ++ l)
land_turn t [] m h = rw append-nil h
land_turn t (d ∷ l) [] h = subst (λ (m : List ℕ). Land t m) (append-nil (d ∷ l)) h
land_turn t (d ∷ l) (x ∷ m) h =
    let r = run_cut t d l x m d h in
    run_append t x m d l x r.1 r.0

-- the turns are the same at each dart of the run
pub run_keep : (t u : List ℕ) (d : ℕ) (l : List ℕ) (e : ℕ) → ((z : ℕ) → 1 ≤ count z (d ∷ l) → next u z ≡ next t z) → Run t d l e → Run u d l e
unfolding count
run_keep t u d [] e same h = same d (count_head d []) ∙ h
run_keep t u d (x ∷ l) e same h = (same d (count_head d (x ∷ l)) ∙ h.0, run_keep t u x l e (λ z k. same z (omega arith)) h.1)

-- ---- a rotation keeps what every rotation keeps

module _ (P : List ℕ → Type 0) (swap : (l m : List ℕ) → P (l ++ m) → P (m ++ l)) where
  pub turn_keeps : (m : ℕ) (l r : List ℕ) → P (l ++ r) → P (turn_to m l r)
  unfolding turn_to
  turn_keeps m l [] h = subst P (append-nil l) h
  turn_keeps m l (d ∷ r) h =
      cond_cases P (eqb d m) (λ t. swap l (d ∷ r) h) (λ t. turn_keeps m (l ++ (d ∷ [])) r (rw append_assoc h))

  pub listed_keeps : (l : List ℕ) → P l → P (listed l)
  unfolding listed
  listed_keeps l h = turn_keeps (least missing l) [] l h

pub land_listed : (t l : List ℕ) → Land t l → Land t (listed l)
land_listed t l h = listed_keeps (Land t) (land_turn t) l h

pub count_listed : (z : ℕ) (l : List ℕ) → count z (listed l) ≡ count z l
count_listed z l =
    listed_keeps (λ m. count z m ≡ count z l)
    (λ u v h. omega (arith, count_append z v u, count_append z u v)) l refl

pub length_listed : (l : List ℕ) → length (listed l) ≡ length l
length_listed l = listed_keeps (λ m. length m ≡ length l) (λ u v h. omega (arith, length-append u v, length-append v u)) l refl

-- ---- the last dart of a stretch

pub last_in_lem : (d : ℕ) (l : List ℕ) → 1 ≤ count (last (d ∷ l)) (d ∷ l)
unfolding last count
last_in_lem d [] = omega (arith, is_self d)
last_in_lem d (x ∷ l) = omega (arith, last_in_lem x l)

pub count_last : (z d : ℕ) (l : List ℕ) → is z (last (d ∷ l)) ≤ count z (d ∷ l)
unfolding last count
count_last z d [] = omega arith
count_last z d (x ∷ l) = omega (arith, count_last z x l)

-- a run whose last dart gets another turn, and no other dart of it
pub run_end : (t u : List ℕ) (d : ℕ) (l : List ℕ) (e f : ℕ)
    → ((z : ℕ) → 1 ≤ count z (d ∷ l) → z ≢ last (d ∷ l) → next u z ≡ next t z)
    → next u (last (d ∷ l)) ≡ f → Distinct (d ∷ l) → Run t d l e → Run u d l f
unfolding last count
run_end t u d [] e f same k u' h = k
run_end t u d (x ∷ l) e f same k u' h = (
  same d (omega (arith, is_self d)) (λ q. omega (arith, last_in_lem x l, u'.0, ap (λ (z : ℕ). count z (x ∷ l)) q)) ∙ h.0,
  run_end t u x l e f (λ z i n. same z (omega arith) n) k u'.1 h.1,
)

-- ---- the smallest dart of a land

pub least_le : (m : ℕ) (l : List ℕ) → least m l ≤ m
unfolding least
least_le m [] = omega arith
least_le m (d ∷ l) = cond_cases (λ (k : ℕ). least k l ≤ m) (ltb d m) (λ t. omega (arith, least_le d l, ltb→lt d m t)) (λ t. least_le m l)

pub least_low : (m : ℕ) (l : List ℕ) (z : ℕ) → 1 ≤ count z l → least m l ≤ z
unfolding least count
least_low m [] z h = absurd (not-suc-le-zero h)
least_low m (d ∷ l) z h =
    ⊎_elim
    (λ e. cond_cases (λ (k : ℕ). least k l ≤ z) (ltb d m) (λ t. omega (arith, least_le d l)) (λ t. omega (arith, least_le m l, nltb→le d m t)))
    (λ n. least_low (cond (ltb d m) d m) l z (omega arith)) (is_cases z d)

pub least_in : (m : ℕ) (l : List ℕ) → (least m l ≡ m) ⊎ (1 ≤ count (least m l) l)
unfolding least count
least_in m [] = inl refl
least_in m (d ∷ l) =
    cond_cases (λ (k : ℕ). (least k l ≡ m) ⊎ (1 ≤ is (least k l) d + count (least k l) l)) (ltb d m)
    (λ t. ⊎_elim (λ e. inr (omega (arith, ap (λ (z : ℕ). is z d) e, is_self d))) (λ h. inr (omega arith)) (least_in d l))
    (λ t. ⊎_elim inl (λ h. inr (omega arith)) (least_in m l))

pub turn_to_first : (m : ℕ) (l r : List ℕ) → 1 ≤ count m r → first (turn_to m l r) ≡ m
unfolding turn_to first count
turn_to_first m l [] h = absurd (not-suc-le-zero h)
turn_to_first m l (d ∷ r) h =
    cond_cases (λ (k : List ℕ). first k ≡ m) (eqb d m) (λ t. eqb→eq d m t)
    (λ t. turn_to_first m (l ++ (d ∷ [])) r (⊎_elim (λ e. absurd (neqb_ne d m t (sym e))) (λ n. omega arith) (is_cases m d)))
