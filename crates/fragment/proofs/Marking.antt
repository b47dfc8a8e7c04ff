-- The marks while the fragments are met one after another: the laid ports and the ports of the fragments met so far.
--   holding q f      the fragment f has port q
--   p                the seed port of channel k
-- marked_shut: such marks are shut. marked_within, settled_over, settled_marked: a channel in play is in one of these fragments exactly where its seed port is marked, so that this tells whether it is settled.
-- marked_first, marked_later, marked_add: the marks at the beginning, at a later channel, and past a channel that names a fragment. unsettled: what is known of such a channel. laid_seed: where the laid ports alone are marked.
-- Assumes nothing.
use mathlib.Core.Path.{◌≡◌, refl, sym, ap, ◌∙◌, subst}
use mathlib.Core.Logic.{⊎_elim}
use mathlib.Core.Bool.{Bool, true, false, not, ◌||◌}
use mathlib.Core.List.{List, [], ◌∷◌, ◌++◌}
use Prim.Native.Nat.{ℕ, ◌+◌, ◌*◌, ◌≤◌, ◌<◌}
use native.Mathlib.Nat.{not-suc-le-zero}
use native.Mathlib.Decide.{dec_lt}
use native.Mathlib.Omega.{arith}
use lib.Dec.{T, T_not}
use lib.ListN.{length, get_or-eq_default}
use Rattle.rules.specs.Lists.{any, at}
use Rattle.rules.specs.Terms.{leaves, enters, laid}
use Rattle.rules.specs.Ways.{in_play}
use Rattle.rules.specs.Laying.{Fragment, within, fragment_at, settled}
use Rattle.laws.proofs.Tests.{T_is, T_isnt, or_T, T_or₁, T_or₂, not_or, not_not, or_false, same_flag}
use Rattle.laws.proofs.Lists.{All, all_weaken, all_snoc}
use Rattle.laws.proofs.Sets.{at_lt}
use Rattle.laws.proofs.Runs.{channel_of}
use Rattle.laws.proofs.Fragments.{unlaid, inside, length_inside, inside_unlaid, within_cases, within_leaves, within_enters}
use Rattle.reach.specs.Floods.{Sized, joined}
use Rattle.reach.proofs.Around.{at_joined, length_joined}
use Rattle.fragment.specs.Fragments.{over, Unmarked, Named, Marked, Shut}
use Rattle.fragment.proofs.Spreading.{seed_place, seed_cases, seed_first, seed_second, seed_unlaid, place_unmarked, inside_step, inside_back}

-- ---- lists of fragments

pub any_some_of : {A : Type 0} (P : A → Type 0) (g h : A → Bool) → ((a : A) → P a → T (g a) → T (h a)) → (l : List A) → All P l → T (any g l) → T (any h l)
unfolding any
any_some_of P g h k [] a t = t
any_some_of P g h k (x ∷ l) a t =
    ⊎_elim (λ s. T_or₁ (h x) (any h l) (k x a.0 s)) (λ s. T_or₂ (h x) (any h l) (any_some_of P g h k l a.1 s)) (or_T (g x) (any g l) t)

or_assoc : (a b c : Bool) → (a || b || c) ≡ (a || (b || c))
or_assoc true b c = refl
or_assoc false b c = refl

pub any_snoc : {A : Type 0} (g : A → Bool) (l : List A) (x : A) → any g (l ++ (x ∷ [])) ≡ (any g l || g x)
unfolding any
any_snoc g [] x = or_false (g x)
any_snoc g (y ∷ l) x = ap (λ (b : Bool). g y || b) (any_snoc g l x) ∙ sym (or_assoc (g y) (any g l) (g x))

-- ---- two sets joined

pub joined_at : (s r : List Bool) → length r ≡ length s → (p : ℕ) → at (joined s r) p ≡ (at s p || at r p)
unfolding at
joined_at s r e p = go (dec_lt p (length s))
  where
    go : Dec (p < length s) → at (joined s r) p ≡ (at s p || at r p)
    go (yes h) = at_joined s r p h
    go (no h) =
        get_or-eq_default (joined s r) false {n = p} (omega (arith, length_joined s r))
        ∙ sym (rw (get_or-eq_default s false {n = p} (omega arith), get_or-eq_default r false {n = p} (omega arith)))

-- ---- the marks

module _ (v : ℕ) (ends : List ℕ) (play lp : List Bool) (sized : Sized v ends play) (lpv : length lp ≡ v) where
  named_ports : (k : ℕ) (f : Fragment) (n : Named v ends play lp k f) → f.ports ≡ inside v ends play lp n.0
  unfolding fragment_at
  named_ports k f n = ap (λ (g : Fragment). g.ports) n.3

  named_name : (k : ℕ) (f : Fragment) (n : Named v ends play lp k f) → f.name ≡ n.0
  unfolding fragment_at
  named_name k f n = ap (λ (g : Fragment). g.name) n.3

  abbrev holding : ℕ → Fragment → Bool
  holding p f = at f.ports p

  module _ (fs : List Fragment) (k : ℕ) (marks : List Bool) (m : Marked v ends play lp fs k marks) where
    -- a marked port that is unlaid is one of a fragment's
    marked_in : (p : ℕ) → T (unlaid lp p) → T (at marks p) → T (any (holding p) fs)
    marked_in p u t =
        ⊎_elim (λ l. absurd (T_not (at lp p) u l)) (λ l. l) (or_T (at lp p) (any (holding p) fs) (subst T (m.ports p) t))

    in_marked : (p : ℕ) → T (any (holding p) fs) → T (at marks p)
    in_marked p t = subst T (sym (m.ports p)) (T_or₂ (at lp p) (any (holding p) fs) t)

    pub marked_shut : Shut ends play lp marks
    marked_shut = record {
      long = m.long ∙ sym lpv;
      holds = λ p t. subst T (sym (m.ports p)) (T_or₁ (at lp p) (any (holding p) fs) t);
      shut = λ d o a b t.
          in_marked (enters ends d)
          (any_some_of (Named v ends play lp k) (holding (leaves ends d)) (holding (enters ends d))
          (λ f n h.
          subst (λ (s : List Bool). T (at s (enters ends d))) (sym (named_ports k f n))
          (inside_back v ends play lp sized n.0 d o b (subst (λ (s : List Bool). T (at s (leaves ends d))) (named_ports k f n) h)))
          fs m.named (marked_in (leaves ends d) a t));
    }

    -- ---- a channel in play is in one of the fragments where its seed port is marked

    abbrev p : ℕ
    p = seed_place v ends lp k

    module _ (o : T (at play k)) where
      own : T (in_play play (2 * k))
      own = rw (channel_of k) o

      from_port_lem : (f : Fragment) → Named v ends play lp k f → T (holding p f) → T (within v ends play f (2 * k))
      from_port_lem f n =
          seed_cases v ends play lp (λ (q : ℕ). T (holding q f) → T (within v ends play f (2 * k))) k
          (λ a h. within_leaves v ends play f (2 * k) own h)
          (λ a b h. within_enters v ends play f (2 * k) own h)
          (λ a b h. absurd (not-suc-le-zero {n = 0} (omega (arith, at_lt f.ports v h, ap length (named_ports k f n), length_inside v ends play lp n.0))))

      to_port : (f : Fragment) → Named v ends play lp k f → T (within v ends play f (2 * k)) → T (holding p f)
      to_port f n h =
          ⊎_elim (λ e. absurd (not-suc-le-zero {n = 0} (omega (arith, channel_of k, e, named_name k f n, n.1))))
          (λ e. ⊎_elim (λ i. at_first (to (leaves ends (2 * k)) i)) (λ i. at_second (to (enters ends (2 * k)) i)) e)
          (within_cases v ends play f (2 * k) h)
        where
          to : (q : ℕ) → T (at f.ports q) → T (at (inside v ends play lp n.0) q)
          to q i = subst (λ (s : List Bool). T (at s q)) (named_ports k f n) i

          at_seed : (q : ℕ) → p ≡ q → T (at (inside v ends play lp n.0) q) → T (holding p f)
          at_seed q e i = subst (λ (s : List Bool). T (at s p)) (sym (named_ports k f n)) (subst (λ (x : ℕ). T (at (inside v ends play lp n.0) x)) (sym e) i)

          at_first : T (at (inside v ends play lp n.0) (leaves ends (2 * k))) → T (holding p f)
          at_first i = at_seed (leaves ends (2 * k)) (seed_first v ends play lp k (inside_unlaid v ends play lp n.0 (leaves ends (2 * k)) i)) i

          at_second : T (at (inside v ends play lp n.0) (enters ends (2 * k))) → T (holding p f)
          at_second i = second (at lp (leaves ends (2 * k))) refl
            where
              second : (b : Bool) → at lp (leaves ends (2 * k)) ≡ b → T (holding p f)
              second true e = at_seed (enters ends (2 * k)) (seed_second v ends play lp k (rw e tt) (inside_unlaid v ends play lp n.0 (enters ends (2 * k)) i)) i
              second false e = at_first (inside_step v ends play lp sized n.0 (2 * k) own (rw e tt) i)

      pub marked_within : at marks p ≡ any (λ f. within v ends play f (2 * k)) fs
      marked_within =
          same_flag (at marks p) (any (λ f. within v ends play f (2 * k)) fs)
          (λ t. any_some_of (Named v ends play lp k) (holding p) (λ f. within v ends play f (2 * k)) from_port_lem fs m.named (marked_in p (seed_unlaid v ends play lp k lpv) t))
          (λ t. in_marked p (any_some_of (Named v ends play lp k) (λ f. within v ends play f (2 * k)) (holding p) to_port fs m.named t))

    -- what `begins` tells
    pub settled_over : (t : List ℕ) → over play t k ≡ true → settled v ends play t fs k ≡ true
    unfolding settled over
    settled_over t e = rw e

    pub settled_marked : (t : List ℕ) → over play t k ≡ false → settled v ends play t fs k ≡ at marks p
    unfolding settled over
    settled_marked t e =
        let n = not_or (laid t (2 * k)) (not (at play k)) (rw e tt) in
        rw e (sym (marked_within (not_not (at play k) n.1)))

    -- a channel that names a fragment
    pub unsettled : (t : List ℕ) → settled v ends play t fs k ≡ false → (at play k ≡ true) × (at marks p ≡ false)
    unfolding settled
    unsettled t e =
        let n = not_or (laid t (2 * k) || not (at play k)) (any (λ f. within v ends play f (2 * k)) fs) (rw e tt) in
        let o = not_not (at play k) (not_or (laid t (2 * k)) (not (at play k)) n.0).1 in
        (T_is (at play k) o, marked_within o ∙ T_isnt (any (λ f. within v ends play f (2 * k)) fs) (T_not (any (λ f. within v ends play f (2 * k)) fs) n.1))

  -- ---- the laid ports alone are marked

  pub laid_seed : (marks : List Bool) (k : ℕ) → marks ≡ lp → Unmarked ends lp marks k
  laid_seed marks k e =
      place_unmarked v ends play lp k marks
      (ap (λ (m : List Bool). at m (seed_place v ends lp k)) e ∙ T_isnt (at lp (seed_place v ends lp k)) (T_not (at lp (seed_place v ends lp k)) (seed_unlaid v ends play lp k lpv)))

  -- ---- from channel to channel

  pub marked_first : Marked v ends play lp [] 0 lp
  unfolding any
  marked_first = record { long = lpv; named = tt; ports = λ p. sym (or_false (at lp p)) }

  named_later : (j k : ℕ) → j ≤ k → (f : Fragment) → Named v ends play lp j f → Named v ends play lp k f
  named_later j k h f n = (n.0, omega (arith, n.1), n.2, n.3)

  pub marked_later : (fs : List Fragment) (k j : ℕ) (marks : List Bool) → k ≤ j → Marked v ends play lp fs k marks → Marked v ends play lp fs j marks
  marked_later fs k j marks h m =
      record { long = m.long; named = all_weaken (Named v ends play lp k) (Named v ends play lp j) (named_later k j h) fs m.named; ports = m.ports }

  pub marked_add : (fs : List Fragment) (k : ℕ) (marks marks' : List Bool) → Marked v ends play lp fs k marks → T (at play k)
      → marks' ≡ joined marks (fragment_at v ends play lp k).ports → Marked v ends play lp (fs ++ (fragment_at v ends play lp k ∷ [])) (k + 1) marks'
  unfolding fragment_at
  marked_add fs k marks marks' m o e = record {
    long = ap length e ∙ length_joined marks (inside v ends play lp k) ∙ m.long;
    named = all_snoc (Named v ends play lp (k + 1)) fs (fragment_at v ends play lp k) (marked_later fs k (k + 1) marks (omega arith) m).named (k, omega arith, o, refl);
    ports = λ p.
        ap (λ (s : List Bool). at s p) e ∙ joined_at marks (inside v ends play lp k) (length_inside v ends play lp k ∙ sym m.long) p
        ∙ ap (λ (b : Bool). b || at (inside v ends play lp k) p) (m.ports p)
        ∙ or_assoc (at lp p) (any (holding p) fs) (at (inside v ends play lp k) p)
        ∙ ap (λ (b : Bool). at lp p || b) (sym (any_snoc (holding p) fs (fragment_at v ends play lp k)));
  }
