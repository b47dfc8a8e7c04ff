-- The loop of `is_ring`: the turns and the darts of the port are followed together, from the port's first dart on.
--   Followed ends t p a d k      so many turns lead from a to d, none before them comes back to a, and the darts of port p from k on are as many as are left
-- darts_begin: the darts of the port. start, step: the invariant at the beginning and after one turn. early: a return while darts are left. end: what it comes to where none is left. bare: a port without darts.
-- Assumes nothing.
use mathlib.Core.Path.{◌≡◌, sym, ap, ◌∙◌, subst}
use mathlib.Core.Logic.{◌≢◌, ⊎_elim}
use mathlib.Core.Bool.{true, false}
use mathlib.Core.List.{List, ◌∷◌}
use Prim.Native.Nat.{ℕ, suc, ◌+◌, ◌≤◌, ◌<◌}
use native.Mathlib.Nat.{not-suc-le-zero}
use native.Mathlib.Decide.{ℕ_discrete}
use native.Mathlib.Omega.{arith}
use lib.Dec.{T, eqb}
use lib.ListN.{length, get_or}
use Rattle.rules.specs.Terms.{leaves, darts_at}
use Rattle.rules.specs.Refusals.{one_ring}
use Rattle.laws.proofs.Tests.{T_is, T_isnt, eqb_yes, eqb_no}
use Rattle.laws.proofs.Counts.{is_cases, is_apart, count, count_head}
use Rattle.laws.proofs.Orbits.{steps, Back, steps_suc}
use Rattle.reach.specs.Neighbours.{first_dart, more_dart}
use Rattle.reach.proofs.Chains.{chain, chain_none, chain_first, chain_more, first_leaves, more_leaves}
use Rattle.rings.specs.Turns.{AtPorts}
use Rattle.rings.proofs.Rings.{turn_of, darts_inside, darts_once, steps_stay, back_ring, ring_back}

pub record Followed (ends t : List ℕ) (p a d k : ℕ) : Type 0 where
  pub made : ℕ
  pub some : 1 ≤ made
  pub here : d ≡ steps (turn_of t) made a
  pub never : (j : ℕ) → 1 ≤ j → j < made → steps (turn_of t) j a ≢ a
  pub left : made + length (chain ends p k) ≡ length (darts_at ends p)
  -- the dart at hand leaves the port
  pub leave : k < length ends → leaves ends k ≡ p

-- a port without darts
pub bare : (ends t : List ℕ) (p : ℕ) → length ends ≤ first_dart ends p → true ≡ one_ring t (darts_at ends p)
unfolding one_ring
bare ends t p h = sym (ap (one_ring t) (chain_first ends p ∙ chain_none ends p (first_dart ends p) h))

module _ (ends t : List ℕ) (p a : ℕ) (first : a ≡ first_dart ends p) (b : a < length ends) where
  leave_first : leaves ends a ≡ p
  leave_first = ap (leaves ends) first ∙ first_leaves ends p (omega arith)

  -- the darts of the port begin with its first
  pub darts_begin : darts_at ends p ≡ a ∷ chain ends p (more_dart ends a)
  darts_begin = chain_first ends p ∙ ap (chain ends p) (sym first) ∙ chain_more ends p a b leave_first

  pub start : (d k : ℕ) → d ≡ get_or t a 0 → k ≡ more_dart ends a → Followed ends t p a d k
  unfolding steps
  start d k e f = record {
    made = 1;
    some = omega arith;
    here = e;
    never = λ j x y. absurd (not-suc-le-zero {n = 0} (omega arith));
    left = omega (arith, ap length darts_begin, ap (λ (z : ℕ). length (chain ends p z)) f);
    leave = λ h. ap (leaves ends) f ∙ more_leaves ends a b (omega arith) ∙ leave_first;
  }

  pub step : (d k : ℕ) → Followed ends t p a d k → k < length ends → d ≢ a → (d' k' : ℕ) → d' ≡ get_or t d 0 → k' ≡ more_dart ends k → Followed ends t p a d' k'
  step d k f h ne d' k' e q = record {
    made = suc f.made;
    some = omega arith;
    here = e ∙ ap (turn_of t) f.here ∙ sym (steps_suc (turn_of t) f.made a);
    never = λ j x y. ⊎_elim (λ z. (λ r. ne (f.here ∙ ap (λ (i : ℕ). steps (turn_of t) i a) (sym z) ∙ r))) (λ z. let no' : j ≢ f.made = is_apart j f.made z in f.never j x (omega arith)) (is_cases j f.made);
    left = omega (arith, f.left, ap length (chain_more ends p k h (f.leave h)), ap (λ (z : ℕ). length (chain ends p z)) q);
    leave = λ i. ap (leaves ends) q ∙ more_leaves ends k h (omega arith) ∙ f.leave h;
  }

  module _ (g : AtPorts ends t) where
    abbrev n : ℕ
    n = length (a ∷ chain ends p (more_dart ends a))

    in_port : (z : ℕ) → 1 ≤ count z (a ∷ chain ends p (more_dart ends a)) → 1 ≤ count z (darts_at ends p)
    in_port z h = subst (λ (l : List ℕ). 1 ≤ count z l) (sym darts_begin) h

    inside : (z : ℕ) → 1 ≤ count z (a ∷ chain ends p (more_dart ends a)) → z < length ends
    inside z h = darts_inside ends p z (in_port z h)

    once : (z : ℕ) → count z (a ∷ chain ends p (more_dart ends a)) ≤ 1
    once z = omega (arith, darts_once ends p z, ap (count z) darts_begin)

    stay : (i : ℕ) → 1 ≤ count (steps (turn_of t) i a) (a ∷ chain ends p (more_dart ends a))
    stay i = subst (λ (l : List ℕ). 1 ≤ count (steps (turn_of t) i a) l) darts_begin (steps_stay ends t p g i a (in_port a (count_head a _)))

    ring_of : Back (turn_of t) n a → T (one_ring t (darts_at ends p))
    ring_of r = subst (λ (l : List ℕ). T (one_ring t l)) (sym darts_begin) (back_ring (length ends) t a _ inside once stay r)

    of_ring : T (one_ring t (darts_at ends p)) → Back (turn_of t) n a
    of_ring r = ring_back (length ends) t a _ inside once stay (subst (λ (l : List ℕ). T (one_ring t l)) darts_begin r)

    -- turns lead to darts
    pub followed_in : (d k : ℕ) → Followed ends t p a d k → d < length ends
    followed_in d k f = omega (arith, f.here, inside (steps (turn_of t) f.made a) (stay f.made))

    pub early : (d k : ℕ) → Followed ends t p a d k → k < length ends → d ≡ a → false ≡ one_ring t (darts_at ends p)
    early d k f h e =
        sym (T_isnt (one_ring t (darts_at ends p)) (λ r.
        (of_ring r).never f.made f.some (omega (arith, f.left, ap length (chain_more ends p k h (f.leave h)), ap length darts_begin)) (sym f.here ∙ e)))

    pub end : (d k : ℕ) → Followed ends t p a d k → length ends ≤ k → eqb d a ≡ one_ring t (darts_at ends p)
    end d k f h = go (ℕ_discrete d a)
      where
        all : f.made ≡ n
        all = omega (arith, f.left, ap length (chain_none ends p k h), ap length darts_begin)

        go : Dec (d ≡ a) → eqb d a ≡ one_ring t (darts_at ends p)
        go (yes e) =
            eqb_yes d a e
            ∙ sym (T_is (one_ring t (darts_at ends p)) (ring_of (subst (λ (i : ℕ). Back (turn_of t) i a) all (record { some = f.some; here = sym f.here ∙ e; never = f.never }))))
        go (no e) =
            eqb_no d a e
            ∙ sym (T_isnt (one_ring t (darts_at ends p)) (λ r. e (f.here ∙ subst (λ (i : ℕ). steps (turn_of t) i a ≡ a) (sym all) (of_ring r).here)))
