-- One ring (rules, "Refusals", `one_ring`): the darts of a port form one exactly where the turns from the first of them come back to it first after as many turns as they are.
--   turn_of t d          the turn of dart d
--   g, m                of a list of darts that begins with a: the turns as a function, the length
-- onward_is, ring_is: turns as steps. darts_..: what the darts of a port are. back_ring, ring_back: the two directions.
-- Assumes nothing.
use mathlib.Core.Path.{◌≡◌, refl, sym, ap, ◌∙◌, subst}
use mathlib.Core.Logic.{◌≢◌, ⊎_elim}
use mathlib.Core.List.{List, ◌∷◌}
use Prim.Native.Nat.{ℕ, zero, suc, ◌≤◌, ◌<◌}
use native.Mathlib.Nat.{not-suc-le-zero, eq-zero-or-pos}
use native.Mathlib.Omega.{arith}
use lib.Dec.{T, eqb, eqb→eq}
use lib.ListN.{length, get_or}
use Rattle.rules.specs.Lists.{from, all, has}
use Rattle.rules.specs.Terms.{leaves, darts_at, onward, ring}
use Rattle.rules.specs.Refusals.{one_ring}
use Rattle.laws.proofs.Tests.{and_T, T_and, eq_eqb}
use Rattle.laws.proofs.Counts.{is_self, count, filled_up}
use Rattle.laws.proofs.Lists.{all_T, keep_le, keep_T, T_keep, count_from, from_lt, from_once, count_has, has_count, T_all}
use Rattle.laws.proofs.Orbits.{steps, orbit, Back, steps_keep, length_orbit, orbit_from, orbit_has, back_once}
use Rattle.rings.specs.Turns.{AtPorts}

-- ---- turns as steps

abbrev pub turn_of : List ℕ → ℕ → ℕ
turn_of t d = get_or t d 0

pub onward_is : (t : List ℕ) (n d : ℕ) → onward t n d ≡ steps (turn_of t) n d
unfolding onward steps
onward_is t zero d = refl
onward_is t (suc n) d = onward_is t n (get_or t d 0)

pub ring_is : (t : List ℕ) (n d : ℕ) → ring t n d ≡ orbit (turn_of t) n d
unfolding ring orbit
ring_is t zero d = refl
ring_is t (suc n) d = ap (λ (l : List ℕ). d ∷ l) (ring_is t n (get_or t d 0))

-- ---- the darts of a port

module _ (ends : List ℕ) (p : ℕ) where
  pub darts_inside : (z : ℕ) → 1 ≤ count z (darts_at ends p) → z < length ends
  unfolding darts_at
  darts_inside z h = omega (arith, from_lt z 0 (length ends) (omega (arith, keep_le (λ d. eqb (leaves ends d) p) (from 0 (length ends)) z)))

  pub darts_leave : (z : ℕ) → 1 ≤ count z (darts_at ends p) → leaves ends z ≡ p
  unfolding darts_at
  darts_leave z h = eqb→eq (leaves ends z) p (keep_T (λ d. eqb (leaves ends d) p) (from 0 (length ends)) z h)

  pub darts_once : (z : ℕ) → count z (darts_at ends p) ≤ 1
  unfolding darts_at
  darts_once z = omega (arith, keep_le (λ d. eqb (leaves ends d) p) (from 0 (length ends)) z, from_once z 0 (length ends))

  pub darts_has : (z : ℕ) → z < length ends → leaves ends z ≡ p → 1 ≤ count z (darts_at ends p)
  unfolding darts_at
  darts_has z h e = T_keep (λ d. eqb (leaves ends d) p) (from 0 (length ends)) z (count_from z 0 (length ends) (omega arith) (omega arith)) (eq_eqb (leaves ends z) p e)

-- turns lead from a dart of the port to darts of the port
pub steps_stay : (ends t : List ℕ) (p : ℕ) → AtPorts ends t → (i a : ℕ) → 1 ≤ count a (darts_at ends p) → 1 ≤ count (steps (turn_of t) i a) (darts_at ends p)
steps_stay ends t p g i a h =
    steps_keep (turn_of t) (λ d. 1 ≤ count d (darts_at ends p))
    (λ d k. let b = darts_inside ends p d k in darts_has ends p (get_or t d 0) (g.range.dart d b) (g.port d b ∙ darts_leave ends p d k)) i a h

-- ---- one ring

module _ (n : ℕ) (t : List ℕ) (a : ℕ) (l : List ℕ) (inside : (z : ℕ) → 1 ≤ count z (a ∷ l) → z < n) (once : (z : ℕ) → count z (a ∷ l) ≤ 1) (stay : (i : ℕ) → 1 ≤ count (steps (turn_of t) i a) (a ∷ l)) where
  abbrev g : ℕ → ℕ
  g = turn_of t

  abbrev m : ℕ
  m = length (a ∷ l)

  -- the turns up to the first return are darts of the list, without repetition
  within : Back g m a → (z : ℕ) → count z (orbit g m a) ≤ count z (a ∷ l)
  within b z =
      ⊎_elim (λ k. omega arith)
      (λ k. let r = orbit_from g m a z k in let s : 1 ≤ count z (a ∷ l) = subst (λ (y : ℕ). 1 ≤ count y (a ∷ l)) r.2 (stay r.0) in omega (arith, back_once g m a b z)) (eq-zero-or-pos (count z (orbit g m a)))

  pub back_ring : Back g m a → T (one_ring t (a ∷ l))
  unfolding one_ring
  back_ring b =
      T_and (all (has (ring t m a)) (a ∷ l)) (eqb (onward t m a) a)
      (T_all (has (ring t m a)) (a ∷ l) (λ d h.
      count_has (ring t m a) d (rw (ring_is t m a) (omega (arith, filled_up n (orbit g m a) (a ∷ l) inside (within b) (omega (arith, length_orbit g m a)) d)))))
      (eq_eqb (onward t m a) a (onward_is t m a ∙ b.here))

  -- where each dart of the list is among the turns, none is twice
  covers : T (all (has (ring t m a)) (a ∷ l)) → (z : ℕ) → count z (a ∷ l) ≤ count z (orbit g m a)
  covers w z =
      ⊎_elim (λ k. omega arith)
      (λ k.
      let s : 1 ≤ count z (orbit g m a) = subst (λ (r : List ℕ). 1 ≤ count z r) (ring_is t m a) (has_count (ring t m a) z (all_T (has (ring t m a)) (a ∷ l) z w k)) in
      omega (arith, once z)) (eq-zero-or-pos (count z (a ∷ l)))

  full : T (all (has (ring t m a)) (a ∷ l)) → count a (orbit g m a) ≤ 1
  full w =
      omega (
        arith,
        once a,
        filled_up n (a ∷ l) (orbit g m a) (λ z k. let r = orbit_from g m a z k in inside z (subst (λ (y : ℕ). 1 ≤ count y (a ∷ l)) r.2 (stay r.0))) (covers w) (omega (arith, length_orbit g m a)) a,
      )

  never : T (all (has (ring t m a)) (a ∷ l)) → (j : ℕ) → 1 ≤ j → j < m → steps g j a ≢ a
  unfolding orbit count steps
  never w zero x y e = not-suc-le-zero x
  never w (suc j) x y e =
      let again : 1 ≤ count a (orbit g (length l) (get_or t a 0)) = subst (λ (y : ℕ). 1 ≤ count y (orbit g (length l) (get_or t a 0))) e (orbit_has g (length l) (get_or t a 0) j (omega arith)) in
      not-suc-le-zero {n = 0} (omega (arith, full w, is_self a))

  pub ring_back : T (one_ring t (a ∷ l)) → Back g m a
  unfolding one_ring
  ring_back r =
      let w = and_T (all (has (ring t m a)) (a ∷ l)) (eqb (onward t m a) a) r in
      record { some = omega arith; here = sym (onward_is t m a) ∙ eqb→eq (onward t m a) a w.1; never = never w.0 }
