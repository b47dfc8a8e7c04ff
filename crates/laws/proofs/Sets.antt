-- Sets of ports as lists of flags: membership, size, and a set that grows until nothing is added.
--   size s          how many ports s holds
--   Sub s r         every port of s is one of r
-- at_.., only_is: what `set` and `only` hold. sub_size: a set within another is that one, or smaller. iter_closed: a step that only adds, taken as often as there are ports, adds no more.
-- Assumes nothing.
use mathlib.Core.Path.{◌≡◌, subst, ◌∙◌, refl, sym, ap}
use mathlib.Core.Logic.{◌⊎◌, inl, inr, ⊎_elim}
use mathlib.Core.Bool.{Bool, true, false}
use mathlib.Core.List.{List, [], ◌∷◌}
use Prim.Native.Nat.{ℕ, ◌<◌, zero, suc, ◌+◌, ◌≤◌}
use native.Mathlib.Nat.{suc-ne-zero, suc_inj, not-suc-le-zero}
use native.Mathlib.Decide.{ℕ_discrete}
use native.Mathlib.Omega.{arith}
use lib.Dec.{T}
use lib.ListN.{length, set, replicate, length-replicate, length-set}
use lib.Seq.{get_or-set_same, get_or-set_other}
use Rattle.rules.specs.Lists.{at}
use Rattle.rules.specs.Ways.{only, iter}
use Rattle.laws.proofs.Counts.{flag}
use Rattle.laws.proofs.Lists.{replicate_at}

-- ---- membership

pub at_lt : (s : List Bool) (p : ℕ) → T (at s p) → p < length s
unfolding at
at_lt [] p t = absurd t
at_lt (b ∷ s) zero t = omega arith
at_lt (b ∷ s) (suc p) t = omega (arith, at_lt s p t)

pub at_set_same : (s : List Bool) (p : ℕ) → p < length s → T (at (set s p true) p)
unfolding at
at_set_same s p h = rw (get_or-set_same s p true false h) tt

pub at_set_keeps : (s : List Bool) (i p : ℕ) → T (at s p) → T (at (set s i true) p)
unfolding at
at_set_keeps s i p h = go (ℕ_discrete p i)
  where
    go : Dec (p ≡ i) → T (at (set s i true) p)
    go (yes e) = subst (λ (j : ℕ). T (at (set s j true) p)) e (at_set_same s p (at_lt s p h))
    go (no n) = rw (get_or-set_other s i p true false n) h

pub at_set_from : (s : List Bool) (i p : ℕ) → T (at (set s i true) p) → (p ≡ i) ⊎ T (at s p)
unfolding at
at_set_from s i p h = go (ℕ_discrete p i)
  where
    go : Dec (p ≡ i) → (p ≡ i) ⊎ T (at s p)
    go (yes e) = inl e
    go (no n) = inr (rw (get_or-set_other s i p true false n) at h)

pub at_none : (n q : ℕ) → T (at (replicate n false) q) → ⊥
unfolding at
at_none n q t = subst T (replicate_at n q false) t

pub only_is : (np y p : ℕ) → T (at (only np y) p) → p ≡ y
only_is np y p t = ⊎_elim (λ e. e) (λ k. absurd (at_none np p k)) (at_set_from (replicate np false) y p t)

pub only_self : (np y : ℕ) → y < np → T (at (only np y) y)
only_self np y h = at_set_same (replicate np false) y (omega (arith, length-replicate np false))

pub length_only : (np y : ℕ) → length (only np y) ≡ np
length_only np y = length-set (replicate np false) y true ∙ length-replicate np false

-- ---- size

unfoldable pub size : List Bool → ℕ
size [] = 0
size (b ∷ s) = flag b + size s

pub size_le : (s : List Bool) → size s ≤ length s
unfolding size
size_le [] = omega arith
size_le (true ∷ s) = omega (arith, size_le s)
size_le (false ∷ s) = omega (arith, size_le s)

abbrev pub Sub : List Bool → List Bool → Type 0
Sub s r = (p : ℕ) → T (at s p) → T (at r p)

pub sub_size : (s r : List Bool) → length s ≡ length r → Sub s r → (s ≡ r) ⊎ (size s < size r)
unfolding at size
sub_size [] [] e h = inl refl
sub_size [] (c ∷ r) e h = absurd (suc-ne-zero (length r) (sym e))
sub_size (b ∷ s) [] e h = absurd (suc-ne-zero (length s) e)
sub_size (true ∷ s) (true ∷ r) e h =
    ⊎_elim (λ k. inl (ap (λ (m : List Bool). true ∷ m) k)) (λ k. inr (omega arith)) (sub_size s r (suc_inj e) (λ p. h (suc p)))
sub_size (false ∷ s) (false ∷ r) e h =
    ⊎_elim (λ k. inl (ap (λ (m : List Bool). false ∷ m) k)) (λ k. inr (omega arith)) (sub_size s r (suc_inj e) (λ p. h (suc p)))
sub_size (false ∷ s) (true ∷ r) e h =
    ⊎_elim (λ k. inr (omega (arith, ap size k))) (λ k. inr (omega arith)) (sub_size s r (suc_inj e) (λ p. h (suc p)))
sub_size (true ∷ s) (false ∷ r) e h = absurd (h zero tt)

pub size_only : (np y : ℕ) → y < np → 1 ≤ size (only np y)
unfolding size
size_only zero y h = omega arith
size_only (suc n) zero h = omega arith
size_only (suc n) (suc y) h = omega (arith, size_only n y (omega arith))

-- ---- a set that grows: after as many steps as there are ports it is closed

pub iter_fixed : (f : List Bool → List Bool) (n : ℕ) (s : List Bool) → f s ≡ s → iter f n s ≡ s
unfolding iter
iter_fixed f zero s e = refl
iter_fixed f (suc n) s e = ap (iter f n) e ∙ iter_fixed f n s e

pub iter_more : (f : List Bool → List Bool) → ((s : List Bool) → Sub s (f s)) → (n : ℕ) (s : List Bool) → Sub s (iter f n s)
unfolding iter
iter_more f more zero s p t = t
iter_more f more (suc n) s p t = iter_more f more n (f s) p (more s p t)

pub iter_length : (f : List Bool → List Bool) → ((s : List Bool) → length (f s) ≡ length s) → (n : ℕ) (s : List Bool) → length (iter f n s) ≡ length s
unfolding iter
iter_length f len zero s = refl
iter_length f len (suc n) s = iter_length f len n (f s) ∙ len s

pub iter_closed : (f : List Bool → List Bool) → ((s : List Bool) → length (f s) ≡ length s) → ((s : List Bool) → Sub s (f s))
    → (n : ℕ) (s : List Bool) → length s < n + size s → f (iter f n s) ≡ iter f n s
unfolding iter
iter_closed f len more zero s h = absurd (not-suc-le-zero {n = 0} (omega (arith, size_le s)))
iter_closed f len more (suc n) s h =
    ⊎_elim (λ e. subst (λ r. f r ≡ r) (sym (ap (iter f n) (sym e) ∙ iter_fixed f n s (sym e))) (sym e))
    (λ k. iter_closed f len more n (f s) (omega (arith, len s)))
    (sub_size s (f s) (sym (len s)) (more s))
