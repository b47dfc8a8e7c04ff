-- Tests 10 and 11 by floods (specs of reach): what a flood from port 0, and one from the lowest other port with port c marked, leave unmarked.
-- apart_found: the lowest port that test 10 refuses. cut_found: whether test 11 refuses port c.
-- other_free: the lowest other port has no mark where port c alone has one.
-- Assumes nothing.
use mathlib.Core.Path.{◌≡◌, refl, sym, ap, ◌∙◌}
use mathlib.Core.Logic.{◌≢◌}
use mathlib.Core.Bool.{Bool, true, false, cond, not, ◌&&◌, ◌||◌}
use mathlib.Core.List.{List}
use Prim.Native.Nat.{ℕ, ◌<◌}
use native.Mathlib.Nat.{not-suc-le-zero}
use native.Mathlib.Omega.{arith}
use borrow.Author.Tests.{ne_eqb, eqb-true, eqb-false}
use lib.Dec.{eqb}
use lib.ListN.{length, set, replicate, length-replicate, length-set}
use Rattle.std.specs.List.{find}
use Rattle.std.specs.Option.{is_some}
use Rattle.std.specs.declared.option.Option.{Option}
use Rattle.rules.specs.Lists.{from, at}
use Rattle.rules.specs.Ways.{only, reached}
use Rattle.rules.specs.Refusals.{apart, cuts}
use Rattle.reach.specs.Floods.{joined, around}
use Rattle.reach.proofs.Around.{at_joined, none_at, around_none, only_at, around_only, length_joined}
use Rattle.pieces.proofs.Search.{find_ext, any_find}

-- ---- what a flood leaves

not_or : (a b : Bool) → not (a || b) ≡ (not a && not b)
not_or true b = refl
not_or false b = refl

module _ (v : ℕ) (ends : List ℕ) (play : List Bool) where
  pub apart_found : (m n : List Bool) (u : Option ℕ) → m ≡ replicate v false → n ≡ joined m (around ends play m 0) → u ≡ find (λ p. not (at n p)) (from 0 (length n)) → u ≡ find (apart v ends play) (from 0 v)
  unfolding apart
  apart_found m n u p q r =
      let long : length (replicate v false) ≡ v = length-replicate v false in
      let e : n ≡ joined (replicate v false) (reached v ends play (λ q. true) 0) = q ∙ rw (p, around_none v ends play 0) in
      let size : length n ≡ v = ap length e ∙ length_joined (replicate v false) (reached v ends play (λ q. true) 0) ∙ long in
      r ∙ ap (λ (k : ℕ). find (λ p. not (at n p)) (from 0 k)) size
      ∙ find_ext (λ p. not (at n p)) (λ p. not (at (reached v ends play (λ q. true) 0) p)) 0 v
      (λ k a b. ap not (ap (λ (l : List Bool). at l k) e ∙ at_joined (replicate v false) (reached v ends play (λ q. true) 0) k (omega arith) ∙ ap (λ (t : Bool). t || at (reached v ends play (λ q. true) 0) k) (none_at v k)))

  pub cut_found : (c o : ℕ) (m n : List Bool) (u : Option ℕ) → c < v → o ≡ cond (eqb c 0) 1 0 → m ≡ replicate v false → n ≡ joined (set m c true) (around ends play (set m c true) o)
      → u ≡ find (λ p. not (at n p)) (from 0 (length n)) → is_some u ≡ cuts v ends play c
  unfolding cuts
  cut_found c o m n u h d p q r =
      let R : List Bool = reached v ends play (λ q. not (eqb q c)) (cond (eqb c 0) 1 0) in
      let long : length (only v c) ≡ v = length-set (replicate v false) c true ∙ length-replicate v false in
      let e : n ≡ joined (only v c) R = q ∙ rw (p, d, around_only v c ends play (cond (eqb c 0) 1 0) h) in
      let size : length n ≡ v = ap length e ∙ length_joined (only v c) R ∙ long in
      let found : find (λ p. not (at n p)) (from 0 v) ≡ find (λ p. not (eqb p c) && not (at R p)) (from 0 v) =
      find_ext (λ p. not (at n p)) (λ p. not (eqb p c) && not (at R p)) 0 v
      (λ k a b. ap (λ (l : List Bool). not (at l k)) e ∙ ap not (at_joined (only v c) R k (omega arith)) ∙ rw (only_at v c k h) (not_or (eqb k c) (at R k))) in
      rw (r, size, found) (any_find (λ p. not (eqb p c) && not (at R p)) (from 0 v))

pub cuts_as : (v w : ℕ) (ends : List ℕ) (play : List Bool) (c : ℕ) (r : Bool) → w ≡ v → r ≡ cuts w ends play c → cuts v ends play c ≡ r
cuts_as v w ends play c r d e = ap (λ (n : ℕ). cuts n ends play c) (sym d) ∙ sym e

-- ---- the lowest other port

other_apart : (c : ℕ) (b : Bool) → eqb c 0 ≡ b → cond b 1 0 ≢ c
other_apart c true e q = not-suc-le-zero {n = 0} (omega (arith, eqb-true c 0 e))
other_apart c false e q = eqb-false c 0 e (sym q)

pub other_free : (v c o : ℕ) (m : List Bool) → c < v → o ≡ cond (eqb c 0) 1 0 → m ≡ replicate v false → at (set m c true) o ≡ false
other_free v c o m h d p = rw p (only_at v c o h ∙ ne_eqb o c (λ q. other_apart c (eqb c 0) refl (sym d ∙ q)))
