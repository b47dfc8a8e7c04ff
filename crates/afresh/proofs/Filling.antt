-- The two buffers of `list_lands` afterwards (rules, "Laying", `filled`).
-- unmarked: marks at the start. darts_filled: the lands take up every place of the darts, so nothing is left to fill. lengths_filled: where the places were 0 before, the lengths are followed by 0.
-- Assumes nothing.
use mathlib.Core.Path.{◌≡◌, sym, ap, ◌∙◌}
use mathlib.Core.Bool.{false}
use mathlib.Core.List.{List, ◌++◌, map, append_assoc, append-nil}
use Prim.Native.Nat.{ℕ, zero, suc, ◌-◌, ◌/◌, ◌≤◌}
use native.Mathlib.Omega.{arith}
use lib.ListN.{length, drop, replicate, length-replicate, length-map}
use lib.Seq.{drop-append-le}
use Rattle.rules.specs.Lists.{at, concat}
use Rattle.rules.specs.Terms.{missing, lands_of}
use Rattle.rules.specs.Laying.{filled}
use Rattle.laws.proofs.Tests.{T_isnt}
use Rattle.laws.proofs.Sets.{at_none}
use Rattle.laws.proofs.Permuting.{Permuting}
use Rattle.laws.proofs.Gathering.{lands_lands_of}

pub unmarked : (n d : ℕ) → at (replicate n false) d ≡ false
unmarked n d = T_isnt (at (replicate n false) d) (at_none n d)

drop_replicate : (k n x : ℕ) → drop k (replicate n x) ≡ replicate (n - k) x
drop_replicate zero n x = let e : n ≡ n - 0 = omega arith in ap (λ (m : ℕ). replicate m x) e
drop_replicate (suc k) zero x = let e : 0 ≡ 0 - suc k = omega arith in ap (λ (m : ℕ). replicate m x) e
drop_replicate (suc k) (suc n) x = drop_replicate k n x ∙ (let e : n - k ≡ suc n - suc k = omega arith in ap (λ (m : ℕ). replicate m x) e)

module _ (t : List ℕ) (w : Permuting t) where
  pub darts_filled : (o darts : List ℕ) → darts ≡ concat (lands_of t) ++ drop (length t) o → darts ≡ filled (concat (lands_of t)) missing (length t) o
  unfolding filled
  darts_filled o darts e =
      let z : length t - length (concat (lands_of t)) ≡ 0 = omega (arith, (lands_lands_of t w).total) in
      e ∙ rw (z, append-nil)

  pub lengths_filled : (lo l₁ l₂ : List ℕ) → l₁ ≡ replicate (length t / 2) 0 ++ drop (length t / 2) lo → l₂ ≡ map length (lands_of t) ++ drop (length (lands_of t)) l₁
      → l₂ ≡ filled (map length (lands_of t)) 0 (length t / 2) lo
  unfolding filled
  lengths_filled lo l₁ l₂ p q =
      let zeros : List ℕ = replicate (length t / 2) 0 in
      let few : length (lands_of t) ≤ length zeros = omega (arith, (lands_lands_of t w).few, length-replicate {A = ℕ} (length t / 2) 0) in
      q
      ∙ ap (λ (l : List ℕ). map length (lands_of t) ++ drop (length (lands_of t)) l) p
      ∙ rw (drop-append-le (length (lands_of t)) zeros (drop (length t / 2) lo) few, drop_replicate (length (lands_of t)) (length t / 2) 0, length-map)
      (sym (append_assoc (map length (lands_of t)) (replicate (length t / 2 - length (lands_of t)) 0) (drop (length t / 2) lo)))
