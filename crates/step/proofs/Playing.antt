-- The lowest channel in play: the first place of the flags that is set.
-- first_on: what `position` answers, where some channel is in play.
-- Assumes nothing.
use mathlib.Core.Path.{◌≡◌, refl, ap, ◌∙◌}
use mathlib.Core.Bool.{Bool, true, false, cond}
use mathlib.Core.List.{List, [], ◌∷◌}
use Prim.Native.Nat.{ℕ, zero, suc, ◌+◌}
use native.Mathlib.Omega.{arith}
use lib.Dec.{T, ltb}
use lib.ListN.{length, get_or}
use Rattle.std.specs.List.{position_or_len}
use Rattle.std.proofs.lemmas.Bool.{lt-ltb}
use Rattle.std.specs.declared.option.Option.{Option}
use Rattle.std.specs.declared.option.Option.TheVariants.{Some, None}
use Rattle.rules.specs.Lists.{seek, at}
use Rattle.laws.proofs.Sets.{at_lt}

cond_suc : (t : Bool) (x y : ℕ) → cond t (suc x) (suc y) ≡ suc (cond t x y)
cond_suc true x y = refl
cond_suc false x y = refl

-- behind one flag more
behind : (b : Bool) (bs : List Bool) (i n : ℕ) → seek (at (b ∷ bs)) (suc i) n ≡ suc (seek (at bs) i n)
unfolding seek at
behind b bs i zero = refl
behind b bs i (suc n) = ap (cond (get_or bs i false) (suc i)) (behind b bs (suc i) n) ∙ cond_suc (get_or bs i false) i (seek (at bs) (suc i) n)

place : (bs : List Bool) → position_or_len (λ b. b) bs ≡ seek (at bs) 0 (length bs)
unfolding seek at
place [] = refl
place (true ∷ bs) = refl
place (false ∷ bs) = ap (λ (n : ℕ). 1 + n) (place bs) ∙ omega (arith, behind false bs 0 (length bs))

pub first_on : (play : List Bool) (r : Option ℕ) → r ≡ cond (ltb (position_or_len (λ b. b) play) (length play)) (Some (position_or_len (λ b. b) play)) None
    → T (at play (seek (at play) 0 (length play))) → r ≡ Some (seek (at play) 0 (length play))
first_on play r e o = e ∙ rw (place play) (rw (lt-ltb (seek (at play) 0 (length play)) (length play) (at_lt play _ o)) refl)
