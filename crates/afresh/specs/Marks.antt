-- The marks of darts that are in a land.
--   marked l s      the flags s with those of the darts l set
-- Assumes nothing.
use Rattle.std.specs.Prelude.{Bool, true, List, [], ◌∷◌, ℕ, set}

unfoldable pub marked : List ℕ → List Bool → List Bool
marked [] s = s
marked (d ∷ l) s = marked l (set s d true)
