-- The record of what was laid, as one list of numbers.
--   entry_of q               of a path: its fragment, its land, how many darts it has, and the darts
--   story_of cyc ps          of the first cycle and the paths: how many darts the cycle has, its darts, and then the entry of each path
-- Assumes nothing.
use Rattle.std.specs.Prelude.{List, ◌∷◌, ◌++◌, map, ℕ, length}
use Rattle.rules.specs.Lists.{concat}
use Rattle.rules.specs.Laying.{Path}

unfoldable pub entry_of : Path → List ℕ
entry_of q = q.fragment ∷ q.land ∷ length q.darts ∷ q.darts

unfoldable pub story_of : List ℕ → List Path → List ℕ
story_of cyc ps = length cyc ∷ cyc ++ concat (map entry_of ps)
