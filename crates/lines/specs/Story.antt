-- The story of a laying (step, "Stories"), read back.
--   cycle_of s           the first cycle's darts, read off a story
--   paths_in n s         n paths, read off the part s of a story
--   paths_of n s         n paths, read off a story
--   Entries m n s       s tells n paths, each of one dart at least, and every dart is below m
--   Told m n s          s tells a first cycle and n paths, and every dart is below m
-- Assumes nothing.
use Rattle.std.specs.Prelude.{List, [], ◌∷◌, ℕ, zero, suc, ◌+◌, ◌≤◌, ◌<◌, length, get_or, take, drop}
use Rattle.rules.specs.Laying.{Path}
use Rattle.land.specs.Walks.{Below}

unfoldable pub cycle_of : List ℕ → List ℕ
cycle_of s = take (get_or s 0 0) (drop 1 s)

unfoldable pub paths_in : ℕ → List ℕ → List Path
paths_in zero s = []
paths_in (suc n) s = record { fragment = get_or s 0 0; land = get_or s 1 0; darts = take (get_or s 2 0) (drop 3 s) } ∷ paths_in n (drop (3 + get_or s 2 0) s)

unfoldable pub paths_of : ℕ → List ℕ → List Path
paths_of n s = paths_in n (drop (1 + get_or s 0 0) s)

-- ---- what reading it asks

abbrev pub Entries : ℕ → ℕ → List ℕ → Type 0
Entries m zero s = Unit {0}
Entries m (suc n) s =
    (3 + get_or s 2 0 ≤ length s) × (0 < get_or s 2 0) × Below m (take (get_or s 2 0) (drop 3 s)) × Entries m n (drop (3 + get_or s 2 0) s)

pub record Told (m n : ℕ) (s : List ℕ) : Type 0 where
  pub some : 1 + get_or s 0 0 ≤ length s
  pub cycle : Below m (cycle_of s)
  pub paths : Entries m n (drop (1 + get_or s 0 0) s)
