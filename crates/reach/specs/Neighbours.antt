-- The neighbours of a port, in two tables: from the first dart that leaves it, each dart leads to the next.
--   Ports v ends             every dart leaves one of v ports
--   first_dart ends p         the lowest dart that leaves port p; the number of darts where none does
--   more_dart ends d          the lowest dart above d that leaves the port that d leaves; the number of darts where none does
--   first_darts v ends        the first darts of v ports
--   more_darts ends           for each dart the one after it at its port
-- Assumes nothing.
use Rattle.std.specs.Prelude.{List, map, ℕ, suc, ◌-◌, ◌<◌, eqb, length}
use Rattle.rules.specs.Lists.{from, seek}
use Rattle.rules.specs.Terms.{leaves}

abbrev pub Ports : ℕ → List ℕ → Type 0
Ports v ends = (d : ℕ) → d < length ends → leaves ends d < v

unfoldable pub first_dart : List ℕ → ℕ → ℕ
first_dart ends p = seek (λ d. eqb (leaves ends d) p) 0 (length ends)

unfoldable pub more_dart : List ℕ → ℕ → ℕ
more_dart ends d = seek (λ e. eqb (leaves ends e) (leaves ends d)) (suc d) (length ends - suc d)

unfoldable pub first_darts : ℕ → List ℕ → List ℕ
first_darts v ends = map (first_dart ends) (from 0 v)

unfoldable pub more_darts : List ℕ → List ℕ
more_darts ends = map (more_dart ends) (from 0 (length ends))
