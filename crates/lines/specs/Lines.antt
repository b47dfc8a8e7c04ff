-- The listing of what the slices hold.
--   spelled w ns                   the line of a word, given by its bytes w, and the fields of ns
--   line_of_word w paths             the line of the word w
--   plate_of v e ends               a plate of v ports and e channels
--   path_lines ends ps              the lines of the paths ps
--   port_lines ends turns p n       the lines of n ports, from p on
--   flat_lines ends turns ls v      the lines of the lands ls and of v ports
--   outcome_of ..                   an outcome, read off the turns, the lands' first darts and lengths, and a story
--   Ringed v ends turns            of each of v ports, as many darts clockwise from its smallest as it has are darts
--   Held v ends turns ..           what listing a plate asks of the slices
-- Assumes nothing.
use Rattle.std.specs.Prelude.{◌≡◌, List, [], ◌∷◌, ◌++◌, map, ℕ, ◌<◌, ◌≤◌, length, get_or}
use Rattle.rules.specs.Lists.{from, concat}
use Rattle.rules.specs.Terms.{missing, darts_at, ring}
use Rattle.rules.specs.Refusals.{Plate}
use Rattle.rules.specs.Laying.{Path, Outcome}
use Rattle.rules.specs.Listing.{fields, line, path_line, land_lines, port_line}
use Rattle.land.specs.Walks.{lands, Below}
use Rattle.rounds.specs.declared.Word.{Word}
use Rattle.rounds.specs.declared.Word.TheVariants.{Flat, Stuck, Partial}
use Rattle.rounds.specs.Words.{word_in, name_in}
use Rattle.lines.specs.Story.{paths_of, Told}

-- a line whose word is given by its bytes
unfoldable pub spelled : List ℕ → List ℕ → List ℕ
spelled w ns = w ++ fields ns ++ (10 ∷ [])

unfoldable pub line_of_word : Word → ℕ → List ℕ
line_of_word Flat paths = line "FLAT" (paths ∷ [])
line_of_word (Stuck k) paths = line "STUCK" (paths ∷ k ∷ [])
line_of_word Partial paths = line "PARTIAL" (paths ∷ [])

abbrev pub plate_of : ℕ → ℕ → List ℕ → Plate
plate_of v e ends = record { ports = v; channels = e; ends = ends }

-- Of a plate the lines of paths and ports read the ends alone.
unfoldable pub path_lines : List ℕ → List Path → List ℕ
path_lines ends ps = concat (map (path_line (plate_of 0 0 ends)) ps)

-- the ports from p on, n of them
unfoldable pub port_lines : List ℕ → List ℕ → ℕ → ℕ → List ℕ
port_lines ends turns p n = concat (map (port_line (plate_of 0 0 ends) turns) (from p n))

unfoldable pub flat_lines : List ℕ → List ℕ → List (List ℕ) → ℕ → List ℕ
flat_lines ends turns ls v = land_lines 0 ls ++ port_lines ends turns 0 v

abbrev pub outcome_of : Word → List ℕ → List ℕ → List ℕ → ℕ → List ℕ → ℕ → Outcome
outcome_of word turns firsts lens count story paths = record {
  word = word_in word;
  name = name_in word;
  state = record { turns = turns; lands = lands turns firsts lens count; paths = paths_of paths story };
}

abbrev pub Ringed : ℕ → List ℕ → List ℕ → Type 0
Ringed v ends turns = (p : ℕ) → p < v → Below (length turns) (ring turns (length (darts_at ends p)) (get_or (darts_at ends p) 0 0))

-- What a whole listing asks; the ports are listed where the word is FLAT.
pub record Held (v : ℕ) (ends turns story : List ℕ) (paths : ℕ) (word : Word) : Type 0 where
  pub few : length ends ≤ missing
  pub told : Told (length ends) paths story
  pub rings : word ≡ Flat → Ringed v ends turns
