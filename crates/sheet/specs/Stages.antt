-- The reading of a sheet in stages.
--   lent_for e darts lengths      what the two lent buffers need for e channels, so many elements being lent
--   lands_in b                    the lands of the turns in the file b
--   read_into b darts lengths     the reading of the file b into the two buffers
-- Assumes nothing.
use Rattle.std.specs.Prelude.{List, [], ◌∷◌, ℕ, ◌*◌, length}
use Rattle.rules.specs.Terms.{lands_of}
use Rattle.rules.specs.Files.{sheet_file, turns_in}
use Rattle.rules.specs.Refusals.{Answer, Lent}
use Rattle.rules.specs.Sheets.{Judged, read_sheet}

abbrev pub lent_for : ℕ → ℕ → ℕ → List Lent
lent_for e darts lengths = record { needed = 2 * e; lent = darts } ∷ record { needed = e; lent = lengths } ∷ []

abbrev pub lands_in : List ℕ → List (List ℕ)
lands_in b = lands_of (turns_in sheet_file b)

abbrev pub read_into : List ℕ → List ℕ → List ℕ → Answer Judged
read_into b darts lengths = read_sheet b (length darts) (length lengths)
