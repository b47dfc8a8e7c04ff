-- Document 01, "Reading a sheet", and the writing of one ("Files"; refusal 16).
--   Judged                       what a sheet is read into: its lands, and whether it is flat
--   read_sheet b darts lengths    the reading call, so many elements being lent;  darts_read, lengths_read: the two buffers afterwards
--   judge_sheet b                 the same without buffers
--   write_sheet b lent            the bytes of the sheet of a plate file, so many bytes being lent;  bytes_left (Laying): the buffer afterwards
-- Assumes nothing.
use Rattle.std.specs.Prelude.{Bool, List, [], ◌∷◌, map, ℕ, ◌+◌, ◌*◌, eqb, length}
use Rattle.rules.specs.Lists.{concat}
use Rattle.rules.specs.Terms.{missing, lands_of}
use Rattle.rules.specs.Files.{sheet_file, file_length, file_of}
use Rattle.rules.specs.Refusals.{Answer, given, refused, Test, passed, Sheet, lent_test, read_plate, read_turns, ◌>>=◌, ◌>>◌}
use Rattle.rules.specs.Laying.{Outcome, FLAT, STUCK, PARTIAL, without_cap, laid_out, filled}

-- ---- reading

-- the E of the sheet, its lands, and whether it is flat
pub record Judged : Type 0 where
  pub channels : ℕ
  pub lands : List (List ℕ)
  pub flat : Bool

-- The sheet is flat when V − E + lands = 2.
unfoldable pub is_flat : ℕ → ℕ → ℕ → Bool
is_flat v e lands = eqb (v + lands) (e + 2)

-- Lands come in order of smallest dart.
unfoldable pub judged : Sheet → Judged
judged s =
    let ls = lands_of s.turns in
    record { channels = s.channels; lands = ls; flat = is_flat s.ports s.channels (length ls) }

unfoldable pub judge_sheet : List ℕ → Answer Judged
judge_sheet b = do
  s ← read_turns b
  given (judged s)

-- Turn sheets: 1-9, 12-14, 15. Buffers needed: 2E darts and E lengths.
unfoldable pub read_sheet : List ℕ → ℕ → ℕ → Answer Judged
read_sheet b darts lengths = do
  s ← read_turns b
  lent_test (record { needed = 2 * s.channels; lent = darts } ∷ record { needed = s.channels; lent = lengths } ∷ [])
  given (judged s)

-- The answer gives the number of lands and yes or no.
pub record Count : Type 0 where
  pub lands : ℕ
  pub flat : Bool

unfoldable pub counted : Answer Judged → Answer Count
counted (given j) = given (record { lands = length j.lands; flat = j.flat })
counted (refused n p) = refused n p

-- The rest is filled as above, lengths up to E.
unfoldable pub darts_read : Answer Judged → List ℕ → List ℕ
darts_read (given j) old = filled (concat j.lands) missing (2 * j.channels) old
darts_read (refused n p) old = old

unfoldable pub lengths_read : Answer Judged → List ℕ → List ℕ
lengths_read (given j) old = filled (map length j.lands) 0 j.channels old
lengths_read (refused n p) old = old

-- ---- writing

-- 16: a sheet is to be written and the answer is STUCK; the place is the name of the fragment
unfoldable pub stuck_test : Outcome → Test
stuck_test o = elim o.word [
  | FLAT ↦ passed
  | STUCK ↦ refused 16 o.name
  | PARTIAL ↦ passed
]

-- When a sheet is written, the plate is laid without a cap and the turns go into the part of the lent buffer that begins at byte 8 + 2E.
-- 1-11, then 15; the sheet writer also 16. Buffer needed: 8+6E bytes.
unfoldable pub write_sheet : List ℕ → ℕ → Answer (List ℕ)
write_sheet b bytes = do
  p ← read_plate b
  lent_test (record { needed = file_length sheet_file p.channels; lent = bytes } ∷ [])
  stuck_test (laid_out p without_cap)
  given (file_of sheet_file p.ports p.channels p.ends (laid_out p without_cap).state.turns)
