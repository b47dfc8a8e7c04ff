-- Document 01, "The mill": the numbers that its two C calls answer.
-- Assumes nothing.
use Rattle.std.specs.Prelude.{cond, List, ℕ, ◌+◌, ◌*◌, length}
use Rattle.rules.specs.Refusals.{Answer, given, refused}
use Rattle.rules.specs.Sheets.{Judged, judge_sheet, write_sheet}

-- A refusal is number × 65,536 + place.
unfoldable pub refusal_number : ℕ → ℕ → ℕ
refusal_number n p = n * 65536 + p

-- write a sheet from a plate (0 for done)
unfoldable pub done_number : Answer (List ℕ) → ℕ
done_number (given s) = 0
done_number (refused n p) = refusal_number n p

unfoldable pub write_number : List ℕ → List ℕ → ℕ
write_number file old = done_number (write_sheet file (length old))

-- judge a sheet (0 flat, 1 not flat; no result buffer, so no 15)
unfoldable pub flat_number : Answer Judged → ℕ
flat_number (given j) = cond j.flat 0 1
flat_number (refused n p) = refusal_number n p

unfoldable pub judge_number : List ℕ → ℕ
judge_number file = flat_number (judge_sheet file)
