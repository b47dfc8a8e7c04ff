-- Answers as four numbers, for C.
--   told_numbers a       0, the word (0 FLAT, 1 STUCK, 2 PARTIAL), the number of paths and the name; or 1, the refusal's number, its place and 0
--   count_numbers a      0, whether the sheet is flat (1) or not (0), the number of lands and 0; or 1, the refusal's number, its place and 0
--   bytes_numbers a      0, the number of bytes, 0 and 0; or 1, the refusal's number, its place and 0
-- Assumes nothing.
use Rattle.std.specs.Prelude.{cond, List, [], ◌∷◌, ℕ}
use Rattle.rules.specs.Refusals.{Answer, given, refused}
use Rattle.rules.specs.Laying.{Told, Word, FLAT, STUCK, PARTIAL}
use Rattle.rules.specs.Sheets.{Count}

unfoldable pub word_number : Word → ℕ
word_number FLAT = 0
word_number STUCK = 1
word_number PARTIAL = 2

unfoldable pub told_numbers : Answer Told → List ℕ
told_numbers (given t) = 0 ∷ word_number t.word ∷ t.paths ∷ t.name ∷ []
told_numbers (refused n p) = 1 ∷ n ∷ p ∷ 0 ∷ []

unfoldable pub count_numbers : Answer Count → List ℕ
count_numbers (given c) = 0 ∷ cond c.flat 1 0 ∷ c.lands ∷ 0 ∷ []
count_numbers (refused n p) = 1 ∷ n ∷ p ∷ 0 ∷ []

unfoldable pub bytes_numbers : Answer ℕ → List ℕ
bytes_numbers (given n) = 0 ∷ n ∷ 0 ∷ 0 ∷ []
bytes_numbers (refused n p) = 1 ∷ n ∷ p ∷ 0 ∷ []
