-- What the answer of the sheet's calls stands for: document 01's numbers and values for each case.
--   answer_of s      the number of lands and whether the sheet is flat, or a refusal with its number and place
-- Assumes nothing.
use Rattle.std.specs.Prelude.{Result, Ok, Err}
use Rattle.rules.specs.Refusals.{Answer, given, refused}
use Rattle.rules.specs.Sheets.{Count as RuleCount}
use Rattle.plate.specs.declared.Refusal.{Refusal}
use Rattle.plate.specs.Answers.{number_of}
use Rattle.sheet.specs.declared.Count.{Count}

unfoldable pub answer_of : Result Count Refusal → Answer RuleCount
answer_of (Ok c) = given (record { lands = c.lands; flat = c.flat })
answer_of (Err x) = refused (number_of x.fault) x.place
