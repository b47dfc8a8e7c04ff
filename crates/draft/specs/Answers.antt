-- What the writing call's answer stands for.
--   written_answer r      the sheet is written, or a refusal with its number and place
--   done a               of what document 01 gives: a sheet is written, or the refusal
-- Assumes nothing.
use Rattle.std.specs.Prelude.{List, ℕ, Result, Ok, Err}
use Rattle.rules.specs.Refusals.{Answer, given, refused, Test, passed}
use Rattle.plate.specs.declared.Refusal.{Refusal}
use Rattle.plate.specs.Answers.{number_of}

unfoldable pub written_answer : Result (Unit {0}) Refusal → Test
written_answer (Ok u) = passed
written_answer (Err x) = refused (number_of x.fault) x.place

unfoldable pub done : Answer (List ℕ) → Test
done (given s) = passed
done (refused n p) = refused n p
