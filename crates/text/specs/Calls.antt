-- The listing call: what its answer stands for, and what its functions ask.
--   listed_answer r          how many bytes were written, or a refusal with its number and place
--   lines_of v ends play     the listing of a plate that is laid by the channels in play, without a cap
--   Filed v ends play       a plate that was read from a file, with every channel in play
-- Assumes nothing.
use Rattle.std.specs.Prelude.{◌≡◌, Bool, true, List, ℕ, Result, Ok, Err, length, replicate}
use Rattle.rules.specs.Refusals.{Answer, given, refused, read_plate}
use Rattle.rules.specs.Laying.{without_cap, first_cycle, laying}
use Rattle.rules.specs.Listing.{laid_lines}
use Rattle.plate.specs.declared.Refusal.{Refusal}
use Rattle.plate.specs.Answers.{number_of}
use Rattle.lines.specs.Lines.{plate_of}

unfoldable pub listed_answer : Result ℕ Refusal → Answer ℕ
listed_answer (Ok n) = given n
listed_answer (Err x) = refused (number_of x.fault) x.place

unfoldable pub lines_of : ℕ → List ℕ → List Bool → List ℕ
lines_of v ends play = laid_lines (plate_of v (length play) ends) (first_cycle v ends play) (laying v ends play without_cap)

pub record Filed (v : ℕ) (ends : List ℕ) (play : List Bool) : Type 0 where
  pub file : List ℕ
  pub answer : read_plate file ≡ given (plate_of v (length play) ends)
  pub whole : play ≡ replicate (length play) true
