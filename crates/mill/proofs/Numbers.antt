-- The numbers that the mill gets (rules, "Mill"), by what the called functions answered.
--   number_done t       the number for a sheet that is written, or refused
--   number_counted a    the number for a sheet that is judged, or refused
-- write_as, judge_as: they are the mill's numbers. write_number_lem, judge_number_lem: a call's refusal as a number is the mill's. flat_as: a flag as the number for a sheet.
-- Assumes nothing.
use mathlib.Core.Path.{◌≡◌, refl, sym, ap, ◌∙◌}
use mathlib.Core.Bool.{Bool, true, false, not, cond}
use mathlib.Core.List.{List}
use Prim.Native.Nat.{ℕ}
use lib.ListN.{length}
use mir.Val.{bool_byte}
use Rattle.rules.specs.Refusals.{Answer, given, refused, Test as RuleTest}
use Rattle.rules.specs.Sheets.{Judged, Count as RuleCount, counted, judge_sheet, write_sheet}
use Rattle.rules.specs.Mill.{refusal_number, done_number, write_number, flat_number, judge_number}
use Rattle.std.specs.Prelude.{Result, Err}
use Rattle.plate.specs.declared.Refusal.{Refusal}
use Rattle.plate.specs.Answers.{number_of}
use Rattle.sheet.specs.declared.Count.{Count}
use Rattle.sheet.specs.Answers.{answer_of}
use Rattle.draft.specs.Answers.{written_answer, done}

-- ---- a sheet that is written

abbrev pub number_done : RuleTest → ℕ
number_done (given u) = 0
number_done (refused n p) = refusal_number n p

done_as : (a : Answer (List ℕ)) → number_done (done a) ≡ done_number a
unfolding done done_number
done_as (given s) = refl
done_as (refused n p) = refl

pub write_as : (b old : List ℕ) (t : RuleTest) → t ≡ done (write_sheet b (length old)) → number_done t ≡ write_number b old
unfolding write_number
write_as b old t e = ap number_done e ∙ done_as (write_sheet b (length old))

-- ---- a sheet that is judged

abbrev pub number_counted : Answer RuleCount → ℕ
number_counted (given c) = cond c.flat 0 1
number_counted (refused n p) = refusal_number n p

counted_as : (a : Answer Judged) → number_counted (counted a) ≡ flat_number a
unfolding counted flat_number
counted_as (given j) = refl
counted_as (refused n p) = refl

pub judge_as : (b : List ℕ) (a : Answer RuleCount) → a ≡ counted (judge_sheet b) → number_counted a ≡ judge_number b
unfolding judge_number
judge_as b a e = ap number_counted e ∙ counted_as (judge_sheet b)

pub flat_as : (b : Bool) → bool_byte (not b) ≡ cond b 0 1
flat_as true = refl
flat_as false = refl

-- ---- a refusal of a call, as a number

pub write_number_lem : (b old : List ℕ) (r : Result (Unit {0}) Refusal) → written_answer r ≡ done (write_sheet b (length old)) → (x : Refusal) → r ≡ Err x → (n : ℕ) → n ≡ refusal_number (number_of x.fault) x.place → n ≡ write_number b old
unfolding written_answer
write_number_lem b old r e x d n h = h ∙ ap (λ s. number_done (written_answer s)) (sym d) ∙ write_as b old (written_answer r) e

pub judge_number_lem : (b : List ℕ) (r : Result Count Refusal) → answer_of r ≡ counted (judge_sheet b) → (x : Refusal) → r ≡ Err x → (n : ℕ) → n ≡ refusal_number (number_of x.fault) x.place → n ≡ judge_number b
unfolding answer_of
judge_number_lem b r e x d n h = h ∙ ap (λ s. number_counted (answer_of s)) (sym d) ∙ judge_as b (answer_of r) e
