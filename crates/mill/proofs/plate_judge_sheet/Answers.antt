-- `mill::plate_judge_sheet` meets its contract: each answer of the judge has its number.
-- Assumes nothing.
use mathlib.Core.Path.{◌∙◌}
use Rattle.sheet.specs.Answers.{answer_of}
use Rattle.mill.proofs.Numbers.{judge_as, flat_as}
use Rattle.mill.proofs.plate_judge_sheet.Goals as goal

pub returns-in-Ok : goal.returns-in-Ok
unfolding answer_of
returns-in-Ok c = c.from.ensures ∙ flat_as c.in-Ok.c.flat ∙ judge_as _ _ c.in-Ok.ensures

pub returns-in-Err : goal.returns-in-Err
unfolding answer_of
returns-in-Err c = c.refusal_number.ensures ∙ judge_as _ _ c.in-Err.ensures
