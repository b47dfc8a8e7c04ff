-- `mill::plate_write_sheet` meets its contract: each answer of the writer has its number, and the buffer is as the writer left it.
-- Assumes nothing.
use mathlib.Core.Path.{◌∙◌}
use Rattle.draft.specs.Answers.{written_answer}
use Rattle.mill.proofs.Numbers.{write_as}
use Rattle.mill.proofs.plate_write_sheet.Goals as goal

pub returns-in-Ok-clause-number : goal.returns-in-Ok-clause-number
unfolding written_answer
returns-in-Ok-clause-number c = write_as _ c.args.out.now _ c.in-Ok.ensures.answer

pub returns-in-Err-clause-number : goal.returns-in-Err-clause-number
unfolding written_answer
returns-in-Err-clause-number c = c.refusal_number.ensures ∙ write_as _ c.args.out.now _ c.in-Err.ensures.answer
