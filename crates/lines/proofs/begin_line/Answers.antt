-- `lines::begin_line` meets its contract. The loop's invariant: the word and the fields of the numbers passed are written.
-- Assumes nothing.
use Rattle.print.proofs.Putting.{room, step, finish}
use Rattle.lines.proofs.Cutting.{numbers_next, numbers_over}
use Rattle.lines.proofs.begin_line.Goals as goal

pub field-requires : goal.field-requires
field-requires c = room c.requires c.loop-n.invariant (numbers_next _ _ c.loop-n-test.true)

pub loop-n-preserved : goal.loop-n-preserved
loop-n-preserved c = step c.requires c.loop-n.invariant (numbers_next _ _ c.loop-n-test.true) c.field.ensures

pub returns : goal.returns
returns c = finish c.requires c.loop-n.invariant (numbers_over _ _ c.loop-n-test.false)
