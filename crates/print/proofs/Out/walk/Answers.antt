-- `print::Out::walk` meets its contract. The loop's invariant: `next` has led from d through the darts passed to the one at hand, and their fields are written.
-- Assumes nothing.
use Rattle.print.proofs.Fields.{leading_start, leading_room, leading_pre, leading_step}
use Rattle.print.proofs.Out.walk.Goals as goal

pub loop-init : goal.loop-init
loop-init g c = leading_start _ _ _

pub field-requires : goal.field-requires
field-requires g c = leading_room _ _ _ _ _ _ _ c.requires.room c.loop-test.true c.loop.invariant

pub next-dart-requires : goal.next-dart-requires
next-dart-requires g c = leading_pre _ _ _ _ _ _ _ c.requires.room c.loop-test.true c.loop.invariant _ c.requires.callable

pub loop-preserved : goal.loop-preserved
loop-preserved g c = leading_step _ _ _ _ _ _ _ c.requires.room c.loop-test.true c.loop.invariant _ c.next-dart.ensures _ c.field.ensures
