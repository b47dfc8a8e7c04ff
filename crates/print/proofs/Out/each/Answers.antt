-- `print::Out::each` meets its contract. The loop's invariant: the fields of what `port` gave for the darts passed are written.
-- Assumes nothing.
use Rattle.print.proofs.Fields.{giving_start, giving_room, giving_step}
use Rattle.print.proofs.Out.each.Goals as goal

pub loop-d-init : goal.loop-d-init
loop-d-init g c = giving_start _ _ _

pub field-requires : goal.field-requires
field-requires g c = giving_room _ _ _ _ _ c.requires.room c.loop-d-test.true c.loop-d.invariant _ c.port.ensures

pub loop-d-preserved : goal.loop-d-preserved
loop-d-preserved g c = giving_step _ _ _ _ _ c.requires.room c.loop-d-test.true c.loop-d.invariant _ c.port.ensures _ c.field.ensures
