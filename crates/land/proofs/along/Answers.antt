-- `land::along` meets its contract. The loop's invariant: the darts left from the one at hand can be walked, and the dart that is looked for is n - k steps after it.
-- Assumes nothing.
use Rattle.land.proofs.Walking.{left_start, left_dart, left_step, by_start, by_step, by_end}
use Rattle.land.proofs.along.Goals as goal

pub loop-init : goal.loop-init
loop-init c = (left_start _ _ _ c.requires, by_start _ _ _)

pub after-dart-requires : goal.after-dart-requires
after-dart-requires c = left_dart _ _ _ _ c.loop-test.true c.loop.invariant.0

pub loop-preserved : goal.loop-preserved
loop-preserved c = (left_step _ _ _ _ _ c.loop-test.true c.after-dart.ensures c.loop.invariant.0, by_step _ _ _ _ _ _ c.loop-test.true c.after-dart.ensures c.loop.invariant.1)

pub returns : goal.returns
returns c = by_end _ _ _ _ _ c.loop-test.false c.loop.invariant.1
