-- `land::smallest` meets its contract. The loop's invariant: the darts left can be walked, and the smallest of all is the smallest of `low` and those.
-- Assumes nothing.
use Rattle.land.proofs.Walking.{left_start, left_dart, left_step, low_start, low_step, low_end}
use Rattle.land.proofs.smallest.Goals as goal

pub loop-init : goal.loop-init
loop-init c = (left_start _ _ _ c.requires.darts, low_start _ _ _ c.requires.n_nonzero c.requires.darts)

pub after-dart-requires : goal.after-dart-requires
after-dart-requires c = left_dart _ _ _ _ c.loop-test.true c.loop.invariant.0

pub loop-preserved : goal.loop-preserved
loop-preserved c = (left_step _ _ _ _ _ c.loop-test.true c.after-dart.ensures c.loop.invariant.0, low_step _ _ _ _ _ _ _ _ c.loop-test.true c.after-dart.ensures c.min-low.ensures c.loop.invariant.1)

pub returns : goal.returns
returns c = low_end _ _ _ _ _ _ c.loop-test.false c.loop.invariant.1
