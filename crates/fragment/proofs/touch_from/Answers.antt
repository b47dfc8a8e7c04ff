-- `fragment::touch_from` meets its contract. The loop's invariant: the ports of the queue that are left make of what is touched now what all of them make of what was touched at first.
-- Assumes nothing.
use native.Mathlib.Omega.{arith}
use Rattle.fragment.proofs.Collecting.{felt_step, felt_end}
use Rattle.fragment.proofs.touch_from.Goals as goal

pub loop-p-preserved : goal.loop-p-preserved
loop-p-preserved c = felt_step _ _ _ _ _ _ _ c.loop-p.invariant (omega arith) _ c.touch_all.ensures

pub returns : goal.returns
returns c = felt_end _ _ _ _ _ _ _ c.loop-p.invariant c.loop-p-test.false
