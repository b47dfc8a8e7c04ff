-- `fragment::touch_from` meets its contract. The loop's invariant: the ports of the queue that are left make of what is touched now what all of them make of what was touched at first.
-- Assumes nothing.
use Rattle.fragment.proofs.Collecting.{Felt}
use Rattle.fragment.proofs.touch_from.Given as goal

abbrev pub invariant-loop-p : goal.invariant-loop-p
invariant-loop-p l = Felt l.net.ends.now l.net.play.now l.laid l.p-items l.initial.touched l.touched l.p-index
