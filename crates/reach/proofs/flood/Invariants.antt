-- `reach::flood` meets its contract. The loop's invariant: the ports met stand in the queue, each once, and are just those marked since the beginning; each is linked to p;
-- and those before the head have every neighbour in play marked. When the head has passed them all, they are closed, so that each port linked to p is among them.
-- The measure is what is left of the places of the queue.
-- Assumes nothing.
use Prim.Native.Nat.{◌-◌}
use lib.ListN.{length}
use Rattle.reach.proofs.Flooding.{Flow}
use Rattle.reach.proofs.flood.Given as goal

abbrev pub invariant-loop-head : goal.invariant-loop-head
invariant-loop-head l = Flow l.net.ends.now l.net.play.now l.fn.marks l.p l.fn.queue 1 l.marks l.queue l.n l.head

abbrev pub decreases-loop-head : goal.decreases-loop-head
decreases-loop-head l = length l.initial.queue - l.head
