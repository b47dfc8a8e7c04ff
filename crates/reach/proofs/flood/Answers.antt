-- `reach::flood` meets its contract. The loop's invariant: the ports met stand in the queue, each once, and are just those marked since the beginning; each is linked to p; and those before the head have every neighbour in play marked.
-- Assumes nothing.
use native.Mathlib.Omega.{arith}
use Rattle.reach.proofs.Flooding.{room_port, start, step, end}
use Rattle.reach.proofs.flood.Goals as goal

pub loop-head-init : goal.loop-head-init
loop-head-init c = start _ _ _ _ _ c.requires.port c.requires.unmarked c.requires.places c.requires.small

pub spread-n-requires-clause-port : goal.spread-n-requires-clause-port
spread-n-requires-clause-port c = room_port c.loop-head.marks c.loop-head.queue c.loop-head.n c.loop-head.head c.loop-head.invariant.room (omega arith)

pub loop-head-preserved : goal.loop-head-preserved
loop-head-preserved c = step _ _ _ _ _ _ _ _ _ _ (rw c.requires.ports c.args.net.sized) c.requires.port c.loop-head.invariant (omega arith) _ _ _ c.spread-n.ensures

pub returns : goal.returns
returns c = end _ _ _ _ _ _ _ _ _ _ (rw c.requires.ports c.args.net.sized) c.requires.port c.loop-head.invariant (omega arith)
