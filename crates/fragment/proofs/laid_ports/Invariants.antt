-- `fragment::laid_ports` meets its contract. The loop's invariant: the darts from d on make of the marks at hand all laid ports.
-- Assumes nothing.
use lib.ListN.{length}
use Rattle.fragment.proofs.Turning.{Covering}
use Rattle.fragment.proofs.laid_ports.Given as goal

abbrev pub invariant-loop-d : goal.invariant-loop-d
invariant-loop-d l = Covering l.ends l.turns (length l.initial.laid) l.laid l.d
