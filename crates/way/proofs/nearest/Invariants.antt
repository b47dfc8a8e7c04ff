-- `way::nearest` meets its contract. The chain of p's darts is followed; the darts passed over leave other ports and count for nothing. The invariant: the darts from d on make of the best dart b what all darts make of none (Choosing). The measure is what is left of the darts, since the chain rises.
-- Assumes nothing.
use Prim.Native.Nat.{◌-◌}
use lib.ListN.{length}
use Rattle.rules.specs.Ways.{in_play}
use Rattle.way.specs.Marks.{within}
use Rattle.way.proofs.Choosing.{Choosing}
use Rattle.way.proofs.nearest.Given as goal

abbrev pub invariant-loop-d : goal.invariant-loop-d
invariant-loop-d l = Choosing l.net.ends.now (in_play l.net.play.now) l.p (within l.far l.j) l.d l.b

abbrev pub decreases-loop-d : goal.decreases-loop-d
decreases-loop-d l = length l.net.ends.now - l.d
