-- `way::distances` meets its contract. The invariant: after j passes the ports within mark i are those from which i channels lead to y, for each i up to j, and no port is marked above j (Measuring). The measure is the number of ports less j: as many passes as there are ports reach x.
-- Assumes nothing.
use Prim.Native.Nat.{◌-◌}
use lib.ListN.{length}
use Rattle.way.proofs.Measuring.{Measuring}
use Rattle.way.proofs.distances.Given as goal

abbrev pub invariant-loop-j : goal.invariant-loop-j
invariant-loop-j l = Measuring (length l.free) l.net.ends.now l.net.play.now l.free l.x l.y l.far l.j

abbrev pub decreases-loop-j : goal.decreases-loop-j
decreases-loop-j l = length l.free - l.j
