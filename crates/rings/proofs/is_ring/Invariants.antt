-- `rings::is_ring` meets its contract. The loop's invariant: as many turns lead from a to d as darts of the port stand before k, and none before d comes back to a.
-- So where the darts are used up the turns form a ring if d is a, and where d is a before that they form a shorter one. The measure is what is left of the darts.
-- Assumes nothing.
use Prim.Native.Nat.{◌-◌}
use lib.ListN.{length}
use Rattle.rings.proofs.Following.{Followed}
use Rattle.rings.proofs.is_ring.Given as goal

abbrev pub invariant-loop-k : goal.invariant-loop-k
invariant-loop-k l = Followed l.ends l.turns l.p l.a l.d l.k

abbrev pub decreases-loop-k : goal.decreases-loop-k
decreases-loop-k l = length l.ends - l.k
