-- `lines::degree` meets its contract. The loop's invariant: n darts of the port are counted, and those left are the ones from d on (`Degree`). The tables lead from each dart to the next, which is higher. The measure is what is left of the darts.
-- Assumes nothing.
use Prim.Native.Nat.{◌-◌}
use lib.ListN.{length}
use Rattle.lines.proofs.Rows.{Degree}
use Rattle.lines.proofs.degree.Given as goal

abbrev pub invariant-loop-d : goal.invariant-loop-d
invariant-loop-d l = Degree l.net.ends.now l.p l.n l.d

abbrev pub decreases-loop-d : goal.decreases-loop-d
decreases-loop-d l = length l.net.ends.now - l.d
