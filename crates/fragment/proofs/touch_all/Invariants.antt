-- `fragment::touch_all` meets its contract. The loop's invariant: the darts of p from d on make of what is touched now what all darts of p make of what was touched at first.
-- The tables lead from each of these darts to the next, which is higher. The measure is what is left of the darts.
-- Assumes nothing.
use Prim.Native.Nat.{◌-◌}
use lib.ListN.{length}
use Rattle.fragment.proofs.Collecting.{Touched}
use Rattle.fragment.proofs.touch_all.Given as goal

abbrev pub invariant-loop-d : goal.invariant-loop-d
invariant-loop-d l = Touched l.net.ends.now l.net.play.now l.laid l.p l.initial.touched l.touched l.d

abbrev pub decreases-loop-d : goal.decreases-loop-d
decreases-loop-d l = length l.net.ends.now - l.d
