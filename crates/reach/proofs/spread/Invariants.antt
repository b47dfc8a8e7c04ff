-- `reach::spread` meets its contract. The loop's invariant: to meet the darts of p from d on, from the state at hand, gives what to meet all darts of p gives from the first state.
-- The tables lead from each of these darts to the next, which is higher. The measure is what is left of the darts.
-- Assumes nothing.
use Prim.Native.Nat.{◌-◌}
use lib.ListN.{length}
use Rattle.reach.proofs.Spreading.{Spread}
use Rattle.reach.proofs.spread.Given as goal

abbrev pub invariant-loop-d : goal.invariant-loop-d
invariant-loop-d l = Spread l.net.ends.now l.net.play.now l.p l.initial.marks l.initial.queue l.n l.marks l.queue l.m l.d

abbrev pub decreases-loop-d : goal.decreases-loop-d
decreases-loop-d l = length l.net.ends.now - l.d
