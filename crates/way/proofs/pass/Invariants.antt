-- `way::pass` meets its contract. The invariant: the darts from d on make of the marked sets what all darts make of those at the start (Passing).
-- Assumes nothing.
use Rattle.way.proofs.Passing.{Passing}
use Rattle.way.proofs.pass.Given as goal

abbrev pub invariant-loop-d : goal.invariant-loop-d
invariant-loop-d l = Passing l.net.ends.now l.net.play.now l.free l.x l.j l.fn.far l.far l.d
