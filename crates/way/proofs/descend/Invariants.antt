-- `way::descend` meets its contract. The invariant: the first n darts of the route are written, and the rest of the route begins at p (Descending).
-- Assumes nothing.
use Rattle.way.proofs.Descending.{Descending}
use Rattle.way.proofs.descend.Given as goal

abbrev pub invariant-loop-n : goal.invariant-loop-n
invariant-loop-n l = Descending l.net.ends.now l.net.play.now l.far l.x l.k l.fn.out l.out l.p l.n
