-- `print::Out::each` meets its contract. The loop's invariant: the fields of what `port` gave for the darts passed are written.
-- Assumes nothing.
use Rattle.print.proofs.Fields.{Giving}
use Rattle.print.proofs.Out.each.Given as goal

abbrev pub invariant-loop-d : goal.invariant-loop-d
invariant-loop-d g l = Giving (λ d r. goal.F-post g l.port d r) l.darts l.d-index l.initial.self l.self
