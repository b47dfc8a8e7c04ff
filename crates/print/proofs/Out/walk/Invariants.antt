-- `print::Out::walk` meets its contract. The loop's invariant: `next` has led from d through the darts passed to the one at hand, and their fields are written.
-- Assumes nothing.
use Rattle.print.proofs.Fields.{Leading}
use Rattle.print.proofs.Out.walk.Given as goal

abbrev pub invariant-loop : goal.invariant-loop
invariant-loop g l = Leading (λ d e. goal.F-post g l.next d e) l.d l.counter l.dart l.initial.self l.self
