-- `fragment::inner_ports` meets its contract. The loop's invariant: what stands before place p is written.
-- Assumes nothing.
use mathlib.Core.Bool.{not, ◌&&◌}
use lib.ListN.{length}
use Rattle.rules.specs.Lists.{at}
use Rattle.fragment.proofs.Rising.{Written}
use Rattle.fragment.proofs.inner_ports.Given as goal

abbrev pub invariant-loop-p : goal.invariant-loop-p
invariant-loop-p l = Written (λ q. at l.marks q && not (at l.laid q)) (length l.laid) l.inside l.p
