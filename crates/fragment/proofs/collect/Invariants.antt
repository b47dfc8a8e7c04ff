-- `fragment::collect` meets its contract. The loop's invariant: what is written, and behind it the marked ports from p on, are all marked ports.
-- Assumes nothing.
use lib.ListN.{length}
use Rattle.rules.specs.Lists.{at}
use Rattle.fragment.proofs.Collecting.{Collected}
use Rattle.fragment.proofs.collect.Given as goal

abbrev pub invariant-loop-p : goal.invariant-loop-p
invariant-loop-p l = Collected (at l.marks) (length l.marks) (length l.initial.out) l.out l.n l.p
