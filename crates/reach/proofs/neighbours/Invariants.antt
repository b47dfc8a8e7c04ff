-- `reach::neighbours` meets its contract. The loop goes from the last dart down. Its invariant: `first` has for each port the lowest dart from d on that leaves it,
-- and `more` has for each dart from d on the next one at its port. So what `first` has at the port of the dart before d is what `more` has to get there.
-- Assumes nothing.
use lib.ListN.{length}
use Rattle.reach.proofs.Chaining.{Chained}
use Rattle.reach.proofs.neighbours.Given as goal

abbrev pub invariant-loop-d : goal.invariant-loop-d
invariant-loop-d l = Chained l.ends (length l.fn.first) l.first l.more l.d
