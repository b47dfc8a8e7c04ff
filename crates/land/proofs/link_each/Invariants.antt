-- `land::link_each` meets its contract. The loop's invariant: the turns lead from d through the darts that have come to the one at hand (`Linked`).
-- Assumes nothing.
use Rattle.land.proofs.Linking.{Linked}
use Rattle.land.proofs.link_each.Given as goal

abbrev pub invariant-loop-x : goal.invariant-loop-x
invariant-loop-x g l =
    (goal.iterator-loop-x g).can_next l.x-iterator
    × (goal.iterator-loop-x g).is_finite l.x-iterator
    × Linked l.initial.turns l.d l.e l.turns l.dart l.yielded
