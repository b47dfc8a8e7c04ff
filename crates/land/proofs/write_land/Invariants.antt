-- `land::write_land` meets its contract. The loop's invariant: k darts stand in the buffer from `at` on, and those left of the land are those left to walk (`Writing`).
-- Assumes nothing.
use Rattle.land.proofs.Writing.{Writing}
use Rattle.land.proofs.write_land.Given as goal

abbrev pub invariant-loop-k : goal.invariant-loop-k
invariant-loop-k l = Writing l.turns l.d l.n l.initial.out l.at l.out l.dart l.k
