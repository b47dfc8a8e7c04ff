-- `land::write_lands` meets its contract. The loop's invariant: the darts of the first i lands stand in the buffer, and those left of all the lands' darts are those of the lands left (`Joining`).
-- Assumes nothing.
use Rattle.land.proofs.Writing.{Joining}
use Rattle.land.proofs.write_lands.Given as goal

abbrev pub invariant-loop-i : goal.invariant-loop-i
invariant-loop-i l = Joining l.kept.turns.now l.kept.firsts.now l.kept.lens.now l.kept.count l.initial.out l.out l.at l.i
