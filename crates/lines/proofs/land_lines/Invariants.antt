-- `lines::land_lines` meets its contract. The loop's invariant: the lines of the lands before `land` are written, and those from it on are left.
-- Assumes nothing.
use lib.ListN.{drop}
use Rattle.rules.specs.Listing.{land_lines}
use Rattle.land.specs.Walks.{lands}
use Rattle.print.proofs.Putting.{Writing}
use Rattle.lines.proofs.land_lines.Given as goal

abbrev pub invariant-loop-land : goal.invariant-loop-land
invariant-loop-land l = Writing (land_lines 0 (lands l.kept.turns.now l.kept.firsts.now l.kept.lens.now l.kept.count)) l.initial.out l.out (land_lines l.land (drop l.land (lands l.kept.turns.now l.kept.firsts.now l.kept.lens.now l.kept.count)))
