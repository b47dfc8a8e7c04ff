-- Each file leaves less, so the run ends: the measure is the length of what is left.
-- Assumes nothing.
use lib.ListN.{length}
use Rattle.try_plate.proofs.run.Given as goal

abbrev pub decreases-loop-left : goal.decreases-loop-left
decreases-loop-left g l = length l.left
