-- `Plate::no_marks` meets its contract: the array is the list of as many flags, none set.
-- Assumes nothing.
use mathlib.Core.Path.{refl}
use Rattle.plate.specs.State.{no_marks}
use Rattle.plate.proofs.Plate.no_marks.Goals as goal

pub returns : goal.returns
unfolding no_marks
returns c = (refl, refl)
