-- `Plate::no_ends` meets its contract: the array is the list of as many 0.
-- Assumes nothing.
use mathlib.Core.Path.{refl}
use Rattle.plate.specs.State.{no_ends}
use Rattle.plate.proofs.Plate.no_ends.Goals as goal

pub returns : goal.returns
unfolding no_ends
returns c = (refl, refl)
