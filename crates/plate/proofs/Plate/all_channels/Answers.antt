-- `Plate::all_channels` meets its contract: the array is the list of as many flags, all set.
-- Assumes nothing.
use mathlib.Core.Path.{refl}
use Rattle.plate.specs.State.{all_channels}
use Rattle.plate.proofs.Plate.all_channels.Goals as goal

pub returns : goal.returns
unfolding all_channels
returns c = (refl, refl)
