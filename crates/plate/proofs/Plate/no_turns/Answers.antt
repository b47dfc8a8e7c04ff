-- `Plate::no_turns` meets its contract: the array is the list of as many missing turns.
-- Assumes nothing.
use mathlib.Core.Path.{refl}
use Rattle.plate.specs.State.{no_turns}
use Rattle.plate.proofs.Plate.no_turns.Goals as goal

pub returns : goal.returns
unfolding no_turns
returns c = (refl, refl)
