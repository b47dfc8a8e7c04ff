-- `Plate::no_ports` meets its contract: the array is the list of as many 0.
-- Assumes nothing.
use mathlib.Core.Path.{refl}
use Rattle.plate.specs.State.{no_ports}
use Rattle.plate.proofs.Plate.no_ports.Goals as goal

pub returns : goal.returns
unfolding no_ports
returns c = (refl, refl)
