-- `plate::refused` meets its contract, by computation.
-- Assumes nothing.
use mathlib.Core.Path.{refl}
use Rattle.plate.specs.Answers.{test_of}
use Rattle.plate.proofs.refused.Goals as goal

pub returns : goal.returns
unfolding test_of
returns c = refl
