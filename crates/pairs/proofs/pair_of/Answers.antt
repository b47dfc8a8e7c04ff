-- `pairs::pair_of` meets its contract: the reverse of an even dart is the next.
-- Assumes nothing.
use mathlib.Core.Path.{refl}
use Rattle.rules.specs.Terms.{leaves}
use Rattle.laws.proofs.Trails.{second_end}
use Rattle.pairs.proofs.pair_of.Goals as goal

pub returns : goal.returns
unfolding leaves
returns c = (refl, second_end _ _)
