-- `darts::reverse` meets its contract: the code is the definition.
-- Assumes nothing.
use mathlib.Core.Path.{refl}
use Rattle.rules.specs.Terms.{reverse}
use Rattle.darts.proofs.reverse.Goals as goal

pub returns : goal.returns
unfolding reverse
returns c = refl
