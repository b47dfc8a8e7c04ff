-- `fragment::both_ends` meets its contract: the smaller end is written first, and then the larger.
-- Assumes nothing.
use mathlib.Core.Path.{refl, ◌∙◌}
use lib.ListN.{length-set}
use Rattle.laws.proofs.Lists.{first_two}
use Rattle.fragment.proofs.Contacting.{both_rising}
use Rattle.fragment.proofs.both_ends.Goals as goal

pub returns : goal.returns
returns c = (simp length-set c.requires.room, first_two c.args.out.now _ _ c.requires.room ∙ both_rising c.args.ends.now c.args.k _ _ refl refl _ _ c.min.ensures c.max.ensures)
