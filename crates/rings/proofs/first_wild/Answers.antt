-- `rings::first_wild` meets its contract: `find` over the darts finds the first whose turn is no dart.
-- Assumes nothing.
use borrow.Author.Tests.{tests}
use Rattle.std.proofs.Common.{rules}
use Rattle.rules.specs.Refusals.{wild_turn}
use Rattle.laws.proofs.Finding.{find_below}
use Rattle.rings.proofs.first_wild.Goals as goal

pub returns : goal.returns
unfolding wild_turn
returns c = find_below (wild_turn c.args.ends.now c.args.turns.now) _ _ _ c.find.result c.find.ensures.ran (λ x b q k. search (rules, tests))
