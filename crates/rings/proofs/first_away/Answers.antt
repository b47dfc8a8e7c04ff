-- `rings::first_away` meets its contract: `find` over the darts finds the first whose turn leaves another port.
-- Assumes nothing.
use borrow.Author.Tests.{tests}
use Rattle.std.proofs.Common.{rules}
use Rattle.rules.specs.Terms.{leaves}
use Rattle.rules.specs.Refusals.{away_turn}
use Rattle.laws.proofs.Finding.{find_below}
use Rattle.rings.proofs.first_away.Goals as goal

pub returns : goal.returns
unfolding away_turn leaves
returns c = find_below (away_turn c.args.ends.now c.args.turns.now) _ _ _ c.find.result c.find.ensures.ran (λ x b q k. search (rules, tests))
