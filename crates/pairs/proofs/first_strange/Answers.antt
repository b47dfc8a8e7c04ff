-- `pairs::first_strange` meets its contract: `find` over the channels finds the first that has a port of v or more.
-- Assumes nothing.
use Rattle.std.proofs.Common.{rules}
use borrow.Author.Tests.{tests}
use Rattle.rules.specs.Refusals.{strange}
use Rattle.laws.proofs.Finding.{find_below}
use Rattle.pairs.proofs.first_strange.Goals as goal

pub returns : goal.returns
returns c = find_below (strange c.args.v c.args.ends.now) _ _ _ c.find.result c.find.ensures.ran (λ x b q k. search (rules, tests))
