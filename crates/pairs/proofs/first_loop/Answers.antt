-- `pairs::first_loop` meets its contract: `find` over the channels finds the first that has equal ends.
-- Assumes nothing.
use Rattle.std.proofs.Common.{rules}
use borrow.Author.Tests.{tests}
use Rattle.rules.specs.Refusals.{loop}
use Rattle.laws.proofs.Finding.{find_below}
use Rattle.pairs.proofs.first_loop.Goals as goal

pub returns : goal.returns
returns c = find_below (loop c.args.ends.now) _ _ _ c.find.result c.find.ensures.ran (λ x b q k. search (rules, tests))
