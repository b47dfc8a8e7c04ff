-- `pairs::is_loop` meets its contract: the test is that of the two ends.
-- Assumes nothing.
use borrow.Author.Rules.{rules}
use borrow.Author.Tests.{tests}
use Rattle.rules.specs.Refusals.{loop}
use Rattle.pairs.proofs.is_loop.Goals as goal

pub returns : goal.returns
unfolding loop
returns c = search (rules, tests)
