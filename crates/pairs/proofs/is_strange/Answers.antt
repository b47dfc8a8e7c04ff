-- `pairs::is_strange` meets its contract: the first end decides, or else the second.
-- Assumes nothing.
use borrow.Author.Rules.{rules}
use borrow.Author.Tests.{tests}
use Rattle.rules.specs.Refusals.{strange}
use Rattle.pairs.proofs.is_strange.Goals as goal

pub returns-then-v-a : goal.returns-then-v-a
unfolding strange
returns-then-v-a c = search (rules, tests)

pub returns-else-v-a : goal.returns-else-v-a
unfolding strange
returns-else-v-a c = search (rules, tests)
