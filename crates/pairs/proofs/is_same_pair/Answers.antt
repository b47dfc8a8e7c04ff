-- `pairs::is_same_pair` meets its contract: the pairs are equal one way round, or else as they are the other.
-- Assumes nothing.
use borrow.Author.Rules.{rules}
use borrow.Author.Tests.{tests}
use Rattle.rules.specs.Refusals.{same_pair}
use Rattle.pairs.proofs.is_same_pair.Goals as goal

pub returns-then-eq : goal.returns-then-eq
unfolding same_pair
returns-then-eq c = search (rules, tests)

pub returns-else-eq : goal.returns-else-eq
unfolding same_pair
returns-else-eq c = search (rules, tests)
