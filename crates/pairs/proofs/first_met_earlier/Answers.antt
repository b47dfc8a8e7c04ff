-- `pairs::first_met_earlier` meets its contract: `find` over the channels finds the first that has a pair met earlier.
-- Assumes nothing.
use Rattle.std.proofs.Common.{rules}
use borrow.Author.Tests.{tests}
use Rattle.rules.specs.Refusals.{met_earlier}
use Rattle.laws.proofs.Finding.{find_below}
use Rattle.pairs.proofs.first_met_earlier.Goals as goal

pub returns : goal.returns
returns c = find_below (met_earlier c.args.ends.now) _ _ _ c.find.result c.find.ensures.ran (λ x b q k. search (rules, tests))
