-- `pairs::is_met_earlier` meets its contract: `any` over the earlier channels says whether one has the same pair.
-- Assumes nothing.
use Rattle.std.proofs.Common.{rules}
use borrow.Author.Tests.{tests}
use Rattle.rules.specs.Refusals.{same_pair, met_earlier}
use Rattle.laws.proofs.Finding.{any_below}
use Rattle.pairs.proofs.is_met_earlier.Goals as goal

pub returns : goal.returns
unfolding met_earlier
returns c = any_below (λ j. same_pair c.args.ends.now j c.args.k) _ _ _ c.any.result c.any.ensures.ran (λ x b q k. search (rules, tests))
