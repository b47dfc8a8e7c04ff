-- `plate::counts` meets its contract: V is a number in one byte, E in two.
-- Assumes nothing.
use Rattle.rules.specs.Lists.{number}
use Rattle.rules.specs.Files.{ports_in, channels_in}
use borrow.Author.Rules.{rules}
use Rattle.plate.proofs.counts.Goals as goal

pub returns : goal.returns
unfolding ports_in channels_in number
returns c = search rules
