-- `rings::first_broken` meets its contract: `find` over the ports finds the first whose darts do not form one ring.
-- Assumes nothing.
use borrow.Author.Tests.{tests}
use Rattle.std.proofs.Common.{rules}
use Rattle.rules.specs.Refusals.{broken_ring}
use Rattle.laws.proofs.Finding.{find_below}
use Rattle.rings.proofs.first_broken.Goals as goal

pub returns : goal.returns
unfolding broken_ring
returns c = find_below (broken_ring c.args.ends.now c.args.turns.now) _ _ _ c.find.result c.find.ensures.ran (λ x b q k. search (rules, tests))
