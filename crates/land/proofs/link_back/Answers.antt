-- `land::link_back` meets its contract: the darts that come are the reverses of the path's, the last one's first.
-- Assumes nothing.
use borrow.Author.Tests.{tests}
use Rattle.std.proofs.Common.{rules}
use Rattle.std.proofs.lemmas.Iterator.{YieldsList-from_map}
use Rattle.std.proofs.lemmas.Iterator.Adapters.{YieldsList-from_rev_slice}
use Rattle.rules.specs.Terms.{reverse}
use Rattle.rules.specs.Laying.{back}
use Rattle.land.proofs.Linking.{back_gives, back_darts}
use Rattle.land.proofs.link_back.Goals as goal

pub link_each-requires-clause-come : goal.link_each-requires-clause-come
link_each-requires-clause-come c = (
  back c.args.path.now,
  back_gives _ (YieldsList-from_map _ reverse (YieldsList-from_rev_slice c.args.path.now (cc)) (cc) (λ x r q k. search (rules, tests))),
  back_darts _ _ _ c.requires.darts,
)

pub returns : goal.returns
returns c = c.link_each.ensures (back c.args.path.now) (back_gives _ (YieldsList-from_map _ reverse (YieldsList-from_rev_slice c.args.path.now (cc)) (cc) (λ x r q k. search (rules, tests))))
