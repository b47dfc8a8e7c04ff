-- `land::link` meets its contract: the darts that come are those of the path.
-- Assumes nothing.
use borrow.Author.Tests.{tests}
use Rattle.std.proofs.Common.{rules}
use Rattle.std.proofs.lemmas.Iterator.{YieldsList-from_slice, YieldsList-from_map}
use Rattle.land.proofs.Linking.{path_gives}
use Rattle.land.proofs.link.Goals as goal

pub link_each-requires-clause-come : goal.link_each-requires-clause-come
link_each-requires-clause-come c = (
  c.args.path.now,
  path_gives _ (YieldsList-from_map _ (λ x. x) (YieldsList-from_slice _ (cc)) (cc) (λ x r q k. search (rules, tests))),
  c.requires.darts,
)

pub returns : goal.returns
returns c = c.link_each.ensures c.args.path.now (path_gives _ (YieldsList-from_map _ (λ x. x) (YieldsList-from_slice _ (cc)) (cc) (λ x r q k. search (rules, tests))))
