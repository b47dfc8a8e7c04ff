-- `way::path` meets its contract: the sets below the mark of x are the sets of the definition distances, and the route through them is the path descend. It has as many darts as x's mark says, which is at most the number of ports.
-- Assumes nothing.
use Rattle.way.proofs.Descending.{good, written}
use Rattle.way.proofs.path.Goals as goal

pub descend-requires-clause-darts : goal.descend-requires-clause-darts
descend-requires-clause-darts c = good _ _ _ _ _ _ _ _ c.distances-k.ensures.sets c.requires.sizes.few c.args.net.sized.channels c.requires.ports.1 c.requires.reached

pub returns-clause-number : goal.returns-clause-number
returns-clause-number c = (written _ _ _ _ _ _ _ _ c.distances-k.ensures.sets c.args.out.now _ c.descend.ensures).0

pub returns-clause-darts : goal.returns-clause-darts
returns-clause-darts c = (written _ _ _ _ _ _ _ _ c.distances-k.ensures.sets c.args.out.now _ c.descend.ensures).1
