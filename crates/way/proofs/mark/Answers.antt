-- `way::mark` meets its contract: the smaller of the two numbers is the mark that the definition gives.
-- Assumes nothing.
use Rattle.way.proofs.Within.{least_lowered}
use Rattle.way.proofs.mark.Goals as goal

pub returns : goal.returns
returns c = rw c.min.ensures (least_lowered c.args.far.now c.args.p c.args.j)
