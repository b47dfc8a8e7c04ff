-- `plate::has_mark` meets its contract: the file begins with the mark of its kind.
-- Assumes nothing.
use Rattle.plate.proofs.Stages.{mark_is}
use Rattle.plate.proofs.has_mark.Goals as goal

pub returns : goal.returns
returns c = rw (c.starts_with.ensures.value, c.mark_of.ensures) (mark_is c.args.kind c.args.file.now)
