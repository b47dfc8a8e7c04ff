-- `fragment::is_laid` meets its contract: a turn is there where it is not the mark.
-- Assumes nothing.
use Rattle.fragment.proofs.Turning.{laid_read}
use Rattle.fragment.proofs.is_laid.Goals as goal

pub returns : goal.returns
returns c = laid_read _ _ c.requires
