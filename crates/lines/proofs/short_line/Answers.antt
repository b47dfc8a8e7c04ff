-- `lines::short_line` meets its contract: the word with its numbers, and behind them a newline.
-- Assumes nothing.
use Rattle.print.proofs.Putting.{begin, room, step, last, whole}
use Rattle.lines.proofs.Cutting.{spelled_begin}
use Rattle.lines.proofs.short_line.Goals as goal

pub begin_line-requires : goal.begin_line-requires
begin_line-requires c = room c.requires (begin _ c.args.out.now) (spelled_begin _ _)

pub byte-requires : goal.byte-requires
byte-requires c = room c.requires (step c.requires (begin _ c.args.out.now) (spelled_begin _ _) c.begin_line.ensures) (whole _)

pub returns : goal.returns
returns c = last c.requires (step c.requires (begin _ c.args.out.now) (spelled_begin _ _) c.begin_line.ensures) c.byte.ensures
