-- `plate::pairs` meets its contract: the pairs stand behind the first 8 bytes, as many as the reading's channels ask or as there are.
-- Assumes nothing.
use Rattle.plate.proofs.Laws.{part_none, part_rest, part_front}
use Rattle.plate.proofs.pairs.Goals as goal

pub returns-in_default : goal.returns-in_default
returns-in_default g c told = part_none told c.args.file.now _ _ c.in_default.is

pub returns-then-room-p : goal.returns-then-room-p
returns-then-room-p g c told = part_rest told c.args.file.now _ _ c.in-Ok.is _ c.min-start.ensures c.if-room-p.true

pub returns : goal.returns
returns g c told = part_front told c.args.file.now _ _ c.in-Ok.is _ c.min-start.ensures
