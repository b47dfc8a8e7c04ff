-- `lines::sheet_lines` meets its contract: the lands, and behind them the ports.
-- Assumes nothing.
use Rattle.print.proofs.Putting.{whole, begin, room, step, last}
use Rattle.lines.proofs.Rows.{flat_lands}
use Rattle.lines.proofs.sheet_lines.Goals as goal

pub land_lines-requires : goal.land_lines-requires
land_lines-requires c = room c.requires.room (begin _ c.args.out.now) (flat_lands _ _ _ _)

pub port_lines-requires-clause-room : goal.port_lines-requires-clause-room
port_lines-requires-clause-room c = room c.requires.room (step c.requires.room (begin _ c.args.out.now) (flat_lands _ _ _ _) c.land_lines.ensures) (whole _)

pub returns : goal.returns
returns c = last c.requires.room (step c.requires.room (begin _ c.args.out.now) (flat_lands _ _ _ _) c.land_lines.ensures) c.port_lines.ensures
