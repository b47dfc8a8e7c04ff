-- `lines::port_line` meets its contract: the word and the number, the darts and a newline, one behind another.
-- Assumes nothing.
use Rattle.print.proofs.Putting.{begin, room, step, last, whole}
use Rattle.lines.proofs.Cutting.{port_begin, line_fields}
use Rattle.lines.proofs.port_line.Goals as goal

pub begin_line-requires : goal.begin_line-requires
begin_line-requires c = room c.requires.room (begin _ c.args.out.now) (port_begin _ _)

pub ring-requires-clause-room : goal.ring-requires-clause-room
ring-requires-clause-room c = room c.requires.room (step c.requires.room (begin _ c.args.out.now) (port_begin _ _) c.begin_line.ensures) (line_fields _)

pub byte-requires : goal.byte-requires
byte-requires c = room c.requires.room (step c.requires.room (step c.requires.room (begin _ c.args.out.now) (port_begin _ _) c.begin_line.ensures) (line_fields _) c.ring.ensures) (whole _)

pub returns : goal.returns
returns c = last c.requires.room (step c.requires.room (step c.requires.room (begin _ c.args.out.now) (port_begin _ _) c.begin_line.ensures) (line_fields _) c.ring.ensures) c.byte.ensures
