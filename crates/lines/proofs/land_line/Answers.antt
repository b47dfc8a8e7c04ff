-- `lines::land_line` meets its contract: the word and the number, the darts and a newline, one behind another.
-- Assumes nothing.
use Rattle.print.proofs.Putting.{begin, room, step, last, whole}
use Rattle.lines.proofs.Cutting.{land_begin, line_fields}
use Rattle.lines.proofs.land_line.Goals as goal

pub begin_line-requires : goal.begin_line-requires
begin_line-requires c = room c.requires.room (begin _ c.args.out.now) (land_begin _ _)

pub land-requires-clause-room : goal.land-requires-clause-room
land-requires-clause-room c = room c.requires.room (step c.requires.room (begin _ c.args.out.now) (land_begin _ _) c.begin_line.ensures) (line_fields _)

pub byte-requires : goal.byte-requires
byte-requires c = room c.requires.room (step c.requires.room (step c.requires.room (begin _ c.args.out.now) (land_begin _ _) c.begin_line.ensures) (line_fields _) c.land.ensures) (whole _)

pub returns : goal.returns
returns c = last c.requires.room (step c.requires.room (step c.requires.room (begin _ c.args.out.now) (land_begin _ _) c.begin_line.ensures) (line_fields _) c.land.ensures) c.byte.ensures
