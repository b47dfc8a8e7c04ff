-- `lines::path_line` meets its contract: the word and three numbers, the ports entered and a newline, one behind another.
-- Assumes nothing.
use Rattle.rules.specs.Terms.{leaves}
use Rattle.print.proofs.Putting.{begin, room, step, last, whole}
use Rattle.lines.proofs.Cutting.{path_begin, line_fields}
use Rattle.lines.proofs.path_line.Goals as goal

pub begin_line-requires : goal.begin_line-requires
unfolding leaves
begin_line-requires c = room c.requires.room (begin _ c.args.out.now) (path_begin _ _ _ _)

pub ports_entered-requires-clause-room : goal.ports_entered-requires-clause-room
unfolding leaves
ports_entered-requires-clause-room c = room c.requires.room (step c.requires.room (begin _ c.args.out.now) (path_begin _ _ _ _) c.begin_line.ensures) (line_fields _)

pub byte-requires : goal.byte-requires
unfolding leaves
byte-requires c = room c.requires.room (step c.requires.room (step c.requires.room (begin _ c.args.out.now) (path_begin _ _ _ _) c.begin_line.ensures) (line_fields _) c.ports_entered.ensures) (whole _)

pub returns : goal.returns
unfolding leaves
returns c = last c.requires.room (step c.requires.room (step c.requires.room (begin _ c.args.out.now) (path_begin _ _ _ _) c.begin_line.ensures) (line_fields _) c.ports_entered.ensures) c.byte.ensures
