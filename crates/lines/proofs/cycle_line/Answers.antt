-- `lines::cycle_line` meets its contract: the word, the ports and a newline, one behind another.
-- Assumes nothing.
use mathlib.Core.Path.{refl}
use Rattle.print.proofs.Putting.{begin, room, step, finish, whole}
use Rattle.lines.proofs.Cutting.{cycle_word, line_fields}
use Rattle.lines.proofs.cycle_line.Goals as goal

pub text-requires : goal.text-requires
text-requires c = room c.requires.room (begin _ c.args.out.now) (cycle_word _)

pub ports_left-requires-clause-room : goal.ports_left-requires-clause-room
ports_left-requires-clause-room c = room c.requires.room (step c.requires.room (begin _ c.args.out.now) (cycle_word _) c.text.ensures) (line_fields _)

pub byte-requires : goal.byte-requires
byte-requires c = room c.requires.room (step c.requires.room (step c.requires.room (begin _ c.args.out.now) (cycle_word _) c.text.ensures) (line_fields _) c.ports_left.ensures) (whole _)

pub returns : goal.returns
returns c = finish c.requires.room (step c.requires.room (step c.requires.room (step c.requires.room (begin _ c.args.out.now) (cycle_word _) c.text.ensures) (line_fields _) c.ports_left.ensures) (whole _) c.byte.ensures) refl
