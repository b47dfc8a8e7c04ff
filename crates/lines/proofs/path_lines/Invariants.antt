-- `lines::path_lines` meets its contract. The loop's invariant: as many paths as are counted are passed and their lines written, and the story tells the others from index k on (`Telling`).
-- Assumes nothing.
use Prim.Native.Nat.{◌-◌}
use lib.ListN.{length, drop}
use Rattle.print.proofs.Putting.{Writing}
use Rattle.lines.specs.Story.{paths_in}
use Rattle.lines.specs.Lines.{path_lines}
use Rattle.lines.proofs.Rows.{Telling}
use Rattle.lines.proofs.path_lines.Given as goal

abbrev pub invariant-loop : goal.invariant-loop
invariant-loop l = Telling (length l.ends) l.paths l.story l.k l.counter × Writing (path_lines l.ends (paths_in l.paths (drop l.from l.story))) l.initial.out l.out (path_lines l.ends (paths_in (l.paths - l.counter) (drop l.k l.story)))
