-- `sheet::copy_turns` meets its contract. The loop's invariant: the first i turns are copied.
-- Assumes nothing.
use mathlib.Core.Path.{◌≡◌}
use lib.ListN.{take}
use Rattle.rules.specs.Lists.{numbers}
use Rattle.sheet.proofs.copy_turns.Given as goal

abbrev pub invariant-loop-i : goal.invariant-loop-i
invariant-loop-i l = take l.i l.turns ≡ numbers 2 l.i l.start l.file
