-- `plate::copy_ends` meets its contract. The loop's invariant: the first i ports are copied and the rest stays.
-- Assumes nothing.
use mathlib.Core.Path.{◌≡◌}
use mathlib.Core.List.{◌++◌}
use lib.ListN.{take, drop}
use Rattle.plate.proofs.copy_ends.Given as goal

abbrev pub invariant-loop-i : goal.invariant-loop-i
invariant-loop-i l = l.ends ≡ take l.i l.pairs ++ drop l.i l.initial.ends
