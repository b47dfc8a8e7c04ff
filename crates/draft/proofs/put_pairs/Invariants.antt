-- `draft::put_pairs` meets its contract. The loop's invariant: the first i ports are written and the rest stays.
-- Assumes nothing.
use mathlib.Core.Path.{◌≡◌}
use mathlib.Core.List.{◌++◌}
use lib.ListN.{take, drop}
use Rattle.draft.proofs.put_pairs.Given as goal

abbrev pub invariant-loop-i : goal.invariant-loop-i
invariant-loop-i l = l.part ≡ take l.i l.pairs ++ drop l.i l.initial.part
