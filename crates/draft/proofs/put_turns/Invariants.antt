-- `draft::put_turns` meets its contract. The loop's invariant: the bytes of the first i turns are written and the rest stays.
-- Assumes nothing.
use mathlib.Core.Path.{◌≡◌}
use mathlib.Core.List.{◌++◌, map}
use Prim.Native.Nat.{◌*◌}
use lib.ListN.{take, drop}
use Rattle.rules.specs.Lists.{concat, bytes}
use Rattle.draft.proofs.put_turns.Given as goal

abbrev pub invariant-loop-i : goal.invariant-loop-i
invariant-loop-i l = l.part ≡ concat (map (bytes 2) (take l.i l.turns)) ++ drop (2 * l.i) l.initial.part
