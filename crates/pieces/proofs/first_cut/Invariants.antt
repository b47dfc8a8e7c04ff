-- `pieces::first_cut` meets its contract. The loop's invariant: the search of what is left, from port c on, gives what the whole search gives.
-- Assumes nothing.
use mathlib.Core.Path.{◌≡◌}
use Prim.Native.Nat.{◌-◌}
use lib.ListN.{length}
use Rattle.std.specs.List.{find}
use Rattle.rules.specs.Lists.{from}
use Rattle.rules.specs.Refusals.{cuts}
use Rattle.pieces.proofs.first_cut.Given as goal

abbrev pub invariant-loop-c : goal.invariant-loop-c
invariant-loop-c l = find (cuts (length l.fn.marks) l.net.ends.now l.net.play.now) (from 0 (length l.fn.marks)) ≡ find (cuts (length l.fn.marks) l.net.ends.now l.net.play.now) (from l.c (length l.fn.marks - l.c))
