-- `afresh::walk_land` meets its contract. The loop's invariant: d and the darts of the land after it, put at k and marked, give what the whole land gives, put at n and marked.
-- The next dart is a exactly where none is left, and it has its place until then. The measure is what is left of the places.
-- Assumes nothing.
use mathlib.Core.List.{List}
use Prim.Native.Nat.{ℕ, ◌-◌}
use lib.ListN.{length}
use Rattle.afresh.proofs.Walking.{Walk}
use Rattle.afresh.proofs.walk_land.Given as goal

abbrev pub invariant-loop-d : goal.invariant-loop-d
invariant-loop-d at = (l : List ℕ) × Walk at.turns at.a at.initial.darts at.initial.seen at.n at.darts at.seen at.d at.k l

abbrev pub decreases-loop-d : goal.decreases-loop-d
decreases-loop-d l = length l.initial.darts - l.k
