-- `land::along` meets its contract. The loop's invariant: the darts left from the one at hand can be walked, and the dart that is looked for is n - k steps after it.
-- Assumes nothing.
use Prim.Native.Nat.{◌-◌}
use mathlib.Core.Path.{◌≡◌}
use Rattle.land.specs.Walks.{next_by}
use Rattle.land.proofs.Walking.{Left}
use Rattle.land.proofs.along.Given as goal

abbrev pub invariant-loop : goal.invariant-loop
invariant-loop l = Left l.turns l.n l.counter l.dart × (next_by l.turns l.n l.d ≡ next_by l.turns (l.n - l.counter) l.dart)
