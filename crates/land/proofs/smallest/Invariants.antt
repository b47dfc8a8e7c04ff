-- `land::smallest` meets its contract. The loop's invariant: the darts left can be walked, and the smallest of all is the smallest of `low` and those.
-- At the start `low` is the first dart, which is there, and below the mark.
-- Assumes nothing.
use Prim.Native.Nat.{◌-◌}
use mathlib.Core.Path.{◌≡◌}
use Rattle.rules.specs.Terms.{missing, least}
use Rattle.land.specs.Walks.{land_from}
use Rattle.land.proofs.Walking.{Left}
use Rattle.land.proofs.smallest.Given as goal

abbrev pub invariant-loop : goal.invariant-loop
invariant-loop l = Left l.turns l.n l.counter l.dart × (least missing (land_from l.turns l.n l.d) ≡ least l.low (land_from l.turns (l.n - l.counter) l.dart))
