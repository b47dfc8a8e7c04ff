-- `land::seek_port` meets its contract. The loop's invariant: the darts left can be walked, none that was passed leaves the port, and some dart left does; what is left says what the whole says (`Seeking`).
-- So the loop is left at such a dart, and never for want of darts.
-- Assumes nothing.
use Prim.Native.Nat.{◌-◌}
use Rattle.land.specs.Walks.{land_from}
use Rattle.land.proofs.Walking.{Left, Seeking}
use Rattle.land.proofs.seek_port.Given as goal

abbrev pub invariant-loop-steps : goal.invariant-loop-steps
invariant-loop-steps l = Left l.turns l.n l.steps l.dart × Seeking l.ends l.p l.d (land_from l.turns l.n l.d) (land_from l.turns (l.n - l.steps) l.dart) l.last l.steps
