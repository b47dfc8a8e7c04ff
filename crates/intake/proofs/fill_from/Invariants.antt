-- What was read stands at the start of `into`, in order. The measure is the room that is left.
use Rattle.std.proofs.Common.{◌≤◌, ◌-◌, length, take}
use Rattle.std.specs.Io.KnownBytes.{Consumes}
use Rattle.intake.proofs.fill_from.Given as goal

abbrev pub invariant-loop-n : goal.invariant-loop-n
invariant-loop-n g l = record { within : l.n ≤ length l.into; bytes : Consumes (g.R.Read.remaining l.initial.input) (g.R.Read.remaining l.input) (take l.n l.into) }

abbrev pub decreases-loop-n : goal.decreases-loop-n
decreases-loop-n g l = length l.into - l.n
