-- `try_lay::ring` is safe. The loop's invariant: the file is as long as it was made.
-- Assumes nothing.
use mathlib.Core.Path.{◌≡◌}
use lib.ListN.{length}
use Rattle.try_lay.proofs.ring.Given as goal

abbrev pub invariant-loop-k : goal.invariant-loop-k
invariant-loop-k l = 1208 ≡ length l.file
