-- `way::enters` meets its contract: a dart enters the port that its reverse leaves.
-- Assumes nothing.
use mathlib.Core.Path.{ap}
use Prim.Native.Nat.{ℕ}
use lib.ListN.{get_or}
use Rattle.rules.specs.Terms.{enters}
use Rattle.way.proofs.enters.Goals as goal

pub returns : goal.returns
unfolding enters
returns c = ap (λ (e : ℕ). get_or c.args.ends.now e 0) c.reverse.ensures
