-- `plate::copy_ends` meets its contract. The loop's invariant: the first i ports are copied and the rest stays.
-- Assumes nothing.
use mathlib.Core.Path.{◌≡◌, ap, ◌∙◌}
use mathlib.Core.List.{◌++◌}
use Prim.Native.Nat.{ℕ, min}
use native.Mathlib.Omega.{arith}
use lib.ListN.{length, take, drop}
use Rattle.plate.specs.State.{copied}
use Rattle.plate.proofs.copy_ends.Goals as goal

pub returns : goal.returns
unfolding copied
returns c =
    let e : c.loop-i.i ≡ min (length c.args.pairs.now) (length c.args.ends.now) = omega arith in
    c.loop-i.invariant ∙ ap (λ (k : ℕ). take k c.args.pairs.now ++ drop k c.args.ends.now) e
