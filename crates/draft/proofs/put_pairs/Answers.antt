-- `draft::put_pairs` meets its contract. The loop's invariant: the first i ports are written and the rest stays.
-- Assumes nothing.
use mathlib.Core.Path.{◌≡◌, refl, ◌∙◌}
use native.Mathlib.Omega.{arith}
use lib.ListN.{length}
use lib.Seq.{take-length}
use Rattle.draft.proofs.put_pairs.Goals as goal

pub returns : goal.returns
returns c =
    let e : c.loop-i.i ≡ length c.args.pairs.now = omega arith in
    c.loop-i.invariant ∙ rw (e, take-length c.args.pairs.now) refl
