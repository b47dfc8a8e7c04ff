-- `draft::put_turns` meets its contract. The loop's invariant: the bytes of the first i turns are written and the rest stays.
-- Assumes nothing.
use mathlib.Core.Path.{◌≡◌, refl, ◌∙◌}
use native.Mathlib.Omega.{arith}
use lib.ListN.{length}
use lib.Seq.{take-length}
use Rattle.rules.specs.Lists.{concat}
use Rattle.draft.proofs.Bytes.{put_turn}
use Rattle.draft.proofs.put_turns.Goals as goal

pub loop-i-init : goal.loop-i-init
unfolding concat
loop-i-init c = refl

pub loop-i-preserved : goal.loop-i-preserved
loop-i-preserved c = put_turn _ _ _ _ _ c.loop-i-test.true c.requires c.loop-i.invariant c.put_word.ensures

pub returns : goal.returns
returns c =
    let e : c.loop-i.i ≡ length c.args.turns.now = omega arith in
    c.loop-i.invariant ∙ rw (e, take-length c.args.turns.now) refl
