-- `fragment::collect` meets its contract. The loop's invariant: what is written, and behind it the marked ports from p on, are all marked ports.
-- Assumes nothing.
use mathlib.Core.Logic.{inl, inr}
use native.Mathlib.Omega.{arith}
use Rattle.rules.specs.Lists.{at}
use Rattle.fragment.proofs.Collecting.{collected_step, collected_end}
use Rattle.fragment.proofs.collect.Goals as goal
use Rattle.fragment.proofs.collect.Goals.{then-marked, else-marked}

pub loop-p-preserved : goal.loop-p-preserved
unfolding at
loop-p-preserved c =
    collected_step _ _ _ c.requires.room _ _ _ _ _ c.loop-p.invariant (omega arith) (elim c.if-marked.branch [
      | then-marked w ↦ inl (w.if-marked.true, w.out-is, w.n-is)
      | else-marked w ↦ inr (w.if-marked.false, w.out-is, w.n-is)
    ])

pub returns : goal.returns
returns c = (omega (arith, c.loop-p.invariant.few, c.loop-p.invariant.long), collected_end _ _ _ c.requires.room _ _ _ c.loop-p.invariant (omega arith))
