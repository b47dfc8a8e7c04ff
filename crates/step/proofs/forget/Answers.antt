-- `step::forget` meets its contract: a number is made 0 where its channel is flagged, and stands otherwise (Forgetting).
-- Assumes nothing.
use mathlib.Core.Logic.{inl, inr}
use native.Mathlib.Omega.{arith}
use Rattle.rules.specs.Lists.{at}
use Rattle.step.proofs.Forgetting.{forgot_start, forgot_step, forgot_end}
use Rattle.step.proofs.forget.Goals as goal
use Rattle.step.proofs.forget.Goals.{then-own-j, else-own-j}

pub loop-j-init : goal.loop-j-init
loop-j-init c = forgot_start _ _

pub loop-j-preserved : goal.loop-j-preserved
unfolding at
loop-j-preserved c = forgot_step _ _ _ _ _ c.loop-j.invariant (omega (arith, c.loop-j.invariant.size)) (elim c.if-own-j.branch [ then-own-j w ↦ inl (w.if-own-j.true, w.bars-is) | else-own-j w ↦ inr (w.if-own-j.false, w.bars-is) ])

pub returns : goal.returns
returns c = forgot_end _ _ _ _ c.loop-j.invariant (omega (arith, c.loop-j.invariant.size))
