-- `step::forget` meets its contract. The loop's invariant: the numbers before j are forgotten as they should be, and the others stand.
-- Assumes nothing.
use Rattle.step.proofs.Forgetting.{Forgot}
use Rattle.step.proofs.forget.Given as goal

abbrev pub invariant-loop-j : goal.invariant-loop-j
invariant-loop-j l = Forgot l.own l.initial.bars l.bars l.j
