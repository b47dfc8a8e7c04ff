-- `fragment::own_channels` meets its contract. The loop's invariant: what stands before place j is written.
-- Assumes nothing.
use native.Mathlib.Omega.{arith}
use Rattle.fragment.proofs.Rising.{written_step, written_end}
use Rattle.fragment.proofs.own_channels.Goals as goal

pub loop-j-preserved : goal.loop-j-preserved
loop-j-preserved c = written_step _ _ _ _ _ c.loop-j.invariant (omega arith) c.is_own.ensures

pub returns : goal.returns
returns c = written_end _ _ _ _ c.loop-j.invariant (omega arith)
