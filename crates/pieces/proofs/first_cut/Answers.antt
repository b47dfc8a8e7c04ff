-- `pieces::first_cut` meets its contract. The loop's invariant: the search of what is left, from port c on, gives what the whole search gives.
-- Assumes nothing.
use mathlib.Core.Path.{sym, ◌∙◌}
use native.Mathlib.Omega.{arith}
use Rattle.pieces.proofs.Cutting.{cuts_as}
use Rattle.pieces.proofs.Search.{find_here, find_on, find_over}
use Rattle.pieces.proofs.first_cut.Goals as goal

pub returns-then-is_cut : goal.returns-then-is_cut
returns-then-is_cut c = sym (c.loop-c.invariant ∙ find_here _ _ _ (cuts_as _ _ _ _ _ _ c.loop-c.auto.marks c.is_cut.ensures ∙ c.if-is_cut.true) (omega arith))

pub loop-c-preserved : goal.loop-c-preserved
loop-c-preserved c = c.loop-c.invariant ∙ find_on _ _ _ (cuts_as _ _ _ _ _ _ c.loop-c.auto.marks c.is_cut.ensures ∙ c.if-is_cut.false) (omega arith)

pub returns : goal.returns
returns c = sym (c.loop-c.invariant ∙ find_over _ _ _ (omega arith))
