-- `fragment::inner_ports` meets its contract. The loop's invariant: what stands before place p is written.
-- Assumes nothing.
use mathlib.Core.Path.{sym, ap, ◌∙◌}
use mathlib.Core.Bool.{Bool, not, ◌&&◌}
use native.Mathlib.Omega.{arith}
use Rattle.rules.specs.Lists.{at}
use Rattle.fragment.proofs.Rising.{written_step, written_end}
use Rattle.fragment.proofs.inner_ports.Goals as goal
use Rattle.fragment.proofs.inner_ports.Goals.{then-marks-p, else-marks-p}

pub loop-p-preserved : goal.loop-p-preserved
unfolding at
loop-p-preserved c =
    written_step _ _ _ _ _ c.loop-p.invariant (omega arith) (elim c.if-marks-p.branch [
      | then-marks-p w ↦ w.inside-is ∙ sym (ap (λ (m : Bool). m && not (at c.args.laid.now c.loop-p.p)) w.if-marks-p.true)
      | else-marks-p w ↦ w.inside-is ∙ w.if-marks-p.false ∙ sym (ap (λ (m : Bool). m && not (at c.args.laid.now c.loop-p.p)) w.if-marks-p.false)
    ])

pub returns : goal.returns
returns c = written_end _ _ _ _ c.loop-p.invariant (omega arith)
