-- `fragment::laid_ports` meets its contract. The loop's invariant: the darts from d on make of the marks at hand all laid ports.
-- Assumes nothing.
use mathlib.Core.Path.{◌≡◌, sym, ap, ◌∙◌}
use mathlib.Core.Logic.{inl, inr}
use mathlib.Core.Bool.{false}
use Prim.Native.Nat.{ℕ}
use native.Mathlib.Omega.{arith}
use lib.ListN.{length, replicate}
use Rattle.rules.specs.Lists.{from}
use Rattle.rules.specs.Terms.{leaves}
use Rattle.rules.specs.Laying.{laid_ports}
use Rattle.fragment.proofs.Turning.{covering_step, covering_end}
use Rattle.fragment.proofs.laid_ports.Goals as goal
use Rattle.fragment.proofs.laid_ports.Goals.{At-loop-d, else-is_laid, then-is_laid}

-- all ports are unmarked at first, and as many as before
kept : (c : At-loop-d) → length c.fill.new.self ≡ length c.args.laid.now
kept c = c.fill.ensures.len

pub bounds-laid-ends : goal.bounds-laid-ends
unfolding leaves
bounds-laid-ends c = omega (arith, c.requires.ports c.loop-d.d (omega arith), kept (goal.at.bounds-laid-ends c).At-loop-d, c.loop-d.invariant.size)

pub loop-d-preserved : goal.loop-d-preserved
unfolding leaves
loop-d-preserved c =
    covering_step _ _ _ _ _ _ c.loop-d.invariant (omega arith) (elim c.if-is_laid.branch [
      | then-is_laid w ↦ inl (sym c.is_laid.ensures ∙ w.if-is_laid.true, w.laid-is)
      | else-is_laid w ↦ inr (sym c.is_laid.ensures ∙ w.if-is_laid.false, w.laid-is)
    ])

pub returns : goal.returns
returns c = covering_end _ _ _ _ _ c.loop-d.invariant (omega arith) ∙ ap (λ (v : ℕ). laid_ports c.args.ends.now c.args.turns.now (from 0 (length c.args.ends.now)) (replicate v false)) (kept (goal.at.returns c).At-loop-d)
