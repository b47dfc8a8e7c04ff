-- `way::pass` meets its contract. The invariant: the darts from d on make of the marked sets what all darts make of those at the start (Passing).
-- Assumes nothing.
use mathlib.Core.Path.{◌∙◌}
use Prim.Native.Nat.{◌<◌}
use native.Mathlib.Omega.{arith}
use lib.ListN.{length}
use Rattle.rules.specs.Terms.{leaves}
use Rattle.way.proofs.Darts.{left_port}
use Rattle.way.proofs.Passing.{start, taken, left, end}
use Rattle.way.proofs.pass.Goals as goal
use Rattle.way.proofs.pass.Goals.{At-loop-d, then-joins, else-joins}

-- the port that dart d leaves has a mark
port : (c : At-loop-d) → c.loop-d.d < length c.args.net.ends.now → leaves c.args.net.ends.now c.loop-d.d < length c.loop-d.far
port c h = omega (arith, left_port _ _ _ c.args.net.sized c.loop-d.d h, c.loop-d.invariant.size)

pub loop-d-init : goal.loop-d-init
loop-d-init c = start _ _ _ _ _ _

pub mark-requires-clause-port : goal.mark-requires-clause-port
unfolding leaves
mark-requires-clause-port c = omega (arith, port (goal.at.mark-requires-clause-port c).At-loop-d (omega arith))

pub loop-d-preserved : goal.loop-d-preserved
unfolding leaves
loop-d-preserved c =
    elim c.if-joins.branch [
      | then-joins w ↦ taken _ _ _ _ _ _ _ _ _ c.loop-d.invariant (omega arith) (port (goal.at.loop-d-preserved c).At-loop-d (omega arith)) c.joins.ensures w.if-joins.true _ (w.far-is ∙ w.mark.ensures)
      | else-joins w ↦ left _ _ _ _ _ _ _ _ _ c.loop-d.invariant (omega arith) c.joins.ensures w.if-joins.false _ w.far-is
    ]

pub returns : goal.returns
returns c = end _ _ _ _ _ _ _ _ c.loop-d.invariant (omega arith)
