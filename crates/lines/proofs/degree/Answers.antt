-- `lines::degree` meets its contract. The loop's invariant: n darts of the port are counted, and those left are the ones from d on (`Degree`). The tables lead from each dart to the next, which is higher. The measure is what is left of the darts.
-- Assumes nothing.
use native.Mathlib.Omega.{arith}
use Rattle.reach.proofs.Chains.{more_up}
use Rattle.reach.proofs.Spreading.{first_read, more_long, more_read}
use Rattle.lines.proofs.Rows.{degree_start, degree_step, degree_end}
use Rattle.lines.proofs.degree.Goals as goal

pub loop-d-init : goal.loop-d-init
loop-d-init c = degree_start _ _ _ (first_read _ _ _ _ c.args.net.tables _ c.requires)

pub bounds-net-d : goal.bounds-net-d
bounds-net-d c = omega (arith, more_long _ _ _ _ c.args.net.tables)

pub loop-d-smaller : goal.loop-d-smaller
loop-d-smaller c = omega (arith, more_read _ _ _ _ c.args.net.tables c.loop-d.d c.loop-d-test.true, more_up c.args.net.ends.now c.loop-d.d)

pub loop-d-preserved : goal.loop-d-preserved
loop-d-preserved c = degree_step _ _ _ _ _ c.loop-d-test.true (more_read _ _ _ _ c.args.net.tables c.loop-d.d c.loop-d-test.true) c.loop-d.invariant

pub returns : goal.returns
returns c = degree_end _ _ _ _ c.loop-d-test.false c.loop-d.invariant
