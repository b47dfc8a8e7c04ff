-- `reach::spread` meets its contract. The loop's invariant: to meet the darts of p from d on, from the state at hand, gives what to meet all darts of p gives from the first state.
-- Assumes nothing.
use native.Mathlib.Omega.{arith}
use Rattle.reach.proofs.Chains.{more_up}
use Rattle.reach.proofs.Meeting.{enters_in}
use Rattle.reach.proofs.Spreading.{first_long, first_read, more_long, more_read, start, step, end}
use Rattle.reach.proofs.spread.Goals as goal

pub bounds-net-p : goal.bounds-net-p
bounds-net-p c = omega (arith, first_long _ _ _ _ c.args.net.tables)

pub loop-d-init : goal.loop-d-init
loop-d-init c = start _ _ _ _ _ _ _ c.requires.room (first_read _ _ _ _ c.args.net.tables c.args.p (omega (arith, c.requires.port, c.requires.ports)))

pub bounds-net-d : goal.bounds-net-d
bounds-net-d c = omega (arith, more_long _ _ _ _ c.args.net.tables)

pub loop-d-smaller : goal.loop-d-smaller
loop-d-smaller c = omega (arith, more_read _ _ _ _ c.args.net.tables c.loop-d.d (omega arith), more_up c.args.net.ends.now c.loop-d.d)

pub loop-d-preserved : goal.loop-d-preserved
loop-d-preserved c = step _ _ _ _ _ _ _ _ _ _ c.loop-d.invariant (omega arith) (omega (arith, enters_in _ _ _ c.args.net.sized c.loop-d.d (omega arith), c.requires.ports)) _ _ _ _ c.meet-m.ensures (more_read _ _ _ _ c.args.net.tables c.loop-d.d (omega arith))

pub returns : goal.returns
returns c = end _ _ _ _ _ _ _ _ _ _ c.loop-d.invariant (omega arith)
