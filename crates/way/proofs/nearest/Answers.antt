-- `way::nearest` meets its contract. The chain of p's darts is followed; the darts passed over leave other ports and count for nothing. The invariant: the darts from d on make of the best dart b what all darts make of none (Choosing). The measure is what is left of the darts, since the chain rises.
-- Assumes nothing.
use native.Mathlib.Omega.{arith}
use Rattle.reach.proofs.Chains.{more_up}
use Rattle.reach.proofs.Spreading.{first_long, first_read, more_long, more_read}
use Rattle.way.proofs.Choosing.{start, step, end}
use Rattle.way.proofs.nearest.Goals as goal

pub bounds-net-p : goal.bounds-net-p
bounds-net-p c = omega (arith, first_long _ _ _ _ c.args.net.tables)

pub loop-d-init : goal.loop-d-init
loop-d-init c = start _ _ _ _ _ (first_read _ _ _ _ c.args.net.tables _ (omega (arith, c.requires.port, c.requires.ports)))

pub bounds-net-d : goal.bounds-net-d
bounds-net-d c = omega (arith, more_long _ _ _ _ c.args.net.tables)

pub loop-d-smaller : goal.loop-d-smaller
loop-d-smaller c = omega (arith, more_read _ _ _ _ c.args.net.tables c.loop-d.d (omega arith), more_up c.args.net.ends.now c.loop-d.d)

pub loop-d-preserved : goal.loop-d-preserved
loop-d-preserved c = step _ _ _ _ _ _ c.loop-d.invariant (omega arith) c.requires.sizes.few _ _ (more_read _ _ _ _ c.args.net.tables c.loop-d.d (omega arith)) c.closer-b.ensures

pub returns : goal.returns
returns c = end _ _ _ _ _ _ c.loop-d.invariant (omega arith) c.requires.sizes.few
