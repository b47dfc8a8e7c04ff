-- `fragment::touch_all` meets its contract. The loop's invariant: the darts of p from d on make of what is touched now what all darts of p make of what was touched at first.
-- Assumes nothing.
use native.Mathlib.Omega.{arith}
use lib.ListN.{length}
use Rattle.reach.specs.Floods.{Tables}
use Rattle.reach.proofs.Chains.{more_up}
use Rattle.reach.proofs.Spreading.{first_long, first_read, more_long, more_read}
use Rattle.fragment.proofs.Collecting.{touched_start, touched_step, touched_end}
use Rattle.fragment.proofs.touch_all.Goals as goal
use Rattle.fragment.proofs.touch_all.Goals.{Start}

tables : (c : Start) → Tables (length c.args.net.first.now) c.args.net.ends.now c.args.net.first.now c.args.net.more.now
tables c = c.args.net.tables

pub bounds-net-p : goal.bounds-net-p
bounds-net-p c = omega (arith, first_long _ _ _ _ (tables (goal.at.bounds-net-p c).Start))

pub loop-d-init : goal.loop-d-init
loop-d-init c = touched_start _ _ _ _ _ _ (first_read _ _ _ _ (tables (goal.at.loop-d-init c).Start) c.args.p (omega (arith, c.requires.port, c.requires.ports)))

pub bounds-net-d : goal.bounds-net-d
bounds-net-d c = omega (arith, more_long _ _ _ _ (tables (goal.at.bounds-net-d c).Start))

pub loop-d-smaller : goal.loop-d-smaller
loop-d-smaller c = omega (arith, more_read _ _ _ _ (tables (goal.at.loop-d-smaller c).Start) c.loop-d.d (omega arith), more_up c.args.net.ends.now c.loop-d.d)

pub loop-d-preserved : goal.loop-d-preserved
loop-d-preserved c = touched_step _ _ _ _ _ _ _ c.loop-d.invariant (omega arith) _ _ c.touch.ensures (more_read _ _ _ _ (tables (goal.at.loop-d-preserved c).Start) c.loop-d.d (omega arith))

pub returns : goal.returns
returns c = touched_end _ _ _ _ _ _ _ c.loop-d.invariant (omega arith)
