-- `rings::is_ring` meets its contract. The loop's invariant: as many turns lead from a to d as darts of the port stand before k, and none before d comes back to a.
-- Assumes nothing.
use mathlib.Core.Path.{◌≡◌, refl}
use Prim.Native.Nat.{◌<◌}
use native.Mathlib.Omega.{arith}
use lib.ListN.{length, get_or}
use Rattle.reach.specs.Neighbours.{first_dart}
use Rattle.reach.proofs.Chains.{more_up}
use Rattle.reach.proofs.Spreading.{first_read, more_long, more_read}
use Rattle.rings.proofs.Following.{bare, start, step, early, end, followed_in}
use Rattle.rings.proofs.is_ring.Goals as goal
use Rattle.rings.proofs.is_ring.Goals.{At-loop-k, Start}

-- the port's first dart
first_is : (c : Start) → get_or c.args.first.now c.args.p 0 ≡ first_dart c.args.ends.now c.args.p
first_is c = first_read _ _ _ _ c.requires.tables c.args.p c.requires.port

pub returns-then-ends-a : goal.returns-then-ends-a
returns-then-ends-a c = bare _ _ _ (omega (arith, first_is (goal.at.returns-then-ends-a c).Start))

pub bounds-turns-a : goal.bounds-turns-a
bounds-turns-a c = omega (arith, c.requires.ports.range.size)

pub bounds-more-a : goal.bounds-more-a
bounds-more-a c = omega (arith, more_long _ _ _ _ c.requires.tables)

pub loop-k-init : goal.loop-k-init
loop-k-init c = start _ _ _ _ (first_is (goal.at.loop-k-init c).Start) c.if-ends-a.false _ _ refl (more_read _ _ _ _ c.requires.tables (get_or c.args.first.now c.args.p 0) c.if-ends-a.false)

pub returns-then-d-a : goal.returns-then-d-a
returns-then-d-a c = early _ _ _ _ (first_is (goal.at.returns-then-d-a c).Start) c.if-ends-a.false c.requires.ports _ _ c.loop-k.invariant c.loop-k-test.true c.if-d-a.true

-- the dart that turns led to
dart_in : (c : At-loop-k) → (get_or c.args.first.now c.args.p 0 ≡ first_dart c.args.ends.now c.args.p) → c.loop-k.d < length c.args.ends.now
dart_in c first_is = followed_in _ _ _ _ first_is c.if-ends-a.false c.requires.ports _ _ c.loop-k.invariant

pub offset_bounds-turns-d : goal.offset_bounds-turns-d
offset_bounds-turns-d c = omega (arith, dart_in (goal.at.offset_bounds-turns-d c).At-loop-k (first_is (goal.at.offset_bounds-turns-d c).Start))

pub bounds-turns-d : goal.bounds-turns-d
bounds-turns-d c = omega (arith, dart_in (goal.at.bounds-turns-d c).At-loop-k (first_is (goal.at.bounds-turns-d c).Start), c.requires.ports.range.size)

pub bounds-more-k : goal.bounds-more-k
bounds-more-k c = omega (arith, more_long _ _ _ _ c.requires.tables)

pub loop-k-smaller : goal.loop-k-smaller
loop-k-smaller c = omega (arith, more_read _ _ _ _ c.requires.tables c.loop-k.k c.loop-k-test.true, more_up c.args.ends.now c.loop-k.k)

pub loop-k-preserved : goal.loop-k-preserved
loop-k-preserved c = step _ _ _ _ (first_is (goal.at.loop-k-preserved c).Start) c.if-ends-a.false _ _ c.loop-k.invariant c.loop-k-test.true c.if-d-a.false _ _ refl (more_read _ _ _ _ c.requires.tables c.loop-k.k c.loop-k-test.true)

pub returns : goal.returns
returns c = end _ _ _ _ (first_is (goal.at.returns c).Start) c.if-ends-a.false c.requires.ports _ _ c.loop-k.invariant (omega arith)
