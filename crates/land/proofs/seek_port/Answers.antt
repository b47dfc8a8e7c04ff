-- `land::seek_port` meets its contract. The loop's invariant: the darts left can be walked, none that was passed leaves the port, and some dart left does; what is left says what the whole says (`Seeking`).
-- Assumes nothing.
use native.Mathlib.Omega.{arith}
use Rattle.rules.specs.Terms.{leaves}
use Rattle.land.proofs.Walking.{left_start, left_dart, left_step, seek_start, seek_no, seek_yes, seek_none}
use Rattle.land.proofs.seek_port.Goals as goal

pub loop-steps-init : goal.loop-steps-init
loop-steps-init c = (left_start _ _ _ c.requires.darts, seek_start _ _ _ _ _ c.requires.t)

pub offset_bounds-ends-dart : goal.offset_bounds-ends-dart
offset_bounds-ends-dart c = omega (arith, (left_dart _ _ _ _ c.loop-steps-test.true c.loop-steps.invariant.0).inside.0)

pub bounds-ends-dart : goal.bounds-ends-dart
bounds-ends-dart c = omega (arith, (left_dart _ _ _ _ c.loop-steps-test.true c.loop-steps.invariant.0).inside.0)

pub after-dart-requires : goal.after-dart-requires
after-dart-requires c = left_dart _ _ _ _ c.loop-steps-test.true c.loop-steps.invariant.0

pub loop-steps-preserved : goal.loop-steps-preserved
unfolding leaves
loop-steps-preserved c = (left_step _ _ _ _ _ c.loop-steps-test.true c.after-dart.ensures c.loop-steps.invariant.0, seek_no _ _ _ _ _ _ _ _ _ _ c.loop-steps-test.true c.after-dart.ensures c.if-ends-dart.false c.loop-steps.invariant.1)

pub returns-then-ends-dart : goal.returns-then-ends-dart
unfolding leaves
returns-then-ends-dart c = seek_yes _ _ _ _ _ _ _ _ _ c.loop-steps-test.true c.if-ends-dart.true c.loop-steps.invariant.1

pub unreachable-requires : goal.unreachable-requires
unreachable-requires c = seek_none _ _ _ _ _ _ _ _ _ c.loop-steps-test.false c.loop-steps.invariant.1
