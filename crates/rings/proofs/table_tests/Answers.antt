-- `rings::table_tests` meets its contract: the first of the three searches that found something decides, and each is made where the ones before it found nothing.
-- Assumes nothing.
use mathlib.Core.Path.{sym}
use native.Mathlib.Omega.{arith}
use Rattle.plate.specs.Answers.{test_of}
use Rattle.plate.proofs.Stages.{found_fits}
use Rattle.rings.proofs.Turns.{range_of, ports_of, turn_12, turn_13, turn_14, turn_passed}
use Rattle.rings.proofs.table_tests.Goals as goal

pub overflow_cast-result : goal.overflow_cast-result
overflow_cast-result c = omega (arith, found_fits _ _ _ _ c.first_wild.ensures c.in-Some.is (omega arith))

pub returns-in-Some : goal.returns-in-Some
unfolding test_of
returns-in-Some c = sym (turn_12 _ _ _ _ c.first_wild.ensures _ c.in-Some.is)

pub first_away-requires : goal.first_away-requires
first_away-requires c = range_of _ _ c.requires.darts _ c.first_wild.ensures c.in_default.is

pub overflow_cast-result-in-Some-first_away : goal.overflow_cast-result-in-Some-first_away
overflow_cast-result-in-Some-first_away c = omega (arith, found_fits _ _ _ _ c.first_away.ensures c.in-Some-first_away.is (omega arith))

pub returns-in-Some-first_away : goal.returns-in-Some-first_away
unfolding test_of
returns-in-Some-first_away c = sym (turn_13 _ _ _ _ c.first_wild.ensures c.in_default.is _ c.first_away.ensures _ c.in-Some-first_away.is)

pub first_broken-requires-clause-ports : goal.first_broken-requires-clause-ports
first_broken-requires-clause-ports c = ports_of _ _ (range_of _ _ c.requires.darts _ c.first_wild.ensures c.in_default.is) _ c.first_away.ensures c.in_default-first_away.is

pub overflow_cast-result-in-Some-first_broken : goal.overflow_cast-result-in-Some-first_broken
overflow_cast-result-in-Some-first_broken c = omega (arith, found_fits _ _ _ _ c.first_broken.ensures c.in-Some-first_broken.is (omega arith))

pub returns-in-Some-first_broken : goal.returns-in-Some-first_broken
unfolding test_of
returns-in-Some-first_broken c = sym (turn_14 _ _ _ _ c.first_wild.ensures c.in_default.is _ c.first_away.ensures c.in_default-first_away.is _ c.first_broken.ensures _ c.in-Some-first_broken.is)

pub returns : goal.returns
unfolding test_of
returns c = sym (turn_passed _ _ _ _ c.first_wild.ensures c.in_default.is _ c.first_away.ensures c.in_default-first_away.is _ c.first_broken.ensures c.in_default-first_broken.is)
