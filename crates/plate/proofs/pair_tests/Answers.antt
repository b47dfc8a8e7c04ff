-- `plate::pair_tests` meets its contract: the first of the three searches that found a channel decides.
-- Assumes nothing.
use mathlib.Core.Path.{sym, ◌∙◌}
use native.Mathlib.Omega.{arith}
use Rattle.plate.proofs.Stages.{pair_7, pair_8, pair_9, pair_passed, passed_is, found_fits}
use Rattle.plate.proofs.pair_tests.Goals as goal

pub refused-requires : goal.refused-requires
refused-requires c = found_fits _ _ _ _ c.first_strange.ensures c.in-Some.is (omega arith)

pub returns-in-Some : goal.returns-in-Some
returns-in-Some c = c.refused.ensures ∙ sym (pair_7 _ _ _ _ c.first_strange.ensures _ c.in-Some.is)

pub refused-requires-in-Some-first_loop : goal.refused-requires-in-Some-first_loop
refused-requires-in-Some-first_loop c = found_fits _ _ _ _ c.first_loop.ensures c.in-Some-first_loop.is (omega arith)

pub returns-in-Some-first_loop : goal.returns-in-Some-first_loop
returns-in-Some-first_loop c =
    c.refused-in-Some-first_loop.ensures
    ∙ sym (pair_8 _ _ _ _ c.first_strange.ensures c.in_default.is _ c.first_loop.ensures _ c.in-Some-first_loop.is)

pub refused-requires-in-Some-first_met_earlier : goal.refused-requires-in-Some-first_met_earlier
refused-requires-in-Some-first_met_earlier c = found_fits _ _ _ _ c.first_met_earlier.ensures c.in-Some-first_met_earlier.is (omega arith)

pub returns-in-Some-first_met_earlier : goal.returns-in-Some-first_met_earlier
returns-in-Some-first_met_earlier c =
    c.refused-in-Some-first_met_earlier.ensures
    ∙ sym (pair_9 _ _ _ _ c.first_strange.ensures c.in_default.is _ c.first_loop.ensures c.in_default-first_loop.is _ c.first_met_earlier.ensures _ c.in-Some-first_met_earlier.is)

pub returns : goal.returns
returns c =
    sym passed_is
    ∙ sym (pair_passed _ _ _ _ c.first_strange.ensures c.in_default.is _ c.first_loop.ensures c.in_default-first_loop.is _ c.first_met_earlier.ensures c.in_default-first_met_earlier.is)
