-- `plate::flood_tests` meets its contract: the first of the two searches that found a port decides. The marks and the queue keep their lengths.
-- Assumes nothing.
use mathlib.Core.Path.{sym, ◌∙◌}
use native.Mathlib.Omega.{arith}
use Rattle.plate.proofs.Stages.{piece_10, piece_11, piece_passed, passed_is, found_fits}
use Rattle.plate.proofs.flood_tests.Goals as goal

pub refused-requires : goal.refused-requires
refused-requires c = found_fits _ _ _ _ c.first_apart.ensures c.in-Some.is c.requires.few

pub returns-in-Some : goal.returns-in-Some
returns-in-Some c = c.refused.ensures ∙ sym (piece_10 _ _ _ _ c.first_apart.ensures _ c.in-Some.is)

pub refused-requires-in-Some-first_cut : goal.refused-requires-in-Some-first_cut
refused-requires-in-Some-first_cut c = found_fits _ _ _ _ c.first_cut.ensures c.in-Some-first_cut.is (omega (arith, c.requires.few, c.first_apart.auto.marks))

pub returns-in-Some-first_cut : goal.returns-in-Some-first_cut
returns-in-Some-first_cut c =
    c.refused-in-Some-first_cut.ensures
    ∙ sym (piece_11 _ _ _ _ c.first_apart.ensures c.in_default.is _ _ c.first_apart.auto.marks c.first_cut.ensures _ c.in-Some-first_cut.is)

pub returns : goal.returns
returns c =
    sym passed_is
    ∙ sym (piece_passed _ _ _ _ c.first_apart.ensures c.in_default.is _ _ c.first_apart.auto.marks c.first_cut.ensures c.in_default-first_cut.is)
