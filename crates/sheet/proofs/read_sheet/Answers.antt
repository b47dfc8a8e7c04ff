-- `sheet::read_sheet` meets its contract: the first test that refuses decides, and nothing is written before all are passed.
-- Assumes nothing.
use mathlib.Core.Path.{◌≡◌, sym, ◌∙◌}
use borrow.Author.Rules.{rules}
use native.Mathlib.Omega.{arith}
use Rattle.std.specs.Prelude.{Err}
use Rattle.plate.proofs.Laws.{sheet_channels}
use Rattle.sheet.proofs.Parts.{few_channels}
use Rattle.sheet.proofs.Reading.{tested, turned, room, stop_1, stop_2, stop_3, go}
use Rattle.sheet.proofs.read_sheet.Goals as goal

pub returns-in_err-file_tests : goal.returns-in_err-file_tests
returns-in_err-file_tests c =
    let err : c.from_residual.result ≡ Err c.in_err-file_tests.field-0.0 = search rules in
    let w = stop_1 _ c.args.darts.now c.args.lengths.now _ c.file_tests.ensures _ _ err c.in_err-file_tests.was in
    record { answer = w.0; darts = w.1; lengths = w.2 }

pub file_turn_tests-requires : goal.file_turn_tests-requires
file_turn_tests-requires c = tested _ c.args.darts.now c.args.lengths.now _ c.file_tests.ensures c.in_ok-file_tests.was

pub returns-in_err-file_turn_tests : goal.returns-in_err-file_turn_tests
returns-in_err-file_turn_tests c =
    let err : c.from_residual-in_err-file_turn_tests.result ≡ Err c.in_err-file_turn_tests.field-0.0 = search rules in
    let w = stop_2 _ c.args.darts.now c.args.lengths.now _ c.file_tests.ensures c.in_ok-file_tests.was _ c.file_turn_tests.ensures _ _ err c.in_err-file_turn_tests.was in
    record { answer = w.0; darts = w.1; lengths = w.2 }

pub lent_test-requires : goal.lent_test-requires
lent_test-requires c = omega (arith, few_channels _ (tested _ c.args.darts.now c.args.lengths.now _ c.file_tests.ensures c.in_ok-file_tests.was), c.counts.ensures.1)

pub returns-in_err-lent_test : goal.returns-in_err-lent_test
returns-in_err-lent_test c =
    let err : c.from_residual-in_err-lent_test.result ≡ Err c.in_err-lent_test.field-0.0 = search rules in
    let w =
    stop_3 _ c.args.darts.now c.args.lengths.now _ c.file_tests.ensures c.in_ok-file_tests.was _ c.file_turn_tests.ensures c.in_ok-file_turn_tests.was _ _ (c.counts.ensures.1 ∙ sym (sheet_channels _)) c.lent_test.ensures _ _
    err c.in_err-lent_test.was in
    record { answer = w.0; darts = w.1; lengths = w.2 }

pub judge_lands-requires : goal.judge_lands-requires
judge_lands-requires c =
    let d = c.args.darts.now in
    let l = c.args.lengths.now in
    let p = c.file_tests.ensures in
    let t = c.in_ok-file_tests.was in
    let u = c.in_ok-file_turn_tests.was in
    record {
      tested = tested _ d l _ p t;
      turned = turned _ d l _ p t _ c.file_turn_tests.ensures u;
      room = room _ d l _ p t _ c.file_turn_tests.ensures u _ _ (c.counts.ensures.1 ∙ sym (sheet_channels _)) c.lent_test.ensures c.in_ok-lent_test.was;
    }

pub returns : goal.returns
returns c =
    let e = c.judge_lands.ensures in
    let w =
    go _ c.args.darts.now c.args.lengths.now _ c.file_tests.ensures c.in_ok-file_tests.was _ c.file_turn_tests.ensures c.in_ok-file_turn_tests.was _ _ (c.counts.ensures.1 ∙ sym (sheet_channels _)) c.lent_test.ensures c.in_ok-lent_test.was
    _ _ _ e.lands e.flat e.darts e.lengths in
    record { answer = w.0; darts = w.1; lengths = w.2 }
