-- `plate::read` meets its contract: the first of the two tests that refuses decides, or else the plate has the counts of the file.
-- Assumes nothing.
use mathlib.Core.Path.{◌≡◌, ap, ◌∙◌}
use borrow.Author.Rules.{rules}
use Rattle.std.specs.Prelude.{Result, Err}
use Rattle.plate.specs.declared.Plate.{Plate}
use Rattle.plate.specs.declared.Refusal.{Refusal}
use Rattle.plate.specs.Answers.{reading_of}
use Rattle.plate.proofs.Stages.{read_stop_1, read_stop_2, read_go, read_tested}
use Rattle.plate.proofs.read.Goals as goal

pub returns-in_err-file_tests : goal.returns-in_err-file_tests
returns-in_err-file_tests c =
    let err : c.from_residual.result ≡ Err c.in_err-file_tests.field-0.0 = search rules in
    ap (λ (r : Result Plate Refusal). reading_of r c.args.file.now) err ∙ read_stop_1 c.args.file.now c.file_tests.result c.file_tests.ensures c.in_err-file_tests.field-0.0 (c.in_err-file_tests.was)

pub file_piece_tests-requires : goal.file_piece_tests-requires
file_piece_tests-requires c = read_tested c.args.file.now c.file_tests.result c.file_tests.ensures (c.in_ok-file_tests.was)

pub returns-in_err-file_piece_tests : goal.returns-in_err-file_piece_tests
returns-in_err-file_piece_tests c =
    let err : c.from_residual-in_err-file_piece_tests.result ≡ Err c.in_err-file_piece_tests.field-0.0 = search rules in
    ap (λ (r : Result Plate Refusal). reading_of r c.args.file.now) err
    ∙ read_stop_2 c.args.file.now c.file_tests.result c.file_tests.ensures (c.in_ok-file_tests.was) c.file_piece_tests.result c.file_piece_tests.ensures c.in_err-file_piece_tests.field-0.0 (c.in_err-file_piece_tests.was)

pub returns : goal.returns
returns c = read_go c.args.file.now c.file_tests.result c.file_tests.ensures (c.in_ok-file_tests.was) c.file_piece_tests.result c.file_piece_tests.ensures (c.in_ok-file_piece_tests.was) c.counts.result c.counts.ensures.0 c.counts.ensures.1
