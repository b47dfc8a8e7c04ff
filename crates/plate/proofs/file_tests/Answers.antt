-- `plate::file_tests` meets its contract: the first of the three stages that refuses decides, and the file that passes the second has all its pairs.
-- Assumes nothing.
use mathlib.Core.Path.{◌≡◌, ap, ◌∙◌}
use borrow.Author.Rules.{rules}
use Rattle.plate.specs.Answers.{test_of}
use Rattle.plate.proofs.Laws.{test_passed}
use Rattle.plate.proofs.Stages.{counted_pairs, file_stop_1, file_stop_2, file_go}
use Rattle.plate.proofs.file_tests.Goals as goal

pub returns-in_err-mark_tests : goal.returns-in_err-mark_tests
returns-in_err-mark_tests c =
    let same : c.from_residual.result ≡ c.mark_tests.result = search rules in
    file_stop_1 _ _ _ (ap test_of same ∙ c.mark_tests.ensures) _ (same ∙ c.in_err-mark_tests.was)

pub returns-in_err-count_tests : goal.returns-in_err-count_tests
returns-in_err-count_tests c =
    let same : c.from_residual-in_err-count_tests.result ≡ c.count_tests.result = search rules in
    file_stop_2 _ _ _ c.mark_tests.ensures (c.in_ok-mark_tests.was) _ (ap test_of same ∙ c.count_tests.ensures) _ (same ∙ c.in_err-count_tests.was)

pub file_pair_tests-requires : goal.file_pair_tests-requires
file_pair_tests-requires c =
    let w = counted_pairs _ _ (test_passed _ _ c.count_tests.ensures (c.in_ok-count_tests.was)) in
    record { long = w.0; few = w.1 }

pub returns : goal.returns
returns c = file_go _ _ _ c.mark_tests.ensures (c.in_ok-mark_tests.was) _ c.count_tests.ensures (c.in_ok-count_tests.was) _ c.file_pair_tests.ensures
