-- `fragment::weigh` meets its contract: the lands before the place where a search begins do not fit, so the first land found is the lowest that is admissible, and it is the only one where none behind it is found. The places where the searches end are told.
-- Assumes nothing.
use mathlib.Core.Path.{◌≡◌, sym, ◌∙◌}
use native.Mathlib.Omega.{arith}
use lib.ListN.{length}
use Rattle.land.specs.Walks.{lands}
use Rattle.land.proofs.Laws.{length_lands}
use Rattle.fragment.proofs.Weighing.{none_left, second_begins, told_again, weight_told}
use Rattle.fragment.proofs.Barring.{moved_stored}
use Rattle.fragment.proofs.weigh.Goals as goal
use Rattle.fragment.proofs.weigh.Goals.{Start}

size : (c : Start) → length (lands c.args.kept.turns.now c.args.kept.firsts.now c.args.kept.lens.now c.args.kept.count) ≡ c.args.kept.count
size c = length_lands _ _ _ _ c.args.kept.walkable.starts c.args.kept.walkable.sizes

pub admissible-requires-clause-from_le_count : goal.admissible-requires-clause-from_le_count
admissible-requires-clause-from_le_count c = omega (arith, c.requires.passed.first, size (goal.at.admissible-requires-clause-from_le_count c).Start)

pub returns-in_err-lowest-clause-weight : goal.returns-in_err-lowest-clause-weight
returns-in_err-lowest-clause-weight c =
    c.from_residual.ensures ∙ none_left _ _ _ _ _ _ (size (goal.at.returns-in_err-lowest-clause-weight c).Start) c.requires.passed _ (sym c.in_err-lowest.was ∙ c.admissible.ensures)

pub admissible-second-requires-clause-from_le_count : goal.admissible-second-requires-clause-from_le_count
admissible-second-requires-clause-from_le_count c =
    second_begins _ _ _ _ _ _ (size (goal.at.admissible-second-requires-clause-from_le_count c).Start) c.requires.passed c.args.k _ (sym c.in_ok-lowest.was ∙ c.admissible.ensures) _ c.max-next.ensures

pub returns-clause-weight : goal.returns-clause-weight
returns-clause-weight c =
    weight_told _ _ _ _ _ _ (size (goal.at.returns-clause-weight c).Start) c.requires.passed _ _ (sym c.in_ok-lowest.was ∙ c.admissible.ensures) _ c.max-next.ensures _ c.admissible-second.ensures _ c.is_none.ensures

pub returns-clause-moved : goal.returns-clause-moved
returns-clause-moved c =
    moved_stored _ _ _ _ _ _ _ c.requires.places
    (told_again _ _ _ _ _ _ (size (goal.at.returns-clause-moved c).Start) c.requires.passed c.args.k _ (sym c.in_ok-lowest.was ∙ c.admissible.ensures) _ c.max-next.ensures _ c.admissible-second.ensures _ c.unwrap_or-behind.ensures)
