-- `sheet::file_turn_tests` meets its contract: the pairs and the turns stand at the start of two arrays and are lent from there.
-- Assumes nothing.
use mathlib.Core.Path.{◌≡◌, ◌∙◌}
use Prim.Native.Nat.{◌*◌}
use lib.ListN.{take}
use Rattle.rules.specs.Files.{sheet_file, ends_in, turns_in}
use Rattle.plate.proofs.Copies.{sheet_front}
use Rattle.sheet.proofs.Parts.{Known, known, lent_part, front_in, tests_ready, tests_as}
use Rattle.sheet.proofs.file_turn_tests.Goals as goal
use Rattle.sheet.proofs.file_turn_tests.Goals.{After-counts-head, After-turns_in-turns}

sized : (c : After-counts-head) → Known c.args.file.now c.counts-head.result.ports c.counts-head.result.channels
sized c = known _ _ _ c.requires c.counts-head.ensures.0 c.counts-head.ensures.1

-- the parts that are lent
ends : (c : After-turns_in-turns) → Known c.args.file.now c.counts-head.result.ports c.counts-head.result.channels → take (2 * c.counts-head.result.channels) c.ends_in-ends.result ≡ ends_in sheet_file c.args.file.now
ends c k = lent_part _ _ _ k _ _ (sheet_front _ _ c.requires c.ends_in-ends.ensures.0)

turns : (c : After-turns_in-turns) → Known c.args.file.now c.counts-head.result.ports c.counts-head.result.channels → take (2 * c.counts-head.result.channels) c.turns_in-turns.result ≡ turns_in sheet_file c.args.file.now
turns c k = lent_part _ _ _ k _ _ c.turns_in-turns.ensures.0

pub slice_bounds-turn_tests-end : goal.slice_bounds-turn_tests-end
slice_bounds-turn_tests-end c = front_in _ _ _ (sized (goal.at.slice_bounds-turn_tests-end c).After-counts-head) _ c.ends_in-ends.ensures.1

pub slice_bounds-turn_tests-end-2 : goal.slice_bounds-turn_tests-end-2
slice_bounds-turn_tests-end-2 c = front_in _ _ _ (sized (goal.at.slice_bounds-turn_tests-end-2 c).After-counts-head) _ c.turns_in-turns.ensures.1

pub turn_tests-requires : goal.turn_tests-requires
turn_tests-requires c =
    let was = goal.at.turn_tests-requires c in
    let k = sized was.After-counts-head in
    let w = tests_ready _ _ _ k _ _ (ends was.After-turns_in-turns k) (turns was.After-turns_in-turns k) in
    record { ports = w.0; darts = w.1; small = (w.2, w.3) }

pub returns : goal.returns
returns c =
    let was = goal.at.returns c in
    let k = sized was.After-counts-head in
    c.turn_tests.ensures ∙ tests_as _ _ _ k _ _ (ends was.After-turns_in-turns k) (turns was.After-turns_in-turns k)
