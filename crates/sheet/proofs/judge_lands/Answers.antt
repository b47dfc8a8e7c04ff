-- `sheet::judge_lands` meets its contract: the turns stand at the start of an array and permute the darts, so their lands can be listed.
-- Assumes nothing.
use mathlib.Core.Path.{◌≡◌}
use Prim.Native.Nat.{◌*◌}
use native.Mathlib.Omega.{arith}
use lib.ListN.{take}
use Rattle.rules.specs.Files.{sheet_file, turns_in}
use Rattle.sheet.proofs.Parts.{Known, known, lent_part, front_in}
use Rattle.sheet.proofs.Judging.{lands_ready, lands_few, lands_judged}
use Rattle.sheet.proofs.judge_lands.Goals as goal
use Rattle.sheet.proofs.judge_lands.Goals.{After-counts-head, After-turns_in-turns}

sized : (c : After-counts-head) → Known c.args.file.now c.counts-head.result.ports c.counts-head.result.channels
sized c = known _ _ _ c.requires.tested c.counts-head.ensures.0 c.counts-head.ensures.1

-- the part that is lent
turns : (c : After-turns_in-turns) → (Known c.args.file.now c.counts-head.result.ports c.counts-head.result.channels) → take (2 * c.counts-head.result.channels) c.turns_in-turns.result ≡ turns_in sheet_file c.args.file.now
turns c sized = lent_part _ _ _ sized _ _ c.turns_in-turns.ensures.0

pub slice_bounds-list_lands-end : goal.slice_bounds-list_lands-end
slice_bounds-list_lands-end c = front_in _ _ _ (sized (goal.at.slice_bounds-list_lands-end c).After-counts-head) _ c.turns_in-turns.ensures.1

pub list_lands-lands-requires : goal.list_lands-lands-requires
list_lands-lands-requires c =
    let was = goal.at.list_lands-lands-requires c in
    let w = lands_ready _ _ _ (sized was.After-counts-head) _ (turns was.After-turns_in-turns (sized was.After-counts-head)) c.requires.tested c.requires.turned _ _ c.requires.room.0 c.requires.room.1 in
    record { permuting = w.0; few = w.1; room = (w.2, w.3) }

pub overflow_add-flat : goal.overflow_add-flat
overflow_add-flat c =
    let was = goal.at.overflow_add-flat c in
    omega (arith, lands_few _ _ _ (sized was.After-counts-head) _ (turns was.After-turns_in-turns (sized was.After-counts-head)) c.requires.tested c.requires.turned _ c.list_lands-lands.ensures.number, (sized was.After-counts-head).few, (sized was.After-counts-head).few_ports)

pub returns : goal.returns
returns c =
    let was = goal.at.returns c in
    let w = lands_judged _ _ _ (sized was.After-counts-head) _ (turns was.After-turns_in-turns (sized was.After-counts-head)) _ _ _ _ _ c.list_lands-lands.ensures.number c.list_lands-lands.ensures.darts c.list_lands-lands.ensures.lengths in
    record { lands = w.0; flat = w.1; darts = w.2; lengths = w.3 }
