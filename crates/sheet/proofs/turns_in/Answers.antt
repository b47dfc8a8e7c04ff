-- `sheet::turns_in` meets its contract: the file has all its turns behind the pairs, and they are copied to the start of the array.
-- Assumes nothing.
use native.Mathlib.Omega.{arith}
use Rattle.sheet.proofs.Parts.{Known, known, front_in, turns_front}
use Rattle.sheet.proofs.turns_in.Goals as goal
use Rattle.sheet.proofs.turns_in.Goals.{After-counts-head}

sized : (c : After-counts-head) → Known c.args.file.now c.counts-head.result.ports c.counts-head.result.channels
sized c = known _ _ _ c.requires c.counts-head.ensures.0 c.counts-head.ensures.1

pub slice_bounds-copy_turns-end : goal.slice_bounds-copy_turns-end
slice_bounds-copy_turns-end c = front_in _ _ _ (sized (goal.at.slice_bounds-copy_turns-end c).After-counts-head) _ c.no_turns-turns.ensures.1

pub copy_turns-requires : goal.copy_turns-requires
copy_turns-requires c =
    let k = sized (goal.at.copy_turns-requires c).After-counts-head in
    omega (arith, front_in _ _ _ k _ c.no_turns-turns.ensures.1, k.long)

pub returns : goal.returns
returns c = turns_front _ _ _ (sized (goal.at.returns c).After-counts-head) _ _ c.no_turns-turns.ensures.1 c.copy_turns.ensures
