-- `draft::lay_sheet` meets its contract: a plate that is STUCK and one that is FLAT are the two cases of laying without a cap (Calling).
-- Assumes nothing.
use Rattle.std.specs.Prelude.{Ok}
use mathlib.Core.Path.{◌≡◌, refl, sym, ap, ◌∙◌}
use mathlib.Core.List.{◌++◌}
use Prim.Native.Nat.{◌+◌, ◌-◌, ◌*◌, ◌≤◌}
use native.Mathlib.Omega.{arith}
use lib.ListN.{length, take, drop, length-append}
use lib.Seq.{take_at}
use Rattle.rules.specs.Refusals.{pairs_of}
use Rattle.laws.proofs.Lists.{part_length}
use Rattle.plate.specs.State.{most_darts}
use Rattle.plate.proofs.Laws.{Known, known, part_told, pairs_length}
use Rattle.laid.proofs.Leaving.{ports_fewer, fits}
use Rattle.draft.proofs.Calling.{unstuck_of, stuck_small, stuck_all, flat_all}
use Rattle.draft.proofs.lay_sheet.Goals as goal
use Rattle.draft.proofs.lay_sheet.Goals.{After-lay_pairs-laid, After-pairs-pairs, Start}

-- the plate that was read
plate : (c : Start) → Known c.args.file.now c.args.p
plate c = known _ (Ok c.args.p) c.requires.plate _ refl

-- an array for the largest plate has place for what is lent of it
sized : (c : Start) → (2 * c.args.p.channels ≤ most_darts) × (c.args.p.channels + 2 - c.args.p.ports ≤ most_darts)
sized c = (omega (arith, (plate c).most_channels_lem), omega (arith, (plate c).most_channels_lem))

pairs : (c : After-pairs-pairs) → c.pairs-pairs.result.now ≡ pairs_of c.args.file.now
pairs c = part_told _ (Ok c.args.p) c.requires.plate _ c.pairs-pairs.ensures

-- the parts that were lent
most_lent : (c : After-pairs-pairs) → c.args.p.channels + 2 - c.args.p.ports ≤ most_darts → length (take (c.args.p.channels + 2 - c.args.p.ports) c.no_turns-lengths.result) ≡ c.args.p.channels + 2 - c.args.p.ports
most_lent c h = sym (part_length _ _ _ c.no_turns-lengths.ensures.1 h)

turns_lent : (c : After-lay_pairs-laid) → 2 * c.args.p.channels ≤ most_darts → length c.lay_pairs-laid.new.turns ≡ 2 * c.args.p.channels
turns_lent c h = c.lay_pairs-laid.auto.turns ∙ sym (part_length _ _ _ c.no_turns-turns.ensures.1 h)

-- the array of the turns begins with them
turns_front : (c : After-lay_pairs-laid) → 2 * c.args.p.channels ≤ most_darts → take (2 * c.args.p.channels) (c.lay_pairs-laid.new.turns ++ drop (2 * c.args.p.channels) c.no_turns-turns.result) ≡ c.lay_pairs-laid.new.turns
turns_front c h = take_at _ _ _ (turns_lent c h)

pub overflow_mul-darts : goal.overflow_mul-darts
overflow_mul-darts c = omega (arith, (plate (goal.at.overflow_mul-darts c).Start).most_channels_lem)

pub overflow_add-most : goal.overflow_add-most
overflow_add-most c = omega (arith, (plate (goal.at.overflow_add-most c).Start).most_channels_lem)

pub overflow_sub-most : goal.overflow_sub-most
overflow_sub-most c = omega (arith, ports_fewer _ _ (plate (goal.at.overflow_sub-most c).Start))

pub slice_bounds-turns-end : goal.slice_bounds-turns-end
slice_bounds-turns-end c = omega (arith, c.no_turns-turns.ensures.1, (sized (goal.at.slice_bounds-turns-end c).Start).0)

pub slice_bounds-lay_pairs-end : goal.slice_bounds-lay_pairs-end
slice_bounds-lay_pairs-end c = part_length _ _ _ c.no_turns-turns.ensures.1 (sized (goal.at.slice_bounds-lay_pairs-end c).Start).0

pub slice_bounds-lands-end : goal.slice_bounds-lands-end
slice_bounds-lands-end c = omega (arith, c.no_turns-lands.ensures.1, (sized (goal.at.slice_bounds-lands-end c).Start).0)

pub slice_bounds-lay_pairs-end-2 : goal.slice_bounds-lay_pairs-end-2
slice_bounds-lay_pairs-end-2 c = part_length _ _ _ c.no_turns-lands.ensures.1 (sized (goal.at.slice_bounds-lay_pairs-end-2 c).Start).0

pub slice_bounds-lengths-end : goal.slice_bounds-lengths-end
slice_bounds-lengths-end c = omega (arith, c.no_turns-lengths.ensures.1, (sized (goal.at.slice_bounds-lengths-end c).Start).1)

pub slice_bounds-lay_pairs-end-3 : goal.slice_bounds-lay_pairs-end-3
slice_bounds-lay_pairs-end-3 c = part_length _ _ _ c.no_turns-lengths.ensures.1 (sized (goal.at.slice_bounds-lay_pairs-end-3 c).Start).1

pub lay_pairs-laid-requires : goal.lay_pairs-laid-requires
lay_pairs-laid-requires c =
    let was = goal.at.lay_pairs-laid-requires c in
    fits _ _ (plate was.Start) _ _ (pairs was.After-pairs-pairs) _ _ _ (sym (part_length _ _ _ c.no_turns-turns.ensures.1 (sized was.Start).0)) (sym (part_length _ _ _ c.no_turns-lands.ensures.1 (sized was.Start).0)) (most_lent was.After-pairs-pairs (sized was.Start).1)

pub overflow_cast-result : goal.overflow_cast-result
overflow_cast-result c =
    let was = goal.at.overflow_cast-result c in
    omega (arith, stuck_small _ _ (plate was.Start) _ (pairs was.After-pairs-pairs) _ _ _ _ _ c.lay_pairs-laid.ensures (most_lent was.After-pairs-pairs (sized was.Start).1) _ c.in-Stuck.is)

pub returns-in-Stuck : goal.returns-in-Stuck
returns-in-Stuck c =
    let was = goal.at.returns-in-Stuck c in
    let w = stuck_all _ _ (plate was.Start) _ (pairs was.After-pairs-pairs) _ _ _ _ _ c.lay_pairs-laid.ensures (most_lent was.After-pairs-pairs (sized was.Start).1) c.args.out.now c.requires.room _ c.in-Stuck.is in
    record { answer = w.0; sheet = w.1 }

pub slice_bounds-turns-end-2 : goal.slice_bounds-turns-end-2
slice_bounds-turns-end-2 c = simp length-append (omega (arith, turns_lent (goal.at.slice_bounds-turns-end-2 c).After-lay_pairs-laid (sized (goal.at.slice_bounds-turns-end-2 c).Start).0))

pub slice_bounds-put_sheet-end : goal.slice_bounds-put_sheet-end
slice_bounds-put_sheet-end c =
    let was = goal.at.slice_bounds-put_sheet-end c in
    sym (ap length (turns_front was.After-lay_pairs-laid (sized was.Start).0) ∙ turns_lent was.After-lay_pairs-laid (sized was.Start).0)

pub put_sheet-requires : goal.put_sheet-requires
put_sheet-requires c =
    let was = goal.at.put_sheet-requires c in
    record { small = (omega (arith, (plate was.Start).most_ports_lem), omega (arith, (plate was.Start).most_channels_lem)); pairs = ap length (pairs was.After-pairs-pairs) ∙ pairs_length _ _ (plate was.Start); turns = ap length (turns_front was.After-lay_pairs-laid (sized was.Start).0) ∙ turns_lent was.After-lay_pairs-laid (sized was.Start).0; room = c.requires.room }

pub returns : goal.returns
returns c =
    let was = goal.at.returns c in
    let w = flat_all _ _ (plate was.Start) _ (pairs was.After-pairs-pairs) _ _ _ _ _ c.lay_pairs-laid.ensures (most_lent was.After-pairs-pairs (sized was.Start).1) c.args.out.now c.requires.room (unstuck_of c.lay_pairs-laid.result.word c.in_default.not-Stuck) _ _ (turns_front was.After-lay_pairs-laid (sized was.Start).0) c.put_sheet.ensures in
    record { answer = w.0; sheet = w.1 }
