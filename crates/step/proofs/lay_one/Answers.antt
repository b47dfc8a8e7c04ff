-- `step::lay_one` meets its contract: the path found is the one of the choice cross, so that it can be laid in the land of the choice, and the turns, the lands and the story are then those of the state after it (Entering).
-- What is known of the lands is forgotten for the channels of the choice, and stays for the others (Forgetting).
-- Assumes nothing.
use mathlib.Core.Path.{◌≡◌, ◌∙◌}
use Prim.Native.Nat.{ℕ, ◌+◌, ◌-◌, ◌<◌, ◌≤◌}
use native.Mathlib.Omega.{arith}
use lib.ListN.{length}
use borrow.Rule.Slice.PartMut.{put_mid, same_len_mid}
use Rattle.rules.specs.Laying.{State, Choice, lay}
use Rattle.step.specs.Rooms.{Standing, Chosen}
use Rattle.step.proofs.Writing.{part_long}
use Rattle.step.proofs.Telling.{place_room, chosen_passable, end_room, size_small}
use Rattle.step.proofs.Entering.{ask_divide, laid_path}
use Rattle.step.proofs.Forgetting.{bars_stay}
use Rattle.step.proofs.lay_one.Goals as goal
use Rattle.step.proofs.lay_one.Goals.{After-cross-way, After-enter, Start}

-- there is room in the story for the numbers of an entry and a path
room : (c : Start) → c.args.at + 3 + length c.args.net.first.now ≤ length c.args.story.now
room c = place_room _ _ _ c.requires.plan.layable _ _ _ _ _ _ _ c.requires.chosen.1.1.stands

-- the story is as long as it was
kept : (c : After-cross-way) → length (put_mid (c.args.at + 3) (length c.args.story.now - (c.args.at + 3)) c.args.story.now c.cross-way.new.out) ≡ length c.args.story.now
kept c = same_len_mid {X = ℕ} (c.args.at + 3) (length c.args.story.now - (c.args.at + 3)) c.args.story.now c.cross-way.new.out c.cross-way.auto.out

-- and has room for the path
ending : (c : After-cross-way) → c.args.at + 3 + c.cross-way.result.size ≤ length c.args.story.now
ending c = omega (arith, c.cross-way.ensures.crossed.size, end_room _ _ _ c.requires.plan.layable _ _ _ _ _ _ _ _ _ _ _ c.requires.chosen.1.1)

-- the numbers fit 16 bits
small : (c : After-cross-way) → (c.cross-way.result.x < 65536) × (c.cross-way.result.y < 65536) × (c.cross-way.result.size < 65536) × (c.args.choice.name < 65536) × (c.args.choice.land < 65536)
small c =
    let p = chosen_passable _ _ _ c.requires.plan.layable _ _ _ _ _ _ _ _ _ _ _ c.requires.chosen.1.1 in
    let z = size_small _ _ _ c.requires.plan.layable _ _ _ _ _ _ _ _ _ _ _ c.requires.chosen.1.1 in
    (omega (arith, c.cross-way.ensures.crossed.x, p.x, c.requires.plan.small), omega (arith, c.cross-way.ensures.crossed.y, p.y, c.requires.plan.small), omega (arith, c.cross-way.ensures.crossed.size, z), z.1, z.2)

pub overflow_add-from : goal.overflow_add-from
overflow_add-from c = omega (arith, room (goal.at.overflow_add-from c).Start, c.well_formed.1.1.1.1.1.1.0)

pub offset_bounds-story-from : goal.offset_bounds-story-from
offset_bounds-story-from c = omega (arith, room (goal.at.offset_bounds-story-from c).Start, c.well_formed.1.1.1.1.1.1.0)

pub slice_bounds-cross-count : goal.slice_bounds-cross-count
slice_bounds-cross-count c = omega (arith, room (goal.at.slice_bounds-cross-count c).Start)

pub slice_bounds-cross-start : goal.slice_bounds-cross-start
slice_bounds-cross-start c = omega (arith, room (goal.at.slice_bounds-cross-start c).Start)

pub cross-way-requires-clause-room : goal.cross-way-requires-clause-room
cross-way-requires-clause-room c = part_long c.args.story.now (c.args.at + 3) _ (room (goal.at.cross-way-requires-clause-room c).Start)

pub cross-way-requires-clause-passable : goal.cross-way-requires-clause-passable
cross-way-requires-clause-passable c = chosen_passable _ _ _ c.requires.plan.layable _ _ _ _ _ _ _ _ _ _ _ c.requires.chosen.1.1

pub overflow_add-end : goal.overflow_add-end
overflow_add-end c = omega (arith, ending (goal.at.overflow_add-end c).After-cross-way, c.well_formed.1.1.1.1.1.1.0)

pub overflow_cast-x : goal.overflow_cast-x
overflow_cast-x c = omega (arith, (small (goal.at.overflow_cast-x c).After-cross-way).0)

pub overflow_cast-y : goal.overflow_cast-y
overflow_cast-y c = omega (arith, (small (goal.at.overflow_cast-y c).After-cross-way).1)

pub offset_bounds-story-from-2 : goal.offset_bounds-story-from-2
offset_bounds-story-from-2 c = omega (arith, ending (goal.at.offset_bounds-story-from-2 c).After-cross-way, c.well_formed.1.1.1.1.1.1.0)

pub slice_bounds-divide-end : goal.slice_bounds-divide-end
slice_bounds-divide-end c = omega (arith, ending (goal.at.slice_bounds-divide-end c).After-cross-way, kept (goal.at.slice_bounds-divide-end c).After-cross-way)

pub divide-requires : goal.divide-requires
divide-requires c = ask_divide _ _ _ c.requires.plan.layable _ _ _ _ _ _ _ _ _ _ _ c.requires.chosen.1.1 _ _ _ _ c.cross-way.ensures.crossed.x c.cross-way.ensures.crossed.y c.cross-way.ensures.crossed.size c.cross-way.ensures.crossed.held

pub enter-requires : goal.enter-requires
enter-requires c =
    let was = goal.at.enter-requires c in
    let z = small was.After-cross-way in
    record { room = omega (arith, ending was.After-cross-way, kept was.After-cross-way); small = (z.3, z.4, z.2) }

-- the state after the path
laid : (c : After-enter) → length c.enter.new.story ≡ length c.args.story.now → (s : State) (e : Choice) → Chosen (length c.args.net.first.now) c.args.net.ends.now c.args.net.play.now s e c.args.laying.now.turns.now c.args.laying.now.firsts.now c.args.laying.now.lens.now c.args.story.now c.args.laying.now.count c.args.at c.args.laid.now c.args.choice.name c.args.choice.land
    → Standing (length c.args.net.first.now) c.args.net.ends.now c.args.net.play.now (lay (length c.args.net.first.now) c.args.net.ends.now c.args.net.play.now s e) c.divide.new.laying.turns.now c.divide.new.laying.firsts.now c.divide.new.laying.lens.now c.enter.new.story (c.args.laying.now.count + 1) (c.args.at + 3 + c.cross-way.result.size)
laid c k s e C = laid_path _ _ _ c.requires.plan.layable s e _ _ _ _ _ _ _ _ _ C _ _ _ _ c.cross-way.ensures.crossed.x c.cross-way.ensures.crossed.y c.cross-way.ensures.crossed.size c.cross-way.ensures.crossed.held _ _ _ _ c.divide.ensures.divided c.enter.ensures k

pub returns-clause-standing : goal.returns-clause-standing
returns-clause-standing c = λ s e C. rw c.divide.ensures.count (laid (goal.at.returns-clause-standing c).After-enter (c.enter.auto.story ∙ kept (goal.at.returns-clause-standing c).After-cross-way) s e C)

pub returns-clause-bars : goal.returns-clause-bars
returns-clause-bars c = rw c.divide.ensures.count (bars_stay _ _ _ c.requires.plan.layable _ _ _ _ _ _ _ _ _ _ _ c.requires.chosen.1.1 _ _ _ _ _ (laid (goal.at.returns-clause-bars c).After-enter (c.enter.auto.story ∙ kept (goal.at.returns-clause-bars c).After-cross-way) _ _ c.requires.chosen.1.1) _ c.cross-way.ensures.crossed.own _ c.requires.bars _ c.forget.ensures)
