-- `afresh::gather_lands` meets its contract. The loop's invariant: the lands of the darts below d stand in the buffers and are marked, and to gather on from d gives all lands.
-- Assumes nothing.
use mathlib.Core.Path.{refl}
use Prim.Native.Nat.{◌+◌, ◌*◌, ◌≤◌}
use native.Mathlib.Omega.{arith}
use lib.ListN.{length}
use Rattle.rules.specs.Lists.{at}
use Rattle.laws.proofs.Permuting.{land_of}
use Rattle.afresh.proofs.Listing.{start, old, new, new_room, new_few, end}
use Rattle.afresh.proofs.gather_lands.Goals as goal
use Rattle.afresh.proofs.gather_lands.Goals.{Else-seen-d}

-- a dart that begins a land has place for it, and for its length
room : (c : Else-seen-d) → c.loop-d.n + length (land_of c.args.turns.now c.loop-d.d) ≤ length c.args.turns.now
unfolding at
room c = new_room _ _ _ _ c.requires.permuting _ _ _ _ _ _ _ c.loop-d.invariant.1 c.loop-d-test.true c.if-seen-d.false

few : (c : Else-seen-d) → 2 * (c.loop-d.lands + 1) ≤ length c.args.turns.now
unfolding at
few c = new_few _ _ _ _ c.requires.permuting _ _ _ _ _ _ _ c.loop-d.invariant.1 c.loop-d-test.true c.if-seen-d.false

pub loop-d-init : goal.loop-d-init
loop-d-init c = (_, start _ _ _ _ _ refl c.requires.unmarked)

pub bounds-seen-d : goal.bounds-seen-d
bounds-seen-d c = omega (arith, c.loop-d.invariant.1.seen_long, c.requires.marks)

pub loop-d-preserved-then-seen-d : goal.loop-d-preserved-then-seen-d
unfolding at
loop-d-preserved-then-seen-d c = (_, old _ _ _ _ c.requires.permuting _ _ _ _ _ _ _ c.loop-d.invariant.1 c.loop-d-test.true c.if-seen-d.true)

pub walk_land-end-requires : goal.walk_land-end-requires
walk_land-end-requires c = record { permuting = c.requires.permuting; dart = c.loop-d-test.true; room = omega (arith, room (goal.at.walk_land-end-requires c).Else-seen-d, c.requires.room.0, c.loop-d.invariant.1.darts_long); marks = omega (arith, c.loop-d.invariant.1.seen_long, c.requires.marks) }

pub overflow_sub-lengths : goal.overflow_sub-lengths
overflow_sub-lengths c = omega (arith, c.walk_land-end.ensures.end)

pub overflow_cast-lengths : goal.overflow_cast-lengths
overflow_cast-lengths c = omega (arith, c.walk_land-end.ensures.end, room (goal.at.overflow_cast-lengths c).Else-seen-d, c.requires.permuting.small)

pub offset_bounds-lengths-lands : goal.offset_bounds-lengths-lands
offset_bounds-lengths-lands c = omega (arith, few (goal.at.offset_bounds-lengths-lands c).Else-seen-d, c.requires.room.1)

pub bounds-lengths-lands : goal.bounds-lengths-lands
bounds-lengths-lands c = omega (arith, few (goal.at.bounds-lengths-lands c).Else-seen-d, c.requires.room.1, c.loop-d.invariant.1.lengths_long)

pub overflow_add-lands : goal.overflow_add-lands
overflow_add-lands c = omega (arith, few (goal.at.overflow_add-lands c).Else-seen-d, c.requires.room.1)

pub loop-d-preserved : goal.loop-d-preserved
unfolding at
loop-d-preserved c = (_, new _ _ _ _ c.requires.permuting _ _ _ _ _ _ _ c.loop-d.invariant.1 c.loop-d-test.true c.if-seen-d.false c.requires.room.0 c.requires.room.1 c.requires.marks _ _ _ _ c.walk_land-end.ensures.end c.walk_land-end.ensures.darts c.walk_land-end.ensures.seen refl)

pub shape_of-darts : goal.shape_of-darts
shape_of-darts c = c.loop-d.invariant.1.darts_long

pub shape_of-lengths : goal.shape_of-lengths
shape_of-lengths c = c.loop-d.invariant.1.lengths_long

pub shape_of-seen : goal.shape_of-seen
shape_of-seen c = c.loop-d.invariant.1.seen_long

pub returns : goal.returns
returns c =
    let w = end _ _ _ _ _ _ _ _ _ _ _ c.loop-d.invariant.1 (omega arith) in
    record { number = w.0; darts = w.1; lengths = w.2 }
