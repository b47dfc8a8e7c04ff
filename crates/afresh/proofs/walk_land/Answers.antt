-- `afresh::walk_land` meets its contract. The loop's invariant: d and the darts of the land after it, put at k and marked, give what the whole land gives, put at n and marked.
-- Assumes nothing.
use mathlib.Core.Path.{refl, sym, ◌∙◌}
use Prim.Native.Nat.{◌<◌}
use native.Mathlib.Omega.{arith}
use lib.ListN.{length, length-set}
use Rattle.laws.proofs.Permuting.{land_of_lem}
use Rattle.afresh.proofs.Walking.{start, dart_in, place_in, step_as, stop_as}
use Rattle.afresh.proofs.walk_land.Goals as goal
use Rattle.afresh.proofs.walk_land.Goals.{At-loop-d}

-- the dart at hand is a dart, and has a place
dart : (c : At-loop-d) → c.loop-d.d < length c.args.turns.now
dart c = dart_in _ _ _ _ _ _ _ _ _ _ c.loop-d.invariant.1

place : (c : At-loop-d) → c.loop-d.k < length c.loop-d.darts
place c = place_in _ _ _ _ _ _ _ _ _ _ c.loop-d.invariant.1 c.requires.room

pub loop-d-init : goal.loop-d-init
loop-d-init c = let r = land_of_lem _ c.requires.permuting c.args.a c.requires.dart in (r.0, start _ _ _ _ _ _ r.1)

pub overflow_cast-darts : goal.overflow_cast-darts
overflow_cast-darts c = omega (arith, dart c, c.requires.permuting.small)

pub offset_bounds-darts-k : goal.offset_bounds-darts-k
offset_bounds-darts-k c = omega (arith, place (goal.at.offset_bounds-darts-k c).At-loop-d, c.loop-d.invariant.1.darts_long)

pub bounds-darts-k : goal.bounds-darts-k
bounds-darts-k c = place (goal.at.bounds-darts-k c).At-loop-d

pub bounds-seen-d : goal.bounds-seen-d
bounds-seen-d c = omega (arith, dart (goal.at.bounds-seen-d c).At-loop-d, c.loop-d.invariant.1.seen_long, c.requires.marks)

pub overflow_add-k : goal.overflow_add-k
overflow_add-k c = omega (arith, place (goal.at.overflow_add-k c).At-loop-d, c.loop-d.invariant.1.darts_long)

pub after-d-requires : goal.after-d-requires
after-d-requires c = let w = c.requires.permuting in record { even = w.even; few = w.small; inside = (omega (arith, dart (goal.at.after-d-requires c).At-loop-d, c.requires.dart), tt) }

pub shape_of-darts-then-d-a : goal.shape_of-darts-then-d-a
shape_of-darts-then-d-a c = simp length-set c.loop-d.invariant.1.darts_long

pub shape_of-seen-then-d-a : goal.shape_of-seen-then-d-a
shape_of-seen-then-d-a c = simp length-set c.loop-d.invariant.1.seen_long

pub returns-then-d-a : goal.returns-then-d-a
returns-then-d-a c =
    let w = stop_as _ _ _ _ _ _ _ _ _ _ c.loop-d.invariant.1 _ refl (sym c.after-d.ensures ∙ c.if-d-a.true) c.requires.room in
    record { end = w.0; darts = w.1; seen = w.2 }

pub loop-d-smaller : goal.loop-d-smaller
loop-d-smaller c = omega (arith, place (goal.at.loop-d-smaller c).At-loop-d, c.loop-d.invariant.1.darts_long)

pub loop-d-preserved : goal.loop-d-preserved
loop-d-preserved c = step_as _ _ _ _ _ _ _ _ _ _ c.loop-d.invariant.1 _ _ refl c.after-d.ensures c.if-d-a.false
