-- `land::admissible` meets its contract. Three loops, and at each the invariant says that what is left decides what the whole decides.
-- Assumes nothing.
use mathlib.Core.Path.{refl}
use native.Mathlib.Omega.{arith}
use Rattle.rules.specs.Terms.{leaves}
use Rattle.land.specs.Walks.{Walkable}
use Rattle.land.proofs.Walking.{left_start, left_dart, left_step}
use Rattle.land.proofs.Laws.{land_darts}
use Rattle.land.proofs.Fitting.{visit_start, visit_no, visit_yes, visit_end, all_yes, all_no, all_end, pass_start, pass_step, pass_found, pass_none}
use Rattle.land.proofs.admissible.Goals as goal
use Rattle.land.proofs.admissible.Goals.{At-contacts}

-- the lands can be walked
able : (c : At-contacts) → Walkable c.args.kept.turns.now c.args.kept.firsts.now c.args.kept.lens.now c.args.kept.count
able c = c.args.kept.walkable

pub lands-init : goal.lands-init
lands-init c = pass_start _ _ _ _ _ _ _ c.args.kept.walkable c.requires.from_le_count

pub loop-init : goal.loop-init
loop-init c = (left_start _ _ _ (land_darts _ _ _ _ (able (goal.at.loop-init c).At-contacts) _ _ _ (omega arith) refl refl), visit_start _ _ _ _ _)

pub offset_bounds-ends-d : goal.offset_bounds-ends-d
offset_bounds-ends-d c = omega (arith, (left_dart _ _ _ _ c.loop-test.true c.loop.invariant.0).inside.0)

pub bounds-ends-d : goal.bounds-ends-d
bounds-ends-d c = omega (arith, (left_dart _ _ _ _ c.loop-test.true c.loop.invariant.0).inside.0)

pub contacts-preserved : goal.contacts-preserved
unfolding leaves
contacts-preserved c = all_yes _ _ _ (omega arith) (visit_yes _ _ _ _ _ _ _ c.loop-test.true c.if-ends-d.true c.loop.invariant.1) c.contacts.invariant

pub after-d-requires : goal.after-d-requires
after-d-requires c = left_dart _ _ _ _ c.loop-test.true c.loop.invariant.0

pub loop-preserved : goal.loop-preserved
unfolding leaves
loop-preserved c =
    let more = c.loop-test.true in
    (left_step _ _ _ _ _ more c.after-d.ensures c.loop.invariant.0, visit_no _ _ _ _ _ _ _ _ more c.after-d.ensures c.if-ends-d.false c.loop.invariant.1)

pub lands-preserved : goal.lands-preserved
lands-preserved c =
    pass_step _ _ _ _ _ _ _ (able (goal.at.lands-preserved c).At-contacts) _ _ _ (omega arith) refl refl
    (all_no _ _ _ (omega arith) (visit_end _ _ _ _ _ _ _ c.loop-test.false c.loop.invariant.1) c.contacts.invariant)
    c.lands.invariant

pub returns : goal.returns
returns c = pass_none _ _ _ _ _ _ _ c.args.kept.walkable _ c.lands-test.false c.lands.invariant

pub returns-in-lands : goal.returns-in-lands
returns-in-lands c =
    pass_found _ _ _ _ _ _ _ (able (goal.at.returns-in-lands c).At-contacts) _ _ _ (omega arith) refl refl
    (all_end _ _ _ (omega arith) c.contacts.invariant) c.lands.invariant
