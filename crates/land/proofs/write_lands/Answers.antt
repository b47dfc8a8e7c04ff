-- `land::write_lands` meets its contract. The loop's invariant: the darts of the first i lands stand in the buffer, and those left of all the lands' darts are those of the lands left (`Joining`).
-- Assumes nothing.
use mathlib.Core.Path.{refl}
use native.Mathlib.Omega.{arith}
use Rattle.land.proofs.Laws.{land_darts}
use Rattle.land.proofs.Writing.{join_start, join_size, join_fits, join_step, join_end}
use Rattle.land.proofs.write_lands.Goals as goal

pub loop-i-init : goal.loop-i-init
loop-i-init c = join_start _ _ _ _ _

pub write_land-at-requires : goal.write_land-at-requires
write_land-at-requires c =
    let s = c.loop-i-test.true in
    let len = refl in
    let first = refl in
    record { darts = land_darts _ _ _ _ c.args.kept.walkable _ _ _ s len first; n_in_bounds = omega (arith, c.requires.count_in_bounds, join_size _ _ _ _ _ _ _ _ c.args.kept.walkable c.requires.count_in_bounds c.loop-i.invariant, join_fits _ _ _ _ _ _ _ _ c.args.kept.walkable c.requires.count_in_bounds c.loop-i.invariant _ _ s len first) }

pub loop-i-preserved : goal.loop-i-preserved
loop-i-preserved c =
    join_step _ _ _ _ _ _ _ _ c.args.kept.walkable c.requires.count_in_bounds c.loop-i.invariant _ _ c.loop-i-test.true
    refl refl
    _ _ c.write_land-at.ensures.0 c.write_land-at.ensures.1

pub shape_of-out : goal.shape_of-out
shape_of-out c = join_size _ _ _ _ _ _ _ _ c.args.kept.walkable c.requires.count_in_bounds c.loop-i.invariant

pub returns : goal.returns
returns c = join_end _ _ _ _ _ _ _ _ c.args.kept.walkable c.requires.count_in_bounds c.loop-i.invariant c.loop-i-test.false
