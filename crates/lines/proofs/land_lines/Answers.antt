-- `lines::land_lines` meets its contract. The loop's invariant: the lines of the lands before `land` are written, and those from it on are left.
-- Assumes nothing.
use mathlib.Core.Path.{refl}
use Rattle.land.proofs.Laws.{land_darts}
use Rattle.print.proofs.Putting.{room, step, finish}
use Rattle.lines.proofs.Rows.{land_next, land_over}
use Rattle.lines.proofs.land_lines.Goals as goal

pub land_line-requires : goal.land_line-requires
land_line-requires c = record { darts = land_darts _ _ _ _ c.args.kept.walkable _ _ _ c.loop-land-test.true refl refl; room = room c.requires c.loop-land.invariant (land_next _ _ _ _ _ _ _ c.args.kept.walkable c.loop-land-test.true refl refl) }

pub loop-land-preserved : goal.loop-land-preserved
loop-land-preserved c = step c.requires c.loop-land.invariant (land_next _ _ _ _ _ _ _ c.args.kept.walkable c.loop-land-test.true refl refl) c.land_line.ensures

pub returns : goal.returns
returns c = finish c.requires c.loop-land.invariant (land_over _ _ _ _ _ c.args.kept.walkable c.loop-land-test.false)
