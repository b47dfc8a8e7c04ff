-- `lines::path_lines` meets its contract. The loop's invariant: as many paths as are counted are passed and their lines written, and the story tells the others from index k on (`Telling`).
-- Assumes nothing.
use mathlib.Core.Path.{refl}
use native.Mathlib.Omega.{arith}
use Rattle.print.proofs.Putting.{begin_as, room, step, finish}
use Rattle.lines.proofs.Rows.{telling_start, telling_part, telling_below, telling_long, telling_step, path_next, path_over_lem, path_first}
use Rattle.lines.proofs.path_lines.Goals as goal

pub loop-init : goal.loop-init
loop-init c = (telling_start _ _ _ _ c.requires.from_in_bounds c.requires.entries, begin_as _ _ _ (path_first _ _ _))

pub path_line-requires-clause-darts : goal.path_line-requires-clause-darts
path_line-requires-clause-darts c = record { even = c.requires.darts.even; few = c.requires.darts.few; inside = telling_below _ _ _ _ _ c.loop-test.true c.loop.invariant.0 _ refl }

pub path_line-requires-clause-darts_nonzero : goal.path_line-requires-clause-darts_nonzero
path_line-requires-clause-darts_nonzero c = telling_long _ _ _ _ _ c.loop-test.true c.loop.invariant.0 _ refl

pub path_line-requires-clause-room : goal.path_line-requires-clause-room
path_line-requires-clause-room c =
    room c.requires.room c.loop.invariant.1 (path_next _ _ _ _ _ c.loop-test.true c.loop.invariant.0 _ refl _ _ _ _ refl refl (telling_part _ _ _ _ _ c.loop-test.true c.loop.invariant.0 _ refl))

pub loop-preserved : goal.loop-preserved
loop-preserved c = (
  telling_step _ _ _ _ _ c.loop-test.true c.loop.invariant.0 _ refl,
  step c.requires.room c.loop.invariant.1 (path_next _ _ _ _ _ c.loop-test.true c.loop.invariant.0 _ refl _ _ _ _ refl refl (telling_part _ _ _ _ _ c.loop-test.true c.loop.invariant.0 _ refl))
      c.path_line.ensures,
)

pub returns : goal.returns
returns c = finish c.requires.room c.loop.invariant.1 (path_over_lem _ _ _ _ (omega arith))
