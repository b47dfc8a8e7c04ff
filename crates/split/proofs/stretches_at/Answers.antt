-- `split::stretches_at` meets its contract: the land from its first dart at x on is A and then B, so the search for y along it comes to B's first dart behind A's last, and what is left of the land behind A is B.
-- Assumes nothing.
use native.Mathlib.Omega.{arith}
use Rattle.land.specs.Walks.{land_from}
use Rattle.split.proofs.Stretching.{Corners, seek_darts, seek_visits, found_size, found_darts, found_all}
use Rattle.split.proofs.stretches_at.Goals as goal
use Rattle.split.proofs.stretches_at.Goals.{Start}

-- the land and its two ports
corners : (c : Start) → Corners c.args.ends.now c.args.turns.now (land_from c.args.turns.now c.args.n c.args.d) c.args.x c.args.y
corners c = record { land = c.requires.land; apart = c.requires.x_nonzero; visits_x = c.requires.t.0; visits_y = c.requires.t.1 }

pub seek_port-at_y-requires-clause-darts : goal.seek_port-at_y-requires-clause-darts
seek_port-at_y-requires-clause-darts c = seek_darts _ _ _ _ _ _ (corners (goal.at.seek_port-at_y-requires-clause-darts c).Start) c.requires.darts _ c.seek_port-at_x.ensures

pub seek_port-at_y-requires-clause-t : goal.seek_port-at_y-requires-clause-t
seek_port-at_y-requires-clause-t c = seek_visits _ _ _ _ _ _ (corners (goal.at.seek_port-at_y-requires-clause-t c).Start) c.requires.darts _ c.seek_port-at_x.ensures

pub overflow_sub-size : goal.overflow_sub-size
overflow_sub-size c = omega (arith, (found_size _ _ _ _ _ _ (corners (goal.at.overflow_sub-size c).Start) c.requires.darts _ c.seek_port-at_x.ensures _ c.seek_port-at_y.ensures).2)

pub overflow_sub-size-2 : goal.overflow_sub-size-2
overflow_sub-size-2 c = omega (arith, (found_size _ _ _ _ _ _ (corners (goal.at.overflow_sub-size-2 c).Start) c.requires.darts _ c.seek_port-at_x.ensures _ c.seek_port-at_y.ensures).2)

pub along-last-requires : goal.along-last-requires
along-last-requires c = found_darts _ _ _ _ _ _ (corners (goal.at.along-last-requires c).Start) c.requires.darts _ c.seek_port-at_x.ensures _ c.seek_port-at_y.ensures

pub returns : goal.returns
returns c = found_all _ _ _ _ _ _ (corners (goal.at.returns c).Start) c.requires.darts _ c.seek_port-at_x.ensures _ c.seek_port-at_y.ensures _ c.along-last.ensures
