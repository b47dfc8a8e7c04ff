-- `split::renew` meets its contract: the smallest of the darts is at most d, which is below the mark, so it fits.
-- Assumes nothing.
use native.Mathlib.Omega.{arith}
use Rattle.split.proofs.Rotations.{least_first}
use Rattle.split.proofs.renew.Goals as goal

pub overflow_cast-laying : goal.overflow_cast-laying
overflow_cast-laying c = omega (arith, c.smallest-low.ensures, least_first c.args.laying.now.turns.now c.args.n c.args.d c.requires.n_nonzero.0 c.requires.darts)
