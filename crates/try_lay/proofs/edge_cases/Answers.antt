-- `try_lay::edge_cases` is safe and ends: the part of the file that is lent lies within it.
-- Assumes nothing.
use native.Mathlib.Omega.{arith}
use Rattle.laws.proofs.Lists.{part_length}
use Rattle.try_lay.proofs.edge_cases.Goals as goal

pub slice_bounds-large-end : goal.slice_bounds-large-end
slice_bounds-large-end g c = part_length 408 1208 c.ring-few.result c.ring-few.ensures (omega arith)
