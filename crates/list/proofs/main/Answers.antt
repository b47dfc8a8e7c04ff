-- `list::main` meets its contract: the bytes written out are among those of the buffer.
-- Assumes nothing.
use mathlib.Core.Path.{sym}
use Prim.Native.Nat.{◌≤◌}
use lib.ListN.{length}
use lib.Seq.{length-take-le}
use Rattle.text.proofs.Calling.{count_within}
use Rattle.list.proofs.main.Goals as goal
use Rattle.list.proofs.main.Goals.{In-Ok}

within : (c : In-Ok) → c.in-Ok.count ≤ length c.listing.new.out
within c = count_within _ _ _ _ _ c.in-Ok.is c.listing.ensures.answer c.listing.auto.out

pub slice_bounds-out-end : goal.slice_bounds-out-end
slice_bounds-out-end c = within (goal.at.slice_bounds-out-end c).In-Ok

pub slice_bounds-write_all-end : goal.slice_bounds-write_all-end
slice_bounds-write_all-end c = sym (length-take-le _ _ (within (goal.at.slice_bounds-write_all-end c).In-Ok))
