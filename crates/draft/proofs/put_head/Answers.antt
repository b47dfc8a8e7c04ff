-- `draft::put_head` meets its contract: the eight bytes are stored one behind the other.
-- Assumes nothing.
use native.Mathlib.Omega.{arith}
use mathlib.Core.Path.{◌≡◌, ap}
use mathlib.Core.List.{◌++◌}
use lib.ListN.{length, drop, length-set, length-take}
use Rattle.rules.specs.Lists.{text}
use Rattle.draft.proofs.Bytes.{pairs_start, marked, put_head}
use Rattle.draft.proofs.put_head.Goals as goal
use Rattle.draft.proofs.put_head.Goals.{After-copy_from_slice}

-- the mark is stored in as many bytes as were lent
sized : (c : After-copy_from_slice) → length (c.copy_from_slice.new.self ++ drop 3 c.args.out.now) ≡ length c.args.out.now
unfolding text
sized c = marked c.args.out.now c.copy_from_slice.new.self c.requires c.copy_from_slice.ensures.after

pub slice_bounds-copy_from_slice-end : goal.slice_bounds-copy_from_slice-end
slice_bounds-copy_from_slice-end c = omega (arith, pairs_start, c.requires)

pub slice_bounds-copy_from_slice-end-2 : goal.slice_bounds-copy_from_slice-end-2
slice_bounds-copy_from_slice-end-2 c = simp length-take (omega (arith, pairs_start, c.requires))

pub copy_from_slice-requires : goal.copy_from_slice-requires
copy_from_slice-requires c = simp length-take (omega (arith, pairs_start, c.requires))

pub put_word-requires : goal.put_word-requires
put_word-requires c = omega (arith, sized (goal.at.put_word-requires c).After-copy_from_slice, pairs_start, c.requires)

pub bounds-out-5 : goal.bounds-out-5
bounds-out-5 c = omega (arith, c.put_word.auto.out, sized (goal.at.bounds-out-5 c).After-copy_from_slice, pairs_start, c.requires)

pub put_word-requires-2 : goal.put_word-requires-2
put_word-requires-2 c = simp length-set (omega (arith, c.put_word.auto.out, sized (goal.at.put_word-requires-2 c).After-copy_from_slice, pairs_start, c.requires))

pub returns : goal.returns
unfolding text
returns c = put_head _ _ c.args.out.now _ _ _ c.ranges.v.fits c.requires (ap (λ l. l ++ drop 3 c.args.out.now) c.copy_from_slice.ensures.after) c.put_word.ensures c.put_word-2.ensures
