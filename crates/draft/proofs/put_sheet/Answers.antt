-- `draft::put_sheet` meets its contract: the head, the pairs and the turns are put one behind the other.
-- Assumes nothing.
use mathlib.Core.Path.{◌≡◌, refl, ◌∙◌}
use mathlib.Core.List.{◌++◌}
use Prim.Native.Nat.{◌+◌, ◌-◌, ◌*◌, ◌≤◌}
use native.Mathlib.Omega.{arith}
use lib.ListN.{length, take, drop}
use Rattle.plate.proofs.Laws.{length_sheet}
use Rattle.draft.proofs.Bytes.{pairs_start, part_size, mid_size, middle_size, whole, put_sheet}
use Rattle.draft.proofs.put_sheet.Goals as goal
use Rattle.draft.proofs.put_sheet.Goals.{Start, After-put_head, After-put_pairs}

-- the buffer is long enough for the three parts
room : (c : Start) → 8 + 3 * length c.args.pairs.now ≤ length c.args.out.now
room c = omega (arith, length_sheet c.args.p.channels, c.requires.room, c.requires.pairs)

-- the part that is lent for the pairs is as long as they are
lent : (c : After-put_head) → 8 + 3 * length c.args.pairs.now ≤ length c.put_head.new.out → length (take (8 + length c.args.pairs.now - 8) (drop 8 c.put_head.new.out)) ≡ length c.args.pairs.now
lent c h = middle_size c.put_head.new.out 8 (length c.args.pairs.now) (omega arith)

-- and so it is after the head was put, and after the pairs were
paired : (c : After-put_pairs) → 8 + 3 * length c.args.pairs.now ≤ length c.put_head.new.out
    → length (take 8 c.put_head.new.out ++ (c.put_pairs.new.part ++ drop (8 + length c.args.pairs.now - 8) (drop 8 c.put_head.new.out))) ≡ length c.put_head.new.out
paired c h = mid_size c.put_head.new.out c.put_pairs.new.part 8 (length c.args.pairs.now) (omega arith) (c.put_pairs.auto.part ∙ middle_size c.put_head.new.out 8 (length c.args.pairs.now) (omega arith))

headed : (c : Start) (d : After-put_head) → length d.put_head.new.out ≡ length c.args.out.now → 8 + 3 * length c.args.pairs.now ≤ length d.put_head.new.out
headed c d h = omega (arith, h, room c)

pub put_head-requires : goal.put_head-requires
put_head-requires c = omega (arith, pairs_start, room (goal.at.put_head-requires c).Start)

pub slice_bounds-put_pairs-end : goal.slice_bounds-put_pairs-end
slice_bounds-put_pairs-end c =
    let was = goal.at.slice_bounds-put_pairs-end c in
    omega (arith, headed was.Start was.After-put_head c.put_head.auto.out)

pub put_pairs-requires : goal.put_pairs-requires
put_pairs-requires c =
    let was = goal.at.put_pairs-requires c in
    omega (arith, lent was.After-put_head (headed was.Start was.After-put_head c.put_head.auto.out))

pub slice_bounds-put_turns-count : goal.slice_bounds-put_turns-count
slice_bounds-put_turns-count c =
    let was = goal.at.slice_bounds-put_turns-count c in
    let h = headed was.Start was.After-put_head c.put_head.auto.out in
    omega (arith, h, paired was.After-put_pairs h)

pub slice_bounds-put_turns-start : goal.slice_bounds-put_turns-start
slice_bounds-put_turns-start c =
    let was = goal.at.slice_bounds-put_turns-start c in
    let h = headed was.Start was.After-put_head c.put_head.auto.out in
    omega (arith, h, paired was.After-put_pairs h)

pub put_turns-requires : goal.put_turns-requires
put_turns-requires c =
    let was = goal.at.put_turns-requires c in
    let h = headed was.Start was.After-put_head c.put_head.auto.out in
    let s = paired was.After-put_pairs h in
    omega (
      arith,
      part_size (take 8 c.put_head.new.out ++ (c.put_pairs.new.part ++ drop (8 + length c.args.pairs.now - 8) (drop 8 c.put_head.new.out))) (8 + length c.args.pairs.now) (omega (arith, h, s)),
      s,
      h,
      c.requires.pairs,
      c.requires.turns,
    )

pub returns : goal.returns
returns c =
    let was = goal.at.returns c in
    put_sheet _ _ c.args.out.now c.args.pairs.now c.args.turns.now _ _ _ _ c.requires.pairs c.requires.turns c.requires.room (λ i h. omega (arith, c.type_inv.pairs i)) c.put_head.ensures (c.put_pairs.ensures ∙ whole _ _ (lent was.After-put_head (headed was.Start was.After-put_head c.put_head.auto.out))) refl
    c.put_turns.ensures
