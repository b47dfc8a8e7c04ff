-- `text::list_pairs` meets its contract: the parts of the arrays that are lent have the pairs and every channel in play, what is laid in them can be listed, and that is the plate's listing (Calling).
-- Assumes nothing.
use Rattle.std.proofs.Common.{rules}
use mathlib.Core.Path.{◌≡◌, refl, sym}
use mathlib.Core.Bool.{true}
use Prim.Native.Nat.{◌/◌}
use lib.ListN.{length, take, replicate}
use Rattle.laws.proofs.Lists.{part_length}
use Rattle.desk.proofs.Plans.{pairs_as, play_as}
use Rattle.text.specs.Calls.{lines_of, Filed}
use Rattle.text.proofs.Calling.{filed_plan, ask_net, ask_walkable, ask_held, ask_room, listed_of, pairs_few, filed_as, same_lines}
use Rattle.text.proofs.list_pairs.Goals as goal
use Rattle.text.proofs.list_pairs.Goals.{After-no_ports}

-- what is lent of the arrays
ports : (c : After-no_ports) → length (take c.args.v c.no_ports.result) ≡ c.args.v
ports c = sym (part_length _ _ _ c.no_ports.ensures.1 c.requires.limits.0)

ends : (c : After-no_ports) → take (length c.args.pairs.now) c.copy_ends.new.ends ≡ c.args.pairs.now
ends c = pairs_as _ _ _ c.no_ends-ends.ensures.1 (pairs_few _ _ c.requires.filed).0 c.copy_ends.ensures

play : (c : After-no_ports) → take (length c.args.pairs.now / 2) c.all_channels.result ≡ replicate (length c.args.pairs.now / 2) true
play c = play_as _ _ (pairs_few _ _ c.requires.filed).1 c.all_channels.ensures.0

filed : (c : After-no_ports) → let a = c.args in Filed (length (take a.v c.no_ports.result)) (take (length a.pairs.now) c.copy_ends.new.ends) (take (length a.pairs.now / 2) c.all_channels.result)
filed c = filed_as _ _ c.requires.filed _ _ _ (ports c) (ends c) (play c)

-- its listing is that of the plate
same : (c : After-no_ports) → let a = c.args in lines_of (length (take a.v c.no_ports.result)) (take (length a.pairs.now) c.copy_ends.new.ends) (take (length a.pairs.now / 2) c.all_channels.result) ≡ lines_of a.v a.pairs.now (replicate (length a.pairs.now / 2) true)
same c = same_lines _ _ c.requires.filed _ _ _ (ports c) (ends c) (play c)

pub lay_out-end-requires-clause-plan : goal.lay_out-end-requires-clause-plan
lay_out-end-requires-clause-plan c = filed_plan _ _ _ (filed (goal.at.lay_out-end-requires-clause-plan c).After-no_ports)

pub invariant_of-net : goal.invariant_of-net
invariant_of-net c =
    let was = (goal.at.invariant_of-net c).After-no_ports in
    let w = ask_net _ _ _ (filed was) _ _ _ _ _ _ _ c.lay_out-end.ensures.left c.lay_out-end.auto.first _ refl in
    record { sized = w.0; tables = w.1 }

pub invariant_of-kept : goal.invariant_of-kept
invariant_of-kept c =
    let was = (goal.at.invariant_of-kept c).After-no_ports in
    record { walkable = ask_walkable _ _ _ (filed was) _ _ _ _ _ _ _ c.lay_out-end.ensures.left c.lay_out-end.auto.first _ (search rules) }

pub write_listing-requires-clause-held : goal.write_listing-requires-clause-held
write_listing-requires-clause-held c =
    let was = (goal.at.write_listing-requires-clause-held c).After-no_ports in
    ask_held _ _ _ (filed was) _ _ _ _ _ _ _ c.lay_out-end.ensures.left c.lay_out-end.auto.first _ (search rules)

pub write_listing-requires-clause-room : goal.write_listing-requires-clause-room
write_listing-requires-clause-room c =
    let was = (goal.at.write_listing-requires-clause-room c).After-no_ports in
    ask_room _ _ _ (filed was) _ _ _ _ _ _ _ c.lay_out-end.ensures.left c.lay_out-end.auto.first _ (search rules) _ (same was) c.args.out.now c.requires.room

pub returns : goal.returns
returns c =
    let was = (goal.at.returns c).After-no_ports in
    listed_of _ _ _ (filed was) _ _ _ _ _ _ _ c.lay_out-end.ensures.left c.lay_out-end.auto.first _ (search rules) _ (same was) _ _ c.write_listing.ensures
