-- `laid::lay_pairs` meets its contract: the parts of the arrays that are lent have the pairs and every channel in play (Rooming), the lands that laying holds are written out, and its end is answered (Laying).
-- Assumes nothing.
use Rattle.std.proofs.Common.{rules}
use mathlib.Core.Path.{◌≡◌, refl, sym, ap}
use mathlib.Core.Bool.{true}
use Prim.Native.Nat.{◌/◌}
use lib.ListN.{length, take, replicate}
use Rattle.laws.proofs.Lists.{part_length}
use Rattle.desk.proofs.Plans.{pairs_as, play_as}
use Rattle.laid.specs.Answers.{told_of}
use Rattle.laid.specs.Sheets.{Fit}
use Rattle.laid.proofs.Laying.{out_walkable, out_room, out_count, sheet_of}
use Rattle.laid.proofs.Rooming.{pairs_few, fit_as, sheet_as}
use Rattle.laid.proofs.lay_pairs.Goals as goal
use Rattle.laid.proofs.lay_pairs.Goals.{After-no_ports}

-- what is lent of the arrays
ports : (c : After-no_ports) → length (take c.args.v c.no_ports.result) ≡ c.args.v
ports c = sym (part_length _ _ _ c.no_ports.ensures.1 c.requires.ports)

ends : (c : After-no_ports) → take (length c.args.pairs.now) c.copy_ends.new.ends ≡ c.args.pairs.now
ends c = pairs_as _ _ _ c.no_ends-ends.ensures.1 (pairs_few _ _ _ _ _ _ c.requires).0 c.copy_ends.ensures

play : (c : After-no_ports) → take (length c.args.pairs.now / 2) c.all_channels.result ≡ replicate (length c.args.pairs.now / 2) true
play c = play_as _ _ (pairs_few _ _ _ _ _ _ c.requires).1 c.all_channels.ensures.0

fit : (c : After-no_ports) → let a = c.args in Fit (length (take a.v c.no_ports.result)) (take (length a.pairs.now) c.copy_ends.new.ends) (take (length a.pairs.now / 2) c.all_channels.result) a.n a.turns.now a.lands.now a.lengths.now
fit c = fit_as _ _ _ _ _ _ c.requires _ _ _ (ports c) (ends c) (play c)

pub lay_out-end-requires-clause-plan : goal.lay_out-end-requires-clause-plan
lay_out-end-requires-clause-plan c = (fit (goal.at.lay_out-end-requires-clause-plan c).After-no_ports).plan

pub invariant_of-kept : goal.invariant_of-kept
invariant_of-kept c = record { walkable = out_walkable _ _ _ _ _ _ _ (fit (goal.at.invariant_of-kept c).After-no_ports) _ _ _ _ _ _ _ c.lay_out-end.ensures.left _ (search rules) }

pub write_out-requires-clause-lands : goal.write_out-requires-clause-lands
write_out-requires-clause-lands c = out_room _ _ _ _ _ _ _ (fit (goal.at.write_out-requires-clause-lands c).After-no_ports) _ _ _ _ _ _ _ c.lay_out-end.ensures.left _ (search rules)

pub write_out-requires-clause-lengths : goal.write_out-requires-clause-lengths
write_out-requires-clause-lengths c = out_count _ _ _ _ _ _ _ (fit (goal.at.write_out-requires-clause-lengths c).After-no_ports) _ _ _ _ _ _ _ c.lay_out-end.ensures.left _ refl

pub returns : goal.returns
returns c =
    let was = (goal.at.returns c).After-no_ports in
    let S = sheet_of _ _ _ _ _ _ _ (fit was) _ _ _ _ _ _ _ c.lay_out-end.ensures.left _ (search rules) _ _ _ c.write_out.ensures.lands c.write_out.ensures.lengths (ap told_of c.from.ensures) in
    sheet_as _ _ _ _ _ _ c.requires _ _ _ (ports was) (ends was) (play was) _ _ _ _ _ S
