-- `fragment::spread` meets its contract. A fragment spreads from its seed port: a flood that stops at the marks reaches its ports, since no channel in play joins an unmarked port to an unlaid port that is marked.
-- Where both ends of channel k are laid it has no port.
-- Assumes nothing.
use mathlib.Core.Path.{◌≡◌, ◌∙◌}
use mathlib.Core.Bool.{false}
use Prim.Native.Nat.{◌+◌, ◌*◌, ◌<◌}
use native.Mathlib.Omega.{arith}
use lib.ListN.{length}
use Rattle.rules.specs.Lists.{at}
use Rattle.laws.proofs.Sets.{at_lt}
use Rattle.fragment.specs.Fragments.{Shut}
use Rattle.fragment.proofs.Spreading.{seed_place, some_place, some_below, none_place, unmarked_place}
use Rattle.fragment.proofs.Contacting.{spread_flood, spread_none}
use Rattle.fragment.proofs.spread.Goals as goal
use Rattle.fragment.proofs.spread.Goals.{In-Some, Start}

shut : (c : Start) → Shut c.args.net.ends.now c.args.net.play.now c.args.laid.now c.args.marks.now
shut c = c.requires.shut

channel : (c : Start) → 2 * c.args.k + 1 < length c.args.net.ends.now
channel c = omega (arith, c.args.net.sized.channels, at_lt c.args.net.play.now c.args.k (rw c.requires.channel tt))

pub seed_port-requires-clause-channel : goal.seed_port-requires-clause-channel
seed_port-requires-clause-channel c = channel (goal.at.seed_port-requires-clause-channel c).Start

pub returns-in-None : goal.returns-in-None
returns-in-None c =
    spread_none _ _ _ _ c.args.net.sized _ ((shut (goal.at.returns-in-None c).Start).long ∙ c.requires.ports) _
    (omega (arith, none_place (length c.args.net.first.now) c.args.net.ends.now c.args.net.play.now c.args.laid.now c.args.k c.in-None.ensures)) _

-- the seed port
place : (c : In-Some) → c.in-Some.p ≡ seed_place (length c.args.net.first.now) c.args.net.ends.now c.args.laid.now c.args.k
place c = some_place (length c.args.net.first.now) c.args.net.ends.now c.args.net.play.now c.args.laid.now c.args.k _ c.in-Some.ensures

below : (c : In-Some) → 2 * c.args.k + 1 < length c.args.net.ends.now → c.in-Some.p < length c.args.net.first.now
below c h = some_below (length c.args.net.first.now) c.args.net.ends.now c.args.net.play.now c.args.laid.now c.args.k c.args.net.sized (omega arith) _ c.in-Some.ensures

clear : (c : In-Some) → length c.args.marks.now ≡ length c.args.net.first.now → at c.args.marks.now (seed_place (length c.args.net.first.now) c.args.net.ends.now c.args.laid.now c.args.k) ≡ false
clear c m = unmarked_place (length c.args.net.first.now) c.args.net.ends.now c.args.net.play.now c.args.laid.now c.args.k c.args.marks.now m c.requires.unmarked

pub flood-requires-clause-port : goal.flood-requires-clause-port
flood-requires-clause-port c =
    let was = goal.at.flood-requires-clause-port c in
    omega (arith, (shut was.Start).long, below was.In-Some (channel was.Start))

pub returns-in-Some : goal.returns-in-Some
returns-in-Some c =
    let was = goal.at.returns-in-Some c in
    spread_flood _ _ _ _ c.args.net.sized c.requires.ports _ (shut was.Start) _ _ (place was.In-Some) (below was.In-Some (channel was.Start)) (clear was.In-Some ((shut was.Start).long ∙ c.requires.ports)) _ _ _ _ c.flood.ensures
