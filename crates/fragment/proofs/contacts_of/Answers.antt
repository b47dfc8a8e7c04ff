-- `fragment::contacts_of` meets its contract. Where the fragment has no port it is channel k, and the ends of k are its contacts. Otherwise its contacts are the laid ports that the darts of its ports enter.
-- Assumes nothing.
use mathlib.Core.Path.{◌≡◌, ap, ◌∙◌}
use mathlib.Core.Bool.{false}
use Prim.Native.Nat.{ℕ, ◌+◌, ◌*◌, ◌<◌}
use native.Mathlib.Omega.{arith}
use lib.ListN.{length, take, replicate}
use Rattle.laws.proofs.Sets.{at_lt}
use Rattle.fragment.specs.Fragments.{touch_from}
use Rattle.fragment.proofs.Contacting.{spread_ports, rooted_left, single_left, two_ports}
use Rattle.fragment.proofs.contacts_of.Goals as goal
use Rattle.fragment.proofs.contacts_of.Goals.{After-fill, After-touch_from, Start}

channel : (c : Start) → 2 * c.args.k + 1 < length c.args.net.ends.now
channel c = omega (arith, c.args.net.sized.channels, at_lt c.args.net.play.now c.args.k (rw c.requires.channel tt))

-- what is touched starts empty
emptied : (c : After-fill) → length c.args.desk.now.touched.now ≡ length c.args.net.first.now → c.fill.new.self ≡ replicate (length c.args.net.first.now) false
emptied c long = c.fill.ensures.after (λ y e. e) ∙ ap (λ (n : ℕ). replicate n false) long

touched : (c : After-touch_from) → (c.fill.new.self ≡ replicate (length c.args.net.first.now) false) → c.touch_from.new.touched
    ≡ touch_from c.args.net.ends.now c.args.net.play.now c.args.laid.now (take c.spread-n.result c.spread-n.new.queue) (replicate (length c.args.net.first.now) false)
touched c emptied = c.touch_from.ensures ∙ ap (touch_from _ _ _ _) emptied

pub both_ends-requires-clause-channel : goal.both_ends-requires-clause-channel
both_ends-requires-clause-channel c = channel (goal.at.both_ends-requires-clause-channel c).Start

pub both_ends-requires-clause-room : goal.both_ends-requires-clause-room
both_ends-requires-clause-room c =
    let was = goal.at.both_ends-requires-clause-room c in
    omega (arith, c.requires.lent.of_contacts, two_ports _ _ _ _ c.args.net.sized _ _ _ _ _ c.spread-n.ensures c.requires.loopless c.requires.channel)

pub returns-then-n-eq0-clause-contacts : goal.returns-then-n-eq0-clause-contacts
returns-then-n-eq0-clause-contacts c =
    let e = c.both_ends.ensures in
    single_left _ _ _ _ c.args.net.sized _ _ _ _ _ c.spread-n.ensures c.requires.loopless c.requires.channel c.if-n-eq0.true _ _ e.0 e.1

pub touch_from-requires-clause-below : goal.touch_from-requires-clause-below
touch_from-requires-clause-below c = rw c.requires.ports (spread_ports _ _ _ _ c.args.net.sized _ _ _ _ _ c.spread-n.ensures)

pub returns-clause-contacts : goal.returns-clause-contacts
returns-clause-contacts c =
    let was = goal.at.returns-clause-contacts c in
    let e = c.collect.ensures in
    rooted_left _ _ _ _ c.args.net.sized _ _ _ _ _ c.spread-n.ensures c.if-n-eq0.false _ _ _ (touched was.After-touch_from (emptied was.After-fill c.requires.lent.of_touched)) e.0 e.1
