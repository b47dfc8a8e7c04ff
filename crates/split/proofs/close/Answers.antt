-- `split::close` meets its contract: the cycle reversed begins with the reverse of its last dart, so linking the rest of it backwards from there and back to there leads round it; linking the rest of the cycle from its first dart and back to it leads round the cycle.
-- Assumes nothing.
use mathlib.Core.Path.{◌≡◌, refl}
use Prim.Native.Nat.{◌-◌}
use lib.ListN.{length, get_or}
use Rattle.rules.specs.Terms.{reverse}
use Rattle.split.proofs.Cycling.{close_front, close_rest, closed}
use Rattle.split.proofs.close.Goals as goal
use Rattle.split.proofs.close.Goals.{After-reverse-e}

-- the reverse of the cycle's last dart
last_back : (c : After-reverse-e) → c.reverse-e.result ≡ reverse (get_or c.args.cycle.now (length c.args.cycle.now - 1) 0)
last_back c = c.reverse-e.ensures

pub link_back-requires : goal.link_back-requires
link_back-requires c =
    let w = close_front _ c.requires.cycle_nonzero _ _ refl (last_back (goal.at.link_back-requires c).After-reverse-e) _ c.requires.darts in
    record { darts = w.0; e_bound = w.1 }

pub link-requires : goal.link-requires
link-requires c =
    let w = close_rest _ c.requires.cycle_nonzero _ _ refl (last_back (goal.at.link-requires c).After-reverse-e) _ c.requires.darts _ c.link_back.auto.turns in
    record { darts = w.0; e_bound = w.1 }

pub returns : goal.returns
returns c = closed _ c.requires.cycle_nonzero _ _ refl (last_back (goal.at.returns c).After-reverse-e) _ c.requires.darts _ _ c.link_back.ensures c.link.ensures
