-- `way::descend` meets its contract. The invariant: the first n darts of the route are written, and the rest of the route begins at p (Descending).
-- Assumes nothing.
use mathlib.Core.Path.{◌≡◌, sym, ap, ◌∙◌}
use Prim.Native.Nat.{◌-◌, ◌<◌}
use native.Mathlib.Omega.{arith}
use lib.ListN.{length}
use Rattle.rules.specs.Lists.{from}
use Rattle.rules.specs.Terms.{missing}
use Rattle.rules.specs.Ways.{in_play, nearest}
use Rattle.way.specs.Marks.{within, number_of}
use Rattle.way.proofs.Darts.{turned, entered_port}
use Rattle.way.proofs.Choosing.{dart_found, number_same}
use Rattle.way.proofs.Descending.{start, dart, step_as, end}
use Rattle.way.proofs.descend.Goals as goal
use Rattle.way.proofs.descend.Goals.{After-unwrap-d}

-- what is taken is the nearest dart
taken : (c : After-unwrap-d) → c.unwrap-d.result ≡ nearest c.args.net.ends.now (in_play c.args.net.play.now) c.loop-n.p (within c.args.far.now (c.args.k - c.loop-n.n - 1)) (from 0 (length c.args.net.ends.now)) missing
taken c = ap number_of (sym c.unwrap-d.ensures ∙ c.nearest.ensures) ∙ number_same _

inside : (c : After-unwrap-d) → c.unwrap-d.result < length c.args.net.ends.now
inside c = dart _ _ _ _ _ _ c.requires.room _ _ _ c.loop-n.invariant (omega arith) c.requires.darts _ (taken c)

pub loop-n-init : goal.loop-n-init
loop-n-init c = start _ _ _ _ _ _ c.requires.port

pub unwrap-d-requires : goal.unwrap-d-requires
unwrap-d-requires c = dart_found _ _ _ c.requires.sizes.few (λ d e. dart _ _ _ _ _ _ c.requires.room _ _ _ c.loop-n.invariant (omega arith) c.requires.darts d e) c.nearest.ensures

pub overflow_cast-out : goal.overflow_cast-out
overflow_cast-out c = omega (arith, inside (goal.at.overflow_cast-out c).After-unwrap-d)

pub enters-p-requires : goal.enters-p-requires
enters-p-requires c = record { small = omega (arith, inside (goal.at.enters-p-requires c).After-unwrap-d); dart = turned _ _ _ c.args.net.sized _ (inside (goal.at.enters-p-requires c).After-unwrap-d) }

pub loop-n-preserved : goal.loop-n-preserved
loop-n-preserved c =
    let was = (goal.at.loop-n-preserved c).After-unwrap-d in
    step_as _ _ _ _ _ _ c.requires.room _ _ _ c.loop-n.invariant (omega arith) c.requires.darts _ (taken was) _ c.enters-p.ensures (omega (arith, entered_port _ _ _ c.args.net.sized _ (inside was), c.requires.ports))

pub returns : goal.returns
returns c = end _ _ _ _ _ _ c.requires.room _ _ _ c.loop-n.invariant (omega arith)
