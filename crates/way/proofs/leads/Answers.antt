-- `way::leads` meets its contract: the two tests of the definition, one after the other; the mark that is read is at most j where the port is in the set.
-- Assumes nothing.
use mathlib.Core.Path.{sym, ap, ◌∙◌}
use Prim.Native.Nat.{ℕ, ◌<◌}
use native.Mathlib.Omega.{arith}
use lib.Dec.{leb}
use lib.ListN.{length, get_or}
use Rattle.rules.specs.Lists.{at}
use Rattle.rules.specs.Terms.{enters}
use Rattle.rules.specs.Ways.{in_play}
use Rattle.way.specs.Marks.{within}
use Rattle.way.proofs.Darts.{turned, entered_port, no_first, as_second}
use Rattle.way.proofs.Within.{at_within}
use Rattle.way.proofs.leads.Goals as goal
use Rattle.way.proofs.leads.Goals.{After-enters}

-- the port that d enters has a mark
entered : (c : After-enters) → c.enters.result < length c.args.far.now
entered c = omega (arith, entered_port _ _ _ c.args.net.sized c.args.d (omega arith), c.enters.ensures)

pub enters-requires-clause-dart : goal.enters-requires-clause-dart
enters-requires-clause-dart c = turned _ _ _ c.args.net.sized _ c.requires.dart

pub offset_bounds-far-enters : goal.offset_bounds-far-enters
offset_bounds-far-enters c = omega (arith, entered c)

pub bounds-far-enters : goal.bounds-far-enters
bounds-far-enters c = entered (goal.at.bounds-far-enters c).After-enters

pub returns-then-net-d : goal.returns-then-net-d
unfolding at
returns-then-net-d c =
    let q = enters c.args.net.ends.now c.args.d in
    ap (λ (n : ℕ). leb n c.args.j) (ap (λ (p : ℕ). get_or c.args.far.now p 0) c.enters.ensures)
    ∙ sym (at_within c.args.far.now c.args.j q (omega (arith, entered_port _ _ _ c.args.net.sized c.args.d c.requires.dart, c.requires.ports)))
    ∙ as_second (in_play c.args.net.play.now c.args.d) (at (within c.args.far.now c.args.j) q) c.if-net-d.true

pub returns-else-net-d : goal.returns-else-net-d
unfolding at
returns-else-net-d c = c.if-net-d.false ∙ no_first (in_play c.args.net.play.now c.args.d) (at (within c.args.far.now c.args.j) (enters c.args.net.ends.now c.args.d)) c.if-net-d.false
