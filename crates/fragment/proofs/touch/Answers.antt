-- `fragment::touch` meets its contract: a dart that is not in play, and one that enters an unlaid port, leave all as it is.
-- Assumes nothing.
use mathlib.Core.Path.{◌≡◌, sym, ap, ◌∙◌}
use mathlib.Core.Bool.{true}
use Prim.Native.Nat.{ℕ, ◌<◌}
use native.Mathlib.Omega.{arith}
use lib.ListN.{length, get_or, set}
use Rattle.rules.specs.Lists.{at}
use Rattle.rules.specs.Terms.{enters}
use Rattle.laws.proofs.Runs.{reverse_below}
use Rattle.reach.proofs.Meeting.{enters_in}
use Rattle.fragment.proofs.Collecting.{touch_out, touch_unlaid, touch_laid}
use Rattle.fragment.proofs.touch.Goals as goal
use Rattle.fragment.proofs.touch.Goals.{After-reverse, else-net-d-via-then-net-d+else-laid-q, else-net-d-via-else-net-d}

-- the reverse of the dart is a dart, and its port is one of the ports
turned : (c : After-reverse) → c.reverse.result < length c.args.net.ends.now
turned c = omega (arith, c.reverse.ensures, reverse_below c.args.d (length c.args.net.play.now) (omega (arith, c.args.net.sized.channels)), c.args.net.sized.channels)

port : (c : After-reverse) → get_or c.args.net.ends.now c.reverse.result 0 ≡ enters c.args.net.ends.now c.args.d
unfolding enters
port c = ap (λ (i : ℕ). get_or c.args.net.ends.now i 0) c.reverse.ensures

pub offset_bounds-net-reverse : goal.offset_bounds-net-reverse
offset_bounds-net-reverse c = omega (arith, turned (goal.at.offset_bounds-net-reverse c).After-reverse)

pub bounds-net-reverse : goal.bounds-net-reverse
bounds-net-reverse c = turned (goal.at.bounds-net-reverse c).After-reverse

pub bounds-laid-q : goal.bounds-laid-q
bounds-laid-q c = omega (arith, port (goal.at.bounds-laid-q c).After-reverse, enters_in _ _ _ c.args.net.sized c.args.d c.requires.dart)

pub returns-then-laid-q : goal.returns-then-laid-q
unfolding at
returns-then-laid-q c =
    let p = port (goal.at.returns-then-laid-q c).After-reverse in
    ap (λ (i : ℕ). set c.args.touched.now i true) p
    ∙ sym (touch_laid c.args.net.ends.now c.args.net.play.now c.args.laid.now c.args.d c.args.touched.now c.if-net-d.true (ap (at c.args.laid.now) (sym p) ∙ c.if-laid-q.true))

pub returns-else-net-d : goal.returns-else-net-d
unfolding at
returns-else-net-d c =
    let p = port (goal.at.returns-else-net-d c).After-reverse in
    sym (elim c.else-net-d.branch [
      | else-net-d-via-then-net-d+else-laid-q w ↦ touch_unlaid c.args.net.ends.now c.args.net.play.now c.args.laid.now c.args.d c.args.touched.now w.if-net-d.true (ap (at c.args.laid.now) (sym p) ∙ w.if-laid-q.false)
      | else-net-d-via-else-net-d w ↦ touch_out c.args.net.ends.now c.args.net.play.now c.args.laid.now c.args.d c.args.touched.now w.if-net-d.false
    ])
