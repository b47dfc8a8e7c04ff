-- `reach::neighbours` meets its contract. The loop's invariant: `first` has for each port the lowest dart from d on that leaves it, and `more` has for each dart from d on the next one at its port.
-- Assumes nothing.
use mathlib.Core.Path.{◌≡◌, subst}
use Prim.Native.Nat.{◌-◌, ◌<◌}
use native.Mathlib.Omega.{arith}
use lib.ListN.{length, replicate}
use Rattle.std.proofs.Common.{rules}
use Rattle.rules.specs.Terms.{leaves}
use Rattle.reach.proofs.Chaining.{Chained, start, step_before, first_end, more_end}
use Rattle.reach.proofs.neighbours.Goals as goal
use Rattle.reach.proofs.neighbours.Goals.{At-loop-d}

-- the dart before d leaves one of the ports
inside : (c : At-loop-d) → 0 < c.loop-d.d → leaves c.args.ends.now (c.loop-d.d - 1) < length c.args.first.now
inside c h = c.requires.ports (c.loop-d.d - 1) (omega (arith, c.loop-d.invariant.most))

pub loop-d-init : goal.loop-d-init
loop-d-init c =
    let e : c.fill.new.self ≡ replicate (length c.args.first.now) (length c.args.ends.now) = search rules in
    start _ _ _ _ e c.requires.darts

pub bounds-first-p : goal.bounds-first-p
unfolding leaves
bounds-first-p c = omega (arith, inside (goal.at.bounds-first-p c).At-loop-d (omega arith), c.loop-d.invariant.ports)

pub bounds-first-p-in-loop-d : goal.bounds-first-p-in-loop-d
unfolding leaves
bounds-first-p-in-loop-d c = omega (arith, inside (goal.at.bounds-first-p-in-loop-d c).At-loop-d (omega arith), c.loop-d.invariant.ports)

pub loop-d-preserved : goal.loop-d-preserved
unfolding leaves
loop-d-preserved c = step_before _ _ _ _ _ c.loop-d.invariant (omega arith) (inside (goal.at.loop-d-preserved c).At-loop-d (omega arith))

pub returns : goal.returns
returns c =
    let over : c.loop-d.d ≡ 0 = omega arith in
    let g = subst (Chained c.args.ends.now (length c.args.first.now) c.loop-d.first c.loop-d.more) over c.loop-d.invariant in
    record { first = first_end _ _ _ _ g; more = more_end _ _ _ _ g }
