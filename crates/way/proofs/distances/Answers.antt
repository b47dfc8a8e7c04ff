-- `way::distances` meets its contract. The invariant: after j passes the ports within mark i are those from which i channels lead to y, for each i up to j, and no port is marked above j (Measuring). The measure is the number of ports less j: as many passes as there are ports reach x.
-- Assumes nothing.
use mathlib.Core.Path.{ap, ◌∙◌}
use Prim.Native.Nat.{ℕ, ◌<◌}
use native.Mathlib.Omega.{arith}
use lib.ListN.{length}
use Rattle.way.specs.Marks.{begun}
use Rattle.way.proofs.Measuring.{start, more, step, end}
use Rattle.way.proofs.distances.Goals as goal
use Rattle.way.proofs.distances.Goals.{In-loop-j}

-- where x has no mark, passes are left
fewer : (c : In-loop-j) → c.loop-j.j < length c.args.free.now
fewer c = more _ _ _ _ _ _ _ _ c.loop-j.invariant c.requires.ports.0 c.requires.reached (omega arith)

pub loop-j-init : goal.loop-j-init
loop-j-init c = start _ _ _ _ _ _ _ (c.begin.ensures ∙ ap (λ (v : ℕ). begun v c.args.y) c.requires.marks)

pub pass-requires-clause-small : goal.pass-requires-clause-small
pass-requires-clause-small c = omega (arith, fewer (goal.at.pass-requires-clause-small c).In-loop-j)

pub loop-j-smaller : goal.loop-j-smaller
loop-j-smaller c = omega (arith, fewer (goal.at.loop-j-smaller c).In-loop-j)

pub loop-j-preserved : goal.loop-j-preserved
loop-j-preserved c = step _ _ _ _ _ _ _ _ c.loop-j.invariant c.requires.ports.0 _ c.pass.ensures (omega arith) (fewer (goal.at.loop-j-preserved c).In-loop-j) (omega arith)

pub returns-clause-sets : goal.returns-clause-sets
returns-clause-sets c = end _ _ _ _ _ _ _ _ c.loop-j.invariant c.requires.ports.0 (omega arith)
