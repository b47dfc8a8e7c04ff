-- `fragment::seed_port` meets its contract: the first end is tried, then the second.
-- Assumes nothing.
use Prim.Native.Nat.{◌+◌, ◌*◌}
use mathlib.Core.List.{[]}
use native.Mathlib.Omega.{arith}
use Rattle.rules.specs.Lists.{at}
use Rattle.rules.specs.Terms.{leaves}
use Rattle.fragment.proofs.Spreading.{read_first, read_second, read_neither}
use Rattle.fragment.proofs.seed_port.Goals as goal

pub bounds-laid-a : goal.bounds-laid-a
unfolding leaves
bounds-laid-a c = c.requires.ports (2 * c.args.k) (omega arith)

pub bounds-laid-b : goal.bounds-laid-b
unfolding leaves
bounds-laid-b c = c.requires.ports (2 * c.args.k + 1) (omega arith)

pub returns-then-not-laid-a : goal.returns-then-not-laid-a
unfolding at
returns-then-not-laid-a c = read_first 0 c.args.ends.now [] c.args.laid.now c.args.k c.if-not-laid-a.true

pub returns-then-not-laid-b : goal.returns-then-not-laid-b
unfolding at
returns-then-not-laid-b c = read_second 0 c.args.ends.now [] c.args.laid.now c.args.k c.if-not-laid-a.false c.if-not-laid-b.true

pub returns-else-not-laid-b : goal.returns-else-not-laid-b
unfolding at
returns-else-not-laid-b c = read_neither 0 c.args.ends.now [] c.args.laid.now c.args.k c.if-not-laid-a.false c.if-not-laid-b.false
