-- `way::joins` meets its contract: the tests of the definition, one after the other, each left as soon as it decides.
-- Assumes nothing.
use mathlib.Core.Path.{refl, sym, ◌∙◌}
use native.Mathlib.Omega.{arith}
use Rattle.rules.specs.Lists.{at}
use Rattle.rules.specs.Terms.{leaves}
use Rattle.way.proofs.Darts.{left_port}
use Rattle.way.proofs.joins.Goals as goal

pub bounds-free-p : goal.bounds-free-p
unfolding leaves
bounds-free-p c = omega (arith, left_port _ _ _ c.args.net.sized c.args.d (omega arith))

pub returns-then-free-p : goal.returns-then-free-p
unfolding at leaves
returns-then-free-p c = rw (sym c.leads.ensures ∙ c.if-leads.true, c.if-free-p.true) refl

pub returns-else-free-p : goal.returns-else-free-p
unfolding at leaves
returns-else-free-p c = rw (sym c.leads.ensures ∙ c.if-leads.true, c.if-free-p.false) refl
