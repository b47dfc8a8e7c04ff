-- `land::link_each` meets its contract. The loop's invariant: the turns lead from d through the darts that have come to the one at hand (`Linked`).
-- Assumes nothing.
use mathlib.Core.Path.{ap, ◌∙◌}
use Prim.Native.Nat.{ℕ}
use mathlib.Core.List.{List}
use native.Mathlib.Omega.{arith}
use Rattle.std.proofs.Common.{rules}
use Rattle.rules.specs.Laying.{link}
use Rattle.land.proofs.Linking.{gives_turn, gives_end, next_dart, linked_step, linked_end}
use Rattle.land.proofs.link_each.Goals as goal

pub lead-requires-clause-e_bound : goal.lead-requires-clause-e_bound
lead-requires-clause-e_bound g c =
    let t = gives_turn c.requires.come.1 c.into_iter-x-iterator.ensures.into_iter_gives _ _ c.loop-x.yielded_by _ _ _ c.in-Some.is c.next.ensures.steps in
    omega (arith, next_dart _ _ _ _ _ c.requires.come.2 t, c.requires.come.2.few)

pub loop-x-preserved : goal.loop-x-preserved
loop-x-preserved g c =
    let t = gives_turn c.requires.come.1 c.into_iter-x-iterator.ensures.into_iter_gives _ _ c.loop-x.yielded_by _ _ _ c.in-Some.is c.next.ensures.steps in
    (search rules, search rules, linked_step _ _ _ _ _ _ _ _ _ c.requires.come.2 t c.lead.ensures c.loop-x.invariant.2)

pub returns : goal.returns
returns g c = λ q a.
    linked_end _ _ _ _ _ _ _ c.lead-2.ensures c.loop-x.invariant.2
    ∙ ap (λ (l : List ℕ). link c.args.d l c.args.e c.args.turns.now) (gives_end a c.into_iter-x-iterator.ensures.into_iter_gives _ _ c.loop-x.yielded_by _ _ c.in-None.is c.next.ensures.steps)
