-- `print::Out::ports_entered` meets its contract: for each dart the closure gives the port that it enters.
-- Assumes nothing.
use Rattle.std.proofs.Common.{rules}
use Rattle.rules.specs.Terms.{enters}
use Rattle.land.proofs.Walking.{reverse_inside}
use Rattle.print.proofs.Fields.{below_at, gave_room, gave_all}
use Rattle.print.proofs.Out.ports_entered.Goals as goal

pub each-requires-clause-callable : goal.each-requires-clause-callable
each-requires-clause-callable c = λ k d h.
    let b = below_at _ _ c.requires.darts.inside k d h in
    let i = reverse_inside _ _ c.requires.darts.even b in
    let few = c.requires.darts.few in
    search rules

pub each-requires-clause-room : goal.each-requires-clause-room
unfolding enters
each-requires-clause-room c = gave_room _ (enters c.args.ends.now) (λ d n p. search rules) _ c.args.self.now c.requires.room

pub returns : goal.returns
unfolding enters
returns c = gave_all _ (enters c.args.ends.now) (λ d n p. search rules) _ _ _ c.each.ensures
