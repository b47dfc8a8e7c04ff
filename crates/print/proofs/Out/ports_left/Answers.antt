-- `print::Out::ports_left` meets its contract: for each dart the closure gives the port that it leaves.
-- Assumes nothing.
use Rattle.std.proofs.Common.{rules}
use Rattle.rules.specs.Terms.{leaves}
use Rattle.print.proofs.Fields.{below_at, gave_room, gave_all}
use Rattle.print.proofs.Out.ports_left.Goals as goal

pub each-requires-clause-callable : goal.each-requires-clause-callable
each-requires-clause-callable c = λ k d h. let b = below_at _ _ c.requires.darts.inside k d h in search rules

pub each-requires-clause-room : goal.each-requires-clause-room
unfolding leaves
each-requires-clause-room c = gave_room _ (leaves c.args.ends.now) (λ d n p. search rules) _ c.args.self.now c.requires.room

pub returns : goal.returns
unfolding leaves
returns c = gave_all _ (leaves c.args.ends.now) (λ d n p. search rules) _ _ _ c.each.ensures
