-- `print::Out::land` meets its contract: the closure leads by the rule of lands.
-- Assumes nothing.
use Rattle.std.proofs.Common.{rules}
use Rattle.print.proofs.Fields.{land_room, land_below, land_all}
use Rattle.print.proofs.Out.land.Goals as goal

pub walk-requires-clause-callable : goal.walk-requires-clause-callable
walk-requires-clause-callable c = λ ds e l h.
    let w = land_below _ c.args.turns.now (λ d n p. search rules) _ _ c.requires.darts ds e l h in
    search rules

pub walk-requires-clause-room : goal.walk-requires-clause-room
walk-requires-clause-room c = land_room _ c.args.turns.now (λ d n p. search rules) _ _ c.args.self.now c.requires.room

pub returns : goal.returns
returns c = land_all _ c.args.turns.now (λ d n p. search rules) _ _ _ _ c.walk.ensures
