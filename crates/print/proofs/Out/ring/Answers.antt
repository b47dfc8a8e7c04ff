-- `print::Out::ring` meets its contract: the closure leads from each dart to its turn.
-- Assumes nothing.
use Rattle.std.proofs.Common.{rules}
use Rattle.print.proofs.Fields.{ring_room, ring_below, ring_all}
use Rattle.print.proofs.Out.ring.Goals as goal

pub walk-requires-clause-callable : goal.walk-requires-clause-callable
walk-requires-clause-callable c = λ ds e l h.
    let b = ring_below _ c.args.turns.now (λ d n p. search rules) _ _ c.requires.below ds e l h in
    search rules

pub walk-requires-clause-room : goal.walk-requires-clause-room
walk-requires-clause-room c = ring_room _ c.args.turns.now (λ d n p. search rules) _ _ c.args.self.now c.requires.room

pub returns : goal.returns
returns c = ring_all _ c.args.turns.now (λ d n p. search rules) _ _ _ _ c.walk.ensures
