-- `rounds::lay_out` meets its contract: the neighbours are found, then the first cycle is laid, which is a state on the way of the whole laying (Going), nothing is told of its lands, and the rounds lead on from it.
-- Assumes nothing.
use Rattle.rounds.proofs.Going.{setting_out}
use Rattle.rounds.proofs.lay_out.Goals as goal

pub rounds-requires-clause-under : goal.rounds-requires-clause-under
rounds-requires-clause-under c = setting_out _ _ _ _ _ _ _ _ _ _ c.lay_first-begun.ensures.standing
