-- `fragment::is_over` meets its contract: a channel that is not in play is over; one in play is over where its first dart is laid.
-- Assumes nothing.
use mathlib.Core.Path.{sym, ap, ◌∙◌}
use mathlib.Core.Bool.{not}
use Rattle.rules.specs.Lists.{at}
use Rattle.fragment.proofs.Turning.{over_out, over_in}
use Rattle.fragment.proofs.is_over.Goals as goal

pub returns-then-not-play-k : goal.returns-then-not-play-k
unfolding at
returns-then-not-play-k c = ap not c.if-not-play-k.true ∙ sym (over_out _ _ _ c.if-not-play-k.true)

pub returns-else-not-play-k : goal.returns-else-not-play-k
unfolding at
returns-else-not-play-k c = c.is_laid.ensures ∙ sym (over_in _ _ _ c.if-not-play-k.false)
