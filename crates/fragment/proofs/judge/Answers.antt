-- `fragment::judge` meets its contract: the laid ports are found; where all channels in play are laid it says so, and otherwise the fragments decide, the laid ports being marked first.
-- Assumes nothing.
use mathlib.Core.Path.{sym, ◌∙◌}
use Rattle.fragment.proofs.Choosing.{flat_told}
use Rattle.fragment.proofs.judge.Goals as goal

pub returns-then-all_laid-clause-verdict : goal.returns-then-all_laid-clause-verdict
returns-then-all_laid-clause-verdict c = flat_told _ _ _ _ _ (sym (c.all_laid.ensures _ _) ∙ c.if-all_laid.true)
