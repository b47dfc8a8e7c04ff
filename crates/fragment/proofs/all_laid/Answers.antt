-- `fragment::all_laid` meets its contract: the closure tells of each channel whether it is over.
-- Assumes nothing.
use mathlib.Core.Path.{sym, ◌∙◌}
use borrow.Author.Tests.{tests}
use Rattle.std.proofs.Common.{rules}
use Rattle.laws.proofs.Finding.{all_below}
use Rattle.fragment.specs.Fragments.{over}
use Rattle.fragment.proofs.Turning.{all_over}
use Rattle.fragment.proofs.all_laid.Goals as goal

pub returns : goal.returns
returns c = λ v ends. all_below (over c.args.play.now c.args.turns.now) _ _ _ c.all.result c.all.ensures.ran (λ x b q k. search (rules, tests)) ∙ sym (all_over v ends _ _)
