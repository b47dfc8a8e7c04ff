-- `lines::refused_line` meets its contract: it is the line of a word and two numbers.
-- Assumes nothing.
use mathlib.Core.List.{List}
use mathlib.Core.Path.{sym, subst}
use Prim.Native.Nat.{ℕ}
use Rattle.print.specs.Puts.{Room}
use Rattle.print.proofs.Putting.{wrote_as}
use Rattle.lines.proofs.Cutting.{spell_refused}
use Rattle.lines.proofs.refused_line.Goals as goal

pub short_line-requires : goal.short_line-requires
short_line-requires c = subst (λ (l : List ℕ). Room l c.args.out.now) (sym (spell_refused _)) c.requires

pub returns : goal.returns
returns c = wrote_as (spell_refused _) c.short_line.ensures
