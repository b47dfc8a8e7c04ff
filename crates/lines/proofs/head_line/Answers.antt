-- `lines::head_line` meets its contract: it is the line of the mark and three numbers.
-- Assumes nothing.
use mathlib.Core.List.{List}
use mathlib.Core.Path.{sym, subst}
use Prim.Native.Nat.{ℕ}
use Rattle.print.specs.Puts.{Room}
use Rattle.print.proofs.Putting.{wrote_as}
use Rattle.lines.proofs.Cutting.{spell_head}
use Rattle.lines.proofs.head_line.Goals as goal

pub short_line-requires : goal.short_line-requires
short_line-requires c = subst (λ (l : List ℕ). Room l c.args.out.now) (sym (spell_head _ _)) c.requires

pub returns : goal.returns
returns c = wrote_as (spell_head _ _) c.short_line.ensures
