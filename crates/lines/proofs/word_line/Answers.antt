-- `lines::word_line` meets its contract: each word has its line.
-- Assumes nothing.
use mathlib.Core.List.{List}
use mathlib.Core.Path.{sym, subst}
use Prim.Native.Nat.{ℕ}
use Rattle.print.specs.Puts.{Room}
use Rattle.print.proofs.Putting.{wrote_as}
use Rattle.lines.proofs.Cutting.{word_flat, word_stuck, word_partial}
use Rattle.lines.proofs.word_line.Goals as goal

pub short_line-requires : goal.short_line-requires
short_line-requires c = subst (λ (l : List ℕ). Room l c.args.out.now) (sym (word_flat _ _ c.in-Flat.is)) c.requires

pub short_line-requires-in-Stuck : goal.short_line-requires-in-Stuck
short_line-requires-in-Stuck c = subst (λ (l : List ℕ). Room l c.args.out.now) (sym (word_stuck _ _ _ c.in-Stuck.is)) c.requires

pub short_line-requires-in-Partial : goal.short_line-requires-in-Partial
short_line-requires-in-Partial c = subst (λ (l : List ℕ). Room l c.args.out.now) (sym (word_partial _ _ c.in-Partial.is)) c.requires

pub returns-in-Flat : goal.returns-in-Flat
returns-in-Flat c = wrote_as (word_flat _ _ c.in-Flat.is) c.short_line.ensures

pub returns-in-Stuck : goal.returns-in-Stuck
returns-in-Stuck c = wrote_as (word_stuck _ _ _ c.in-Stuck.is) c.short_line-in-Stuck.ensures

pub returns-in-Partial : goal.returns-in-Partial
returns-in-Partial c = wrote_as (word_partial _ _ c.in-Partial.is) c.short_line-in-Partial.ensures
