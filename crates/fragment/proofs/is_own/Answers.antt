-- `fragment::is_own` meets its contract: a channel in play is one of the fragment's where it names it, or its first end is inside, or its second.
-- Assumes nothing.
use mathlib.Core.Path.{sym, ◌∙◌}
use mathlib.Core.Logic.{inl, inr}
use Prim.Native.Nat.{◌+◌, ◌*◌}
use native.Mathlib.Omega.{arith}
use Rattle.rules.specs.Lists.{at}
use Rattle.rules.specs.Terms.{leaves}
use Rattle.laws.proofs.Tests.{eqb_yes}
use Rattle.fragment.proofs.Owning.{own_out, own_first, own_second}
use Rattle.fragment.proofs.is_own.Goals as goal
use Rattle.fragment.proofs.is_own.Goals.{then-j-k, else-j-k}

pub bounds-inside-a : goal.bounds-inside-a
unfolding leaves
bounds-inside-a c = rw c.requires.ports (c.args.net.sized.ports (2 * c.args.j) (omega (arith, c.args.net.sized.channels)))

pub bounds-inside-b : goal.bounds-inside-b
unfolding leaves
bounds-inside-b c = rw c.requires.ports (c.args.net.sized.ports (2 * c.args.j + 1) (omega (arith, c.args.net.sized.channels)))

pub returns-else-net-j : goal.returns-else-net-j
unfolding at
returns-else-net-j c = c.if-net-j.false ∙ sym (own_out _ c.args.net.ends.now c.args.net.play.now _ c.args.inside.now _ c.if-net-j.false)

pub returns-then-inside-a : goal.returns-then-inside-a
unfolding at
returns-then-inside-a c =
    c.if-inside-a.true ∙ sym (own_first _ c.args.net.ends.now c.args.net.play.now c.args.k c.args.inside.now c.args.j c.if-net-j.true c.if-j-k.value (elim c.if-j-k.branch [
      | then-j-k w ↦ inl (w.if-j-k.true, w.value-is ∙ eqb_yes _ _ w.if-j-k.true)
      | else-j-k w ↦ inr (w.if-j-k.false, w.value-is)
    ]) c.if-inside-a.true)

pub returns-else-inside-a : goal.returns-else-inside-a
unfolding at
returns-else-inside-a c =
    sym (own_second _ c.args.net.ends.now c.args.net.play.now c.args.k c.args.inside.now c.args.j c.if-net-j.true c.if-j-k.value (elim c.if-j-k.branch [
      | then-j-k w ↦ inl (w.if-j-k.true, w.value-is ∙ eqb_yes _ _ w.if-j-k.true)
      | else-j-k w ↦ inr (w.if-j-k.false, w.value-is)
    ]) c.if-inside-a.false)
