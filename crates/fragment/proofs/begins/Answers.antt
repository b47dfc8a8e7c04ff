-- `fragment::begins` meets its contract: a channel that is over is settled; another is settled where its seed port is marked (Marking), and is not where it has none.
-- Assumes nothing.
use mathlib.Core.Path.{sym, ap, ◌∙◌}
use mathlib.Core.Bool.{false, not}
use native.Mathlib.Omega.{arith}
use lib.ListN.{length, get_or-eq_default}
use Rattle.rules.specs.Lists.{at}
use Rattle.fragment.proofs.Spreading.{some_place, some_below, none_place}
use Rattle.fragment.proofs.Marking.{settled_over, settled_marked}
use Rattle.fragment.proofs.begins.Goals as goal

pub returns-then-is_over : goal.returns-then-is_over
returns-then-is_over c = λ fs m. sym (ap not (settled_over _ _ _ _ c.args.net.sized c.requires.ports fs _ _ m _ (sym c.is_over.ensures ∙ c.if-is_over.true)))

pub bounds-marks-p : goal.bounds-marks-p
bounds-marks-p c = omega (arith, some_below (length c.args.net.first.now) c.args.net.ends.now c.args.net.play.now c.args.laid.now c.args.k c.args.net.sized (omega (arith, c.args.net.sized.channels)) _ c.in-Some.ensures)

pub returns-in-Some : goal.returns-in-Some
unfolding at
returns-in-Some c = λ fs m.
    ap not (ap (at c.args.marks.now) (some_place (length c.args.net.first.now) c.args.net.ends.now c.args.net.play.now c.args.laid.now c.args.k _ c.in-Some.ensures)
    ∙ sym (settled_marked _ _ _ _ c.args.net.sized c.requires.ports fs _ _ m _ (sym c.is_over.ensures ∙ c.if-is_over.false)))

pub returns-in-None : goal.returns-in-None
unfolding at
returns-in-None c = λ fs m.
    ap not (sym (get_or-eq_default c.args.marks.now false {n = length c.args.net.first.now} (omega arith))
    ∙ ap (at c.args.marks.now) (none_place (length c.args.net.first.now) c.args.net.ends.now c.args.net.play.now c.args.laid.now c.args.k c.in-None.ensures)
    ∙ sym (settled_marked _ _ _ _ c.args.net.sized c.requires.ports fs _ _ m _ (sym c.is_over.ensures ∙ c.if-is_over.false)))
