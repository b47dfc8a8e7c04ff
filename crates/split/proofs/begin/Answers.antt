-- `split::begin` meets its contract: on a blank sheet the turns are led round the cycle and its reverse; these are two sound lands, so that each is walked from a dart of the cycle's first channel, and its smallest dart and length are those of the land as it is listed.
-- Assumes nothing.
use mathlib.Core.Path.{◌≡◌, refl, ap, ◌∙◌}
use mathlib.Core.List.{List}
use Prim.Native.Nat.{ℕ}
use native.Mathlib.Omega.{arith}
use lib.ListN.{length, replicate}
use Rattle.std.proofs.Common.{rules}
use Rattle.rules.specs.Terms.{missing}
use Rattle.rules.specs.Laying.{back, around}
use Rattle.split.proofs.Cycling.{begin_darts, begin_cycle, begin_back, begun}
use Rattle.split.proofs.begin.Goals as goal
use Rattle.split.proofs.begin.Goals.{After-close, After-fill}

blank : (c : After-fill) → c.fill.new.self ≡ replicate (length c.args.laying.now.turns.now) missing
blank c =
    let filled : c.fill.new.self ≡ replicate (length c.args.laying.now.turns.now) c.args.mark = search rules in
    filled ∙ ap (replicate (length c.args.laying.now.turns.now)) c.requires.mark_value

-- the turns lead round the cycle and its reverse
led : (c : After-close) → (c.fill.new.self ≡ replicate (length c.args.laying.now.turns.now) missing)
    → c.close.new.turns ≡ around c.args.cycle.now (around (back c.args.cycle.now) (replicate (length c.args.laying.now.turns.now) missing))
led c blank = c.close.ensures ∙ ap (λ (t : List ℕ). around c.args.cycle.now (around (back c.args.cycle.now) t)) blank

pub close-requires : goal.close-requires
close-requires c =
    let C = c.requires.cyclic in
    record { darts = begin_darts _ _ _ _ C _ (blank (goal.at.close-requires c).After-fill); cycle_nonzero = omega (arith, C.some) }

pub renew-requires : goal.renew-requires
renew-requires c =
    let C = c.requires.cyclic in
    let w = begin_cycle _ _ _ _ C _ refl _ (led (goal.at.renew-requires c).After-close (blank (goal.at.renew-requires c).After-fill)) in
    record { darts = w.0; n_nonzero = (w.1, w.2); k_in_bounds = (omega (arith, C.starts), omega (arith, C.sizes)) }

pub renew-requires-2 : goal.renew-requires-2
renew-requires-2 c =
    let was = goal.at.renew-requires-2 c in
    let C = c.requires.cyclic in
    let f = refl in
    let h = begin_cycle _ _ _ _ C _ f _ (led was.After-close (blank was.After-fill)) in
    record { darts = rw c.renew.ensures.turns_after (begin_back _ _ _ _ C _ f _ (led was.After-close (blank was.After-fill)) _ c.reverse.ensures); n_nonzero = (h.1, h.2); k_in_bounds = search rules }

pub returns-clause-begun : goal.returns-clause-begun
returns-clause-begun c =
    rw (c.renew-2.ensures.turns_after, c.renew.ensures.turns_after)
    (begun _ _ _ _ c.requires.cyclic _ refl _ (led (goal.at.returns-clause-begun c).After-close (blank (goal.at.returns-clause-begun c).After-fill)) _ c.reverse.ensures _ _ _ _ c.renew.ensures.firsts_after c.renew.ensures.lens_after (rw c.renew.ensures.turns_after at c.renew-2.ensures.firsts_after) c.renew-2.ensures.lens_after)
