-- `split::divide` meets its contract: the stretches found are those of the land, so the turns are those of the split; the new turns and lands are sound, so that each new land is walked from the first dart of its stretch, and its smallest dart and length are those of the land as it is listed.
-- Assumes nothing.
use mathlib.Core.Path.{refl, sym, subst}
use mathlib.Core.List.{List, []}
use Prim.Native.Nat.{ℕ, ◌+◌, ◌<◌}
use native.Mathlib.Omega.{arith}
use lib.ListN.{length, get_or}
use Rattle.std.proofs.Common.{rules}
use Rattle.land.specs.Walks.{land_from, lands, Darts}
use Rattle.split.specs.Halves.{Found}
use Rattle.split.proofs.Dividing.{divide_land, divide_corners, divide_ends, divide_kept, divide_made, divided}
use Rattle.split.proofs.divide.Goals as goal
use Rattle.split.proofs.divide.Goals.{After-stretches_at, After-turn}

-- the stretches are those of land i
found : (c : After-stretches_at)
    → Found c.args.ends.now c.args.x c.args.y (get_or (lands c.args.laying.now.turns.now c.args.laying.now.firsts.now c.args.laying.now.lens.now c.args.laying.now.count) c.args.i []) c.stretches_at.result
found c =
    subst (λ (l : List ℕ). Found c.args.ends.now c.args.x c.args.y l c.stretches_at.result)
    (sym (divide_land _ _ _ _ _ _ _ _ _ c.requires _ _ refl refl)) c.stretches_at.ensures

-- what is walked of the new lands
kept : (c : After-turn) → (Found c.args.ends.now c.args.x c.args.y (get_or (lands c.args.laying.now.turns.now c.args.laying.now.firsts.now c.args.laying.now.lens.now c.args.laying.now.count) c.args.i []) c.stretches_at.result)
    → let b = c.stretches_at.result.b in
    let m = length c.args.path.now + b.size in
    Darts c.turn.new.turns (land_from c.turn.new.turns m b.first) × (0 < m) × (m < 65536)
kept c found = divide_kept _ _ _ _ _ _ _ _ _ c.requires _ _ found.a found.b _ c.turn.ensures

made : (c : After-turn) → (Found c.args.ends.now c.args.x c.args.y (get_or (lands c.args.laying.now.turns.now c.args.laying.now.firsts.now c.args.laying.now.lens.now c.args.laying.now.count) c.args.i []) c.stretches_at.result)
    → let a = c.stretches_at.result.a in
    let m = length c.args.path.now + a.size in
    Darts c.turn.new.turns (land_from c.turn.new.turns m a.first) × (0 < m) × (m < 65536)
made c found = divide_made _ _ _ _ _ _ _ _ _ c.requires _ _ found.a found.b _ c.turn.ensures

pub stretches_at-requires : goal.stretches_at-requires
stretches_at-requires c =
    let h = divide_corners _ _ _ _ _ _ _ _ _ c.requires _ _ refl refl in
    record { land = h.0.land; darts = h.1; ends_len = c.requires.ports; x_nonzero = h.0.apart; t = (h.0.visits_x, h.0.visits_y) }

pub turn-requires : goal.turn-requires
turn-requires c =
    let w = divide_ends _ _ _ _ _ _ _ _ _ c.requires _ _ (found (goal.at.turn-requires c).After-stretches_at).a (found (goal.at.turn-requires c).After-stretches_at).b in
    record { darts = w.0; darts_2 = w.1 }

pub overflow_add-n : goal.overflow_add-n
overflow_add-n c = omega (arith, (kept (goal.at.overflow_add-n c).After-turn (found (goal.at.overflow_add-n c).After-stretches_at)).2)

pub renew-requires : goal.renew-requires
renew-requires c =
    let w = kept (goal.at.renew-requires c).After-turn (found (goal.at.renew-requires c).After-stretches_at) in
    let D = c.requires in
    record { darts = w.0; n_nonzero = (w.1, w.2); k_in_bounds = (omega (arith, D.land, D.starts), omega (arith, D.land, D.sizes)) }

pub overflow_add-n-2 : goal.overflow_add-n-2
overflow_add-n-2 c = omega (arith, (made (goal.at.overflow_add-n-2 c).After-turn (found (goal.at.overflow_add-n-2 c).After-stretches_at)).2)

pub renew-requires-2 : goal.renew-requires-2
renew-requires-2 c =
    let w = made (goal.at.renew-requires-2 c).After-turn (found (goal.at.renew-requires-2 c).After-stretches_at) in
    let D = c.requires in
    record { darts = rw c.renew.ensures.turns_after w.0; n_nonzero = (w.1, w.2); k_in_bounds = search rules }

pub returns-clause-divided : goal.returns-clause-divided
returns-clause-divided c =
    let h = found (goal.at.returns-clause-divided c).After-stretches_at in
    rw (c.renew-2.ensures.turns_after, c.renew.ensures.turns_after)
    (divided _ _ _ _ _ _ _ _ _ c.requires _ _ h.a h.b _ c.turn.ensures _ _ _ _ c.renew.ensures.firsts_after c.renew.ensures.lens_after (rw (c.renew.ensures.turns_after, c.renew.ensures.count) at c.renew-2.ensures.firsts_after) (rw c.renew.ensures.count at c.renew-2.ensures.lens_after))
