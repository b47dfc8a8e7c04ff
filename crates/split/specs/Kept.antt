-- The references of a laying.
--   Kept l m      the laying m has the references of the laying l, and each slice is as long as it was
-- Assumes nothing.
use Rattle.std.specs.Prelude.{◌≡◌, length}
use Rattle.split.specs.declared.Laying.{Laying}

abbrev pub Kept : Laying → Laying → Type 0
Kept l m =
    (m.turns.ghost_name ≡ l.turns.ghost_name) × (length m.turns.now ≡ length l.turns.now)
    × (m.firsts.ghost_name ≡ l.firsts.ghost_name) × (length m.firsts.now ≡ length l.firsts.now)
    × (m.lens.ghost_name ≡ l.lens.ghost_name) × (length m.lens.now ≡ length l.lens.now)
