-- The slices that a laying works in.
--   Lent v d        the slices of the desk d that contacts are found in have a place for each of v ports, and port numbers fit 16 bits
--   Kept d d'       the desk d' has the references of the desk d, and each slice is as long as it was
-- Assumes nothing.
use Rattle.std.specs.Prelude.{◌≡◌, ℕ, ◌≤◌, length}
use Rattle.fragment.specs.declared.Desk.{Desk}

pub record Lent (v : ℕ) (d : Desk) : Type 0 where
  pub small : v ≤ 65536
  pub of_marks : length d.marks.now ≡ v
  pub of_queue : length d.queue.now ≡ v
  pub of_touched : length d.touched.now ≡ v
  pub of_contacts : length d.contacts.now ≡ v

abbrev pub Kept : Desk → Desk → Type 0
Kept d d' =
    (d'.marks.ghost_name ≡ d.marks.ghost_name) × (length d'.marks.now ≡ length d.marks.now)
    × (d'.queue.ghost_name ≡ d.queue.ghost_name) × (length d'.queue.now ≡ length d.queue.now)
    × (d'.touched.ghost_name ≡ d.touched.ghost_name) × (length d'.touched.now ≡ length d.touched.now)
    × (d'.contacts.ghost_name ≡ d.contacts.ghost_name) × (length d'.contacts.now ≡ length d.contacts.now)
    × (d'.inside.ghost_name ≡ d.inside.ghost_name) × (length d'.inside.now ≡ length d.inside.now)
    × (d'.own.ghost_name ≡ d.own.ghost_name) × (length d'.own.now ≡ length d.own.now)
