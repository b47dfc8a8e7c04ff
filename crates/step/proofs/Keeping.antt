-- A desk that keeps its references and lengths (fragment, "Desks").
-- desk_then: what keeps them twice keeps them. roomy_then: and its slices have the places that they had.
-- Assumes nothing.
use mathlib.Core.Path.{◌∙◌}
use Prim.Native.Nat.{ℕ}
use Rattle.fragment.specs.declared.Desk.{Desk}
use Rattle.fragment.specs.Desks.{Kept}
use Rattle.step.specs.Rooms.{Roomy}

pub desk_then : (d e f : Desk) → Kept d e → Kept e f → Kept d f
desk_then d e f a b = (b.0 ∙ a.0, b.1 ∙ a.1, b.2 ∙ a.2, b.3 ∙ a.3, b.4 ∙ a.4, b.5 ∙ a.5, b.6 ∙ a.6, b.7 ∙ a.7, b.8 ∙ a.8, b.9 ∙ a.9, b.10 ∙ a.10, b.11 ∙ a.11)

pub roomy_then : (v n : ℕ) (d e : Desk) → Roomy v n d → Kept d e → Roomy v n e
roomy_then v n d e r k = record { of_marks = k.1 ∙ r.of_marks; of_queue = k.3 ∙ r.of_queue; of_touched = k.5 ∙ r.of_touched; of_contacts = k.7 ∙ r.of_contacts; of_inside = k.9 ∙ r.of_inside; of_own = k.11 ∙ r.of_own }
