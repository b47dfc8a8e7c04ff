-- The laying call has one result: two results that meet its postcondition (`Reads.Post`, which is its `ensures`) for the same arguments are equal (plate, `OneResult`).
-- Assumes nothing.
use mathlib.Core.Path.{sym, ◌∙◌}
use Rattle.std.specs.Prelude.{Result}
use Rattle.plate.specs.declared.Refusal.{Refusal}
use Rattle.plate.proofs.Unique.{OneResult}
use Rattle.laid.specs.declared.Laid.{Laid}
use Rattle.laid.proofs.Unique.{LeftBy, same, laid_unique}
use Rattle.lay.proofs.lay.Kinds as lay-kinds
use Rattle.lay.proofs.lay.Reads as lay-reads

pub lay_unique : OneResult 4 lay-kinds.ps lay-kinds.r (LeftBy (Result Laid Refusal)) lay-reads.Post (λ κs r x. record { answer = r; turns = x.1.1.0.now; lands = x.1.1.1.0.now; lengths = x.1.1.1.1.0.now })
lay_unique κs a r s x y p q = same _ _ (laid_unique r s (p.0 ∙ sym q.0)) (p.1.0 ∙ sym q.1.0) (p.1.1.0 ∙ sym q.1.1.0) (p.1.1.1 ∙ sym q.1.1.1)
