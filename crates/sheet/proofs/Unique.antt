-- Each of the two calls on a turn sheet has one result: two results that meet its postcondition (`Reads.Post`, which is its `ensures`) for the same arguments are equal (plate, `OneResult`).
--   Result        what reading a sheet leaves: the answer, and the two slices lent
-- Assumes nothing.
use mathlib.Core.Path.{◌≡◌, sym, ◌∙◌}
use mathlib.Core.List.{List}
use Prim.Native.Nat.{ℕ}
use Rattle.std.specs.Prelude.{Result as Answered}
use Rattle.plate.specs.declared.Refusal.{Refusal}
use Rattle.plate.proofs.Unique.{OneResult}
use Rattle.sheet.specs.declared.Count.{Count}
use Rattle.sheet.proofs.Reading.{answer_unique}
use Rattle.sheet.proofs.read_sheet.Kinds as read-kinds
use Rattle.sheet.proofs.read_sheet.Reads as read-reads
use Rattle.sheet.proofs.judge.Kinds as judge-kinds
use Rattle.sheet.proofs.judge.Reads as judge-reads

pub record Result : Type 0 where
  pub answer : Answered Count Refusal
  pub darts : List ℕ
  pub lengths : List ℕ

same : (x y : Result) → x.answer ≡ y.answer → x.darts ≡ y.darts → x.lengths ≡ y.lengths → x ≡ y
same x y a d l i = record { answer = a i; darts = d i; lengths = l i }

pub read_sheet_unique : OneResult 3 read-kinds.ps read-kinds.r Result read-reads.Post (λ κs r x. record { answer = r; darts = x.1.0.now; lengths = x.1.1.0.now })
read_sheet_unique κs a r s x y p q = same _ _ (answer_unique r s (p.0 ∙ sym q.0)) (p.1.0 ∙ sym q.1.0) (p.1.1 ∙ sym q.1.1)

pub judge_unique : OneResult 1 judge-kinds.ps judge-kinds.r (Answered Count Refusal) judge-reads.Post (λ κs r x. r)
judge_unique κs a r s x y p q = answer_unique r s (p ∙ sym q)
