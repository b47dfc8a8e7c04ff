-- Each of the mill's two calls has one result: two results that meet its postcondition (`Reads.Post`, which is its `ensures`) for the same arguments are equal (plate, `OneResult`).
--   Result        what writing a sheet leaves: the number, and the buffer lent
-- Assumes nothing.
use mathlib.Core.Path.{◌≡◌, sym, ◌∙◌}
use mathlib.Core.List.{List}
use Prim.Native.Nat.{ℕ}
use Rattle.plate.proofs.Unique.{OneResult}
use Rattle.mill.proofs.plate_write_sheet.Kinds as write-kinds
use Rattle.mill.proofs.plate_write_sheet.Reads as write-reads
use Rattle.mill.proofs.plate_judge_sheet.Kinds as judge-kinds
use Rattle.mill.proofs.plate_judge_sheet.Reads as judge-reads

pub record Result : Type 0 where
  pub number : ℕ
  pub out : List ℕ

same : (x y : Result) → x.number ≡ y.number → x.out ≡ y.out → x ≡ y
same x y n o i = record { number = n i; out = o i }

pub plate_write_sheet_unique : OneResult 2 write-kinds.ps write-kinds.r Result write-reads.Post (λ κs r x. record { number = r; out = x.1.0.now })
plate_write_sheet_unique κs a r s x y p q = same _ _ (p.0 ∙ sym q.0) (p.1 ∙ sym q.1)

pub plate_judge_sheet_unique : OneResult 1 judge-kinds.ps judge-kinds.r ℕ judge-reads.Post (λ κs r x. r)
plate_judge_sheet_unique κs a r s x y p q = p ∙ sym q
