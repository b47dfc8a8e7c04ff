-- Writing a sheet has one result: two results that meet its postcondition (`Reads.Post`, which is its `ensures`) for the same arguments are equal (plate, `OneResult`).
--   Written        what writing a sheet leaves: the answer, and the buffer lent
-- written_unique: two answers that stand for the same are the same.
-- Assumes nothing.
use mathlib.Core.Path.{◌≡◌, refl, sym, ap, ◌∙◌}
use mathlib.Core.List.{List}
use Prim.Native.Nat.{ℕ}
use Rattle.std.specs.Prelude.{Result, Ok, Err}
use Rattle.laws.proofs.Refusals.{refused_not}
use Rattle.plate.specs.declared.Refusal.{Refusal}
use Rattle.plate.specs.Answers.{number_of}
use Rattle.plate.proofs.Laws.{refusal_unique}
use Rattle.plate.proofs.Unique.{OneResult}
use Rattle.draft.specs.Answers.{written_answer}
use Rattle.draft.proofs.write_sheet.Kinds as write-kinds
use Rattle.draft.proofs.write_sheet.Reads as write-reads

-- ---- an answer is determined by what it stands for

pub written_unique : (r s : Result (Unit {0}) Refusal) → written_answer r ≡ written_answer s → r ≡ s
unfolding written_answer
written_unique (Ok u) (Ok v) e = refl
written_unique (Ok u) (Err y) e = absurd (refused_not (number_of y.fault) y.place tt (sym e))
written_unique (Err x) (Ok v) e = absurd (refused_not (number_of x.fault) x.place tt e)
written_unique (Err x) (Err y) e = ap Err (refusal_unique x y e)

-- ---- the call

pub record Written : Type 0 where
  pub answer : Result (Unit {0}) Refusal
  pub out : List ℕ

same : (x y : Written) → x.answer ≡ y.answer → x.out ≡ y.out → x ≡ y
same x y a o i = record { answer = a i; out = o i }

pub write_sheet_unique : OneResult 2 write-kinds.ps write-kinds.r Written write-reads.Post (λ κs r x. record { answer = r; out = x.1.0.now })
write_sheet_unique κs a r s x y p q = same _ _ (written_unique r s (p.0 ∙ sym q.0)) (p.1 ∙ sym q.1)
