-- The listing call has one result: two results that meet its postcondition (`Reads.Post`, which is its `ensures`) for the same arguments are equal (plate, `OneResult`).
--   Listed        what listing leaves: the answer, and the buffer lent
-- listed_unique: two answers that stand for the same are the same.
-- Assumes nothing.
use mathlib.Core.Path.{◌≡◌, sym, ap, ◌∙◌}
use mathlib.Core.List.{List}
use Prim.Native.Nat.{ℕ}
use Rattle.std.specs.Prelude.{Result, Ok, Err}
use Rattle.laws.proofs.Refusals.{given_inj, refused_not}
use Rattle.plate.specs.declared.Refusal.{Refusal}
use Rattle.plate.specs.Answers.{number_of}
use Rattle.plate.proofs.Laws.{refusal_unique}
use Rattle.plate.proofs.Unique.{OneResult}
use Rattle.text.specs.Calls.{listed_answer}
use Rattle.text.proofs.listing.Kinds as listing-kinds
use Rattle.text.proofs.listing.Reads as listing-reads

-- ---- an answer is determined by what it stands for

pub listed_unique : (r s : Result ℕ Refusal) → listed_answer r ≡ listed_answer s → r ≡ s
unfolding listed_answer
listed_unique (Ok n) (Ok m) e = ap Ok (given_inj _ _ e)
listed_unique (Ok n) (Err y) e = absurd (refused_not (number_of y.fault) y.place n (sym e))
listed_unique (Err x) (Ok m) e = absurd (refused_not (number_of x.fault) x.place m e)
listed_unique (Err x) (Err y) e = ap Err (refusal_unique x y e)

-- ---- the call

pub record Listed : Type 0 where
  pub answer : Result ℕ Refusal
  pub out : List ℕ

same : (x y : Listed) → x.answer ≡ y.answer → x.out ≡ y.out → x ≡ y
same x y a o i = record { answer = a i; out = o i }

pub listing_unique : OneResult 2 listing-kinds.ps listing-kinds.r Listed listing-reads.Post (λ κs r x. record { answer = r; out = x.1.0.now })
listing_unique κs a r s x y p q = same _ _ (listed_unique r s (p.0 ∙ sym q.0)) (p.1 ∙ sym q.1)
