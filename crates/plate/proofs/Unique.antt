-- Each public call of the reader has one result: two results that meet its postcondition (`Reads.Post`, which is its `ensures`) for the same arguments are equal.
--   OneResult n ps r B Q seen      of a function with n lifetimes, parameters ps and result r: two results that meet the postcondition Q for the same arguments are the same as far as `seen` looks
-- `seen` gets the result and the parameters at exit, x.0, x.1.0, x.1.1.0 and so on. Of `pairs` it sees the contents of the part that is returned: where the part lies is not promised.
-- Assumes nothing.
use mathlib.Core.Path.{◌≡◌, sym, ◌∙◌}
use mathlib.Core.Bool.{Bool}
use mathlib.Core.List.{List}
use Prim.Native.Nat.{ℕ}
use Rattle.std.specs.Prelude.{Option, Result}
use denote.RattleType.{RattleType}
use denote.Param.Laws.{Laws}
use mir.Syntax.{Dict}
use contract.Lifetimes.{Lfts}
use denote.Triple.Clauses.{AtExit}
use borrow.Fn.Kind.{ParamKind, ResultKind}
use borrow.Fn.Kinds.{Dens, Out, res_t, ended_of}
use Rattle.plate.specs.declared.Plate.{Plate}
use Rattle.plate.specs.declared.Refusal.{Refusal}
use Rattle.plate.proofs.Laws.{plate_same, test_unique, reading_unique}
use Rattle.plate.proofs.Plate.no_ends.Kinds as no-ends-kinds
use Rattle.plate.proofs.Plate.no_ends.Reads as no-ends-reads
use Rattle.plate.proofs.Plate.no_turns.Kinds as no-turns-kinds
use Rattle.plate.proofs.Plate.no_turns.Reads as no-turns-reads
use Rattle.plate.proofs.Plate.no_ports.Kinds as no-ports-kinds
use Rattle.plate.proofs.Plate.no_ports.Reads as no-ports-reads
use Rattle.plate.proofs.Plate.no_marks.Kinds as no-marks-kinds
use Rattle.plate.proofs.Plate.no_marks.Reads as no-marks-reads
use Rattle.plate.proofs.Plate.all_channels.Kinds as all-channels-kinds
use Rattle.plate.proofs.Plate.all_channels.Reads as all-channels-reads
use Rattle.plate.proofs.refusal_in.Kinds as refusal-in-kinds
use Rattle.plate.proofs.refusal_in.Reads as refusal-in-reads
use Rattle.plate.proofs.counts.Kinds as counts-kinds
use Rattle.plate.proofs.counts.Reads as counts-reads
use Rattle.plate.proofs.copy_ends.Kinds as copy-ends-kinds
use Rattle.plate.proofs.copy_ends.Reads as copy-ends-reads
use Rattle.plate.proofs.file_tests.Kinds as file-tests-kinds
use Rattle.plate.proofs.file_tests.Reads as file-tests-reads
use Rattle.plate.proofs.read.Kinds as read-kinds
use Rattle.plate.proofs.read.Reads as read-reads
use Rattle.plate.proofs.ends_in.Kinds as ends-in-kinds
use Rattle.plate.proofs.ends_in.Reads as ends-in-reads
use Rattle.plate.proofs.Refusal.number.Kinds as number-kinds
use Rattle.plate.proofs.Refusal.number.Reads as number-reads
use Rattle.plate.proofs.pairs.Kinds as pairs-kinds
use Rattle.plate.proofs.pairs.Reads as pairs-reads

abbrev pub OneResult : (n : ℕ) (ps : List (ParamKind n)) (r : ResultKind n) (B : Type 0) → Out n ps r → ((κs : Lfts n) → (res_t r κs).Denot → AtExit (ended_of n ps r) κs → B) → Type 0
OneResult n ps r B Q seen = (κs : Lfts n) (a : Dens κs ps) (z w : (res_t r κs).Denot) (x y : AtExit (ended_of n ps r) κs) → Q κs a z x → Q κs a w y → seen κs z x ≡ seen κs w y

-- ---- the makers of an empty state

pub no_ends_unique : OneResult 0 no-ends-kinds.ps no-ends-kinds.r (List ℕ) no-ends-reads.Post (λ κs r x. r)
no_ends_unique κs a r s x y p q = p.0 ∙ sym q.0

pub no_turns_unique : OneResult 0 no-turns-kinds.ps no-turns-kinds.r (List ℕ) no-turns-reads.Post (λ κs r x. r)
no_turns_unique κs a r s x y p q = p.0 ∙ sym q.0

pub no_ports_unique : OneResult 0 no-ports-kinds.ps no-ports-kinds.r (List ℕ) no-ports-reads.Post (λ κs r x. r)
no_ports_unique κs a r s x y p q = p.0 ∙ sym q.0

pub no_marks_unique : OneResult 0 no-marks-kinds.ps no-marks-kinds.r (List Bool) no-marks-reads.Post (λ κs r x. r)
no_marks_unique κs a r s x y p q = p.0 ∙ sym q.0

pub all_channels_unique : OneResult 0 all-channels-kinds.ps all-channels-kinds.r (List Bool) all-channels-reads.Post (λ κs r x. r)
all_channels_unique κs a r s x y p q = p.0 ∙ sym q.0

-- ---- the reader

pub counts_unique : OneResult 1 counts-kinds.ps counts-kinds.r Plate counts-reads.Post (λ κs r x. r)
counts_unique κs a r s x y p q = plate_same r s (p.0 ∙ sym q.0) (p.1 ∙ sym q.1)

pub copy_ends_unique : OneResult 2 copy-ends-kinds.ps copy-ends-kinds.r (List ℕ) copy-ends-reads.Post (λ κs r x. x.1.0.now)
copy_ends_unique κs a r s x y p q = p ∙ sym q

pub file_tests_unique : OneResult 1 file-tests-kinds.ps file-tests-kinds.r (Result (Unit {0}) Refusal) file-tests-reads.Post (λ κs r x. r)
file_tests_unique κs a r s x y p q = test_unique r s (p ∙ sym q)

pub read_unique : OneResult 1 read-kinds.ps read-kinds.r (Result Plate Refusal) read-reads.Post (λ κs r x. r)
read_unique κs a r s x y p q = reading_unique a.0.now r s (p ∙ sym q)

pub refusal_in_unique : (E : RattleType) (l : Laws E) (drop : Dict) → OneResult 1 (refusal-in-kinds.ps E l) (refusal-in-kinds.r E l) (Option E.Denot) (refusal-in-reads.Post E l drop) (λ κs r x. r)
refusal_in_unique E l drop κs a r s x y p q = p ∙ sym q

pub number_unique : OneResult 0 number-kinds.ps number-kinds.r ℕ number-reads.Post (λ κs r x. r)
number_unique κs a r s x y p q = p ∙ sym q

pub ends_in_unique : OneResult 1 ends-in-kinds.ps ends-in-kinds.r (List ℕ) ends-in-reads.Post (λ κs r x. r)
ends_in_unique κs a r s x y p q = p.0 ∙ sym q.0

-- whatever type its argument has for a refusal
pub pairs_unique : (E : RattleType) (l : Laws E) (drop : Dict) → OneResult 2 (pairs-kinds.ps E l) (pairs-kinds.r E l) (List ℕ) (pairs-reads.Post E l drop) (λ κs r x. r.now)
pairs_unique E l drop κs a r s x y p q = p (λ e. (0, 0)) ∙ sym (q (λ e. (0, 0)))
