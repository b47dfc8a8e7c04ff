-- `draft::write_sheet` meets its contract: a file that is refused, a buffer too short and a plate that is laid are the three cases of the call (Calling).
-- Assumes nothing.
use mathlib.Core.Path.{◌≡◌}
use native.Mathlib.Omega.{arith}
use borrow.Author.Rules.{rules}
use Rattle.std.specs.Prelude.{Err}
use Rattle.plate.proofs.Laws.{Known, known, read_is, length_sheet}
use Rattle.draft.proofs.Calling.{unread_all, short_all}
use Rattle.draft.proofs.write_sheet.Goals as goal
use Rattle.draft.proofs.write_sheet.Goals.{In_ok-p}

-- the plate that was read
plate : (c : In_ok-p) → Known c.args.file.now c.in_ok-p.p
plate c = known _ _ c.read.ensures _ c.in_ok-p.was

pub returns-in_err-p : goal.returns-in_err-p
returns-in_err-p c =
    let err : c.from_residual.result ≡ Err c.in_err-p.field-0.0 = search rules in
    let w = unread_all _ _ c.read.ensures _ (c.in_err-p.was) _ err c.args.out.now in
    record { answer = w.0; sheet = w.1 }

pub overflow_mul-turns_at : goal.overflow_mul-turns_at
overflow_mul-turns_at c = omega (arith, (plate (goal.at.overflow_mul-turns_at c).In_ok-p).most_channels_lem)

pub overflow_add-turns_at : goal.overflow_add-turns_at
overflow_add-turns_at c = omega (arith, (plate (goal.at.overflow_add-turns_at c).In_ok-p).most_channels_lem)

pub overflow_mul-needed : goal.overflow_mul-needed
overflow_mul-needed c = omega (arith, (plate (goal.at.overflow_mul-needed c).In_ok-p).most_channels_lem)

pub overflow_mul-needed-2 : goal.overflow_mul-needed-2
overflow_mul-needed-2 c = omega (arith, (plate (goal.at.overflow_mul-needed-2 c).In_ok-p).most_channels_lem)

pub overflow_add-needed : goal.overflow_add-needed
overflow_add-needed c = omega (arith, (plate (goal.at.overflow_add-needed c).In_ok-p).most_channels_lem)

pub returns-then-out-needed : goal.returns-then-out-needed
returns-then-out-needed c =
    let w = short_all _ _ (plate (goal.at.returns-then-out-needed c).In_ok-p) c.args.out.now (omega (arith, c.if-out-needed.true, length_sheet c.in_ok-p.p.channels)) in
    record { answer = w.0; sheet = w.1 }

pub lay_sheet-requires : goal.lay_sheet-requires
lay_sheet-requires c = record { plate = read_is _ _ c.read.ensures _ (c.in_ok-p.was); room = omega (arith, c.if-out-needed.false, length_sheet c.in_ok-p.p.channels) }
