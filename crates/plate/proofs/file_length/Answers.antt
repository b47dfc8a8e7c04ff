-- `plate::file_length` meets its contract: a plate file has 8 + 2E bytes, a sheet 8 + 6E.
-- Assumes nothing.
use mathlib.Core.Path.{ap}
use native.Mathlib.Omega.{arith}
use Rattle.rules.specs.Files.{Format, file_length}
use Rattle.plate.proofs.Laws.{length_plate, length_sheet}
use Rattle.plate.proofs.Stages.{kind_plate, kind_sheet}
use Rattle.plate.proofs.file_length.Goals as goal

pub returns-in-Plate : goal.returns-in-Plate
returns-in-Plate c =
    let e = c.args.channels in
    omega (arith, length_plate e, ap (λ (f : Format). file_length f e) (kind_plate _ c.in-Plate.is))

pub returns-in-Sheet : goal.returns-in-Sheet
returns-in-Sheet c =
    let e = c.args.channels in
    omega (arith, length_sheet e, ap (λ (f : Format). file_length f e) (kind_sheet _ c.in-Sheet.is))
