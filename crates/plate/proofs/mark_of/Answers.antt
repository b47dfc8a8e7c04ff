-- `plate::mark_of` meets its contract: the marks are the bytes of their texts.
-- Assumes nothing.
use mathlib.Core.Path.{sym, ap}
use Rattle.rules.specs.Lists.{text}
use Rattle.rules.specs.Files.{Format}
use Rattle.plate.proofs.Stages.{kind_plate, kind_sheet}
use Rattle.plate.proofs.mark_of.Goals as goal

pub returns-in-Plate : goal.returns-in-Plate
unfolding text
returns-in-Plate c = sym (ap (λ (f : Format). f.mark) (kind_plate _ c.in-Plate.is))

pub returns-in-Sheet : goal.returns-in-Sheet
unfolding text
returns-in-Sheet c = sym (ap (λ (f : Format). f.mark) (kind_sheet _ c.in-Sheet.is))
