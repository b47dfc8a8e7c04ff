-- `plate::piece_tests` meets its contract: the part of the flags that is in play is every channel.
-- Assumes nothing.
use mathlib.Core.Path.{◌∙◌}
use Rattle.plate.proofs.Rooms.{whole_tests}
use Rattle.plate.proofs.piece_tests.Goals as goal

pub returns : goal.returns
returns c = c.room_tests.ensures ∙ whole_tests _ _ c.requires _ _ c.no_marks-marks.ensures.1 c.all_channels-play.ensures.0
