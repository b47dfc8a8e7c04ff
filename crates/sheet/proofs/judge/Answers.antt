-- `sheet::judge` meets its contract: it reads into buffers for the largest plate, which are never too short.
-- Assumes nothing.
use mathlib.Core.Path.{ap, ◌∙◌}
use native.Mathlib.Omega.{arith}
use Rattle.std.proofs.Common.{lit≤}
use Rattle.rules.specs.Sheets.{counted}
use Rattle.sheet.proofs.Reading.{judge_same}
use Rattle.sheet.proofs.judge.Goals as goal

pub returns : goal.returns
returns c = c.read_sheet.ensures.answer ∙ ap counted (judge_same _ _ _ (omega (arith, c.no_turns-darts.ensures.1)) (lit≤ tt))
