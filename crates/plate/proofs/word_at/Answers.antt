-- `plate::word_at` meets its contract: a number in two bytes is the first and 256 times the second.
-- Assumes nothing.
use native.Mathlib.Omega.{arith}
use Rattle.plate.proofs.Laws.{number_two}
use Rattle.plate.proofs.word_at.Goals as goal

pub returns : goal.returns
returns c = omega (arith, number_two c.args.i c.args.file.now)
