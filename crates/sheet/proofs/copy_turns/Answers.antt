-- `sheet::copy_turns` meets its contract. The loop's invariant: the first i turns are copied.
-- Assumes nothing.
use mathlib.Core.Path.{refl}
use native.Mathlib.Omega.{arith}
use Rattle.rules.specs.Lists.{numbers}
use Rattle.sheet.proofs.Copying.{turn_more}
use Rattle.sheet.proofs.copy_turns.Goals as goal

pub loop-i-init : goal.loop-i-init
unfolding numbers
loop-i-init c = refl

pub loop-i-preserved : goal.loop-i-preserved
loop-i-preserved c = turn_more c.args.file.now c.loop-i.turns _ _ _ (omega arith) c.loop-i.invariant c.from_le_bytes.ensures
