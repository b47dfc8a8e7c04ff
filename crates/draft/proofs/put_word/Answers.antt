-- `draft::put_word` meets its contract: the two bytes are the lower one and the one above it.
-- Assumes nothing.
use mathlib.Core.Path.{◌∙◌}
use native.Mathlib.Omega.{arith}
use Rattle.rules.specs.Lists.{bytes}
use Rattle.draft.proofs.Bytes.{put_mid}
use Rattle.draft.proofs.put_word.Goals as goal

pub returns : goal.returns
unfolding bytes
returns c = put_mid c.args.out.now _ _ c.args.at _ (omega arith) (c.copy_from_slice.ensures.after ∙ c.to_le_bytes.ensures)
