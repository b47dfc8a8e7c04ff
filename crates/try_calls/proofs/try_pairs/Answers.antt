-- `try_calls::try_pairs` meets its contract: what the reader hands back are the file's pairs.
-- Assumes nothing.
use mathlib.Core.Path.{◌≡◌, ap, ◌∙◌}
use mathlib.Core.List.{List}
use Prim.Native.Nat.{ℕ}
use lib.ListN.{length}
use Rattle.rules.specs.Refusals.{pairs_of}
use Rattle.plate.specs.State.{copied}
use Rattle.plate.proofs.Laws.{part_told}
use Rattle.try_calls.proofs.try_pairs.Goals as goal

pub returns : goal.returns
returns c =
    let e : c.pairs-pairs.result.now ≡ pairs_of c.args.file.now = part_told _ _ c.read.ensures _ c.pairs-pairs.ensures in
    record { count = ap length e; ends = c.copy_ends.ensures ∙ ap (λ (p : List ℕ). copied p c.args.ends.now) e }
