-- `plate::ends_in` meets its contract: the pairs that the file has are copied into an array of 0.
-- Assumes nothing.
use mathlib.Core.Path.{sym, ap, ◌∙◌}
use lib.ListN.{length, take, drop}
use Prim.Native.Nat.{◌-◌}
use Rattle.rules.specs.Files.{plate_file, pairs_at, turns_at}
use Rattle.rules.specs.Refusals.{pairs_part}
use Rattle.plate.specs.Answers.{reading_by}
use Rattle.plate.specs.State.{no_ends, copied, ends_had}
use Rattle.plate.proofs.Laws.{length_copied}
use Rattle.plate.proofs.ends_in.Goals as goal

pub returns : goal.returns
unfolding reading_by pairs_part ends_had
returns c =
    (c.copy_ends.ensures ∙ rw c.no_ends-ends.ensures.0 (ap (λ p. copied p no_ends) (c.pairs.ensures (λ x. (0, 0)) ∙ ap (λ n. take (turns_at plate_file n - pairs_at plate_file) (drop (pairs_at plate_file) c.args.file.now)) c.counts.ensures.1)), c.no_ends-ends.ensures.1 ∙ sym (ap length c.copy_ends.ensures ∙ length_copied _ _))
