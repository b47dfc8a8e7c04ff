-- The plate of a file that was read, as its pairs are copied and all its channels put in play.
-- plan_of: it can be laid. pairs_as: the pairs copied. play_as: the channels all in play. same_ends, same_play: they are those of the plate.
-- Assumes nothing.
use mathlib.Core.Path.{◌≡◌, refl, ap, ◌∙◌}
use mathlib.Core.Bool.{Bool, true}
use mathlib.Core.List.{List}
use Prim.Native.Nat.{ℕ, ◌/◌, ◌≤◌}
use native.Mathlib.Omega.{arith}
use lib.ListN.{length, take, replicate}
use Rattle.rules.specs.Files.{limits1}
use Rattle.rules.specs.Refusals.{Plate as RulePlate, pairs_of}
use Rattle.rules.specs.Laying.{whole_plate}
use Rattle.laws.proofs.Lists.{take_replicate}
use Rattle.laws.proofs.Reaches.{wide_of}
use Rattle.laws.proofs.Reading.{Accepted, accepted, layable, channel_play}
use Rattle.plate.specs.declared.Plate.{Plate}
use Rattle.plate.specs.State.{most_darts, all_channels, copied}
use Rattle.plate.proofs.Laws.{plate_in, Known, pairs_ends, copied_front}
use Rattle.step.specs.Rooms.{Plan}

pub plan_of : (p : RulePlate) → Accepted p → Plan p.ports p.ends (whole_plate p)
plan_of p A = record { layable = layable p A; wide = wide_of p.ports p.ends (whole_plate p) A.ports.0 A.uncut; some = (0, channel_play p A); small = omega (arith, A.ports.1) }

pub pairs_as : (pairs old ends : List ℕ) → most_darts ≡ length old → length pairs ≤ most_darts → ends ≡ copied pairs old → take (length pairs) ends ≡ pairs
pairs_as pairs old ends e h q = ap (take (length pairs)) q ∙ copied_front pairs old (length pairs) refl (omega arith)

pub play_as : (n : ℕ) (play : List Bool) → n ≤ limits1.most_channels → play ≡ all_channels → take n play ≡ replicate n true
unfolding all_channels
play_as n play h e = ap (take n) e ∙ take_replicate n limits1.most_channels true h

module _ (b : List ℕ) (p : Plate) (k : Known b p) (pairs : List ℕ) (e : pairs ≡ pairs_of b) where
  pub same_ends : pairs ≡ (plate_in b).ends
  same_ends = e ∙ pairs_ends b p k

  pub same_play : replicate (length pairs / 2) true ≡ whole_plate (plate_in b)
  same_play =
      let z : length pairs / 2 ≡ (plate_in b).channels = omega (arith, ap length same_ends, (accepted b (plate_in b) k.answer).size) in
      ap (λ (m : ℕ). replicate m true) z
