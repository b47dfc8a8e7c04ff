-- The room that tests 10 and 11 work in (specs, `Room`).
-- room_asks: what finding the neighbours asks. whole_tests: the tests in the parts of the largest arrays.
-- Assumes nothing.
use mathlib.Core.Path.{◌≡◌}
use mathlib.Core.Bool.{Bool, true}
use mathlib.Core.List.{List}
use Prim.Native.Nat.{ℕ, ◌/◌}
use native.Mathlib.Omega.{arith}
use lib.ListN.{length, take, replicate}
use lib.Seq.{length-take-le}
use Rattle.rules.specs.Files.{limits1}
use Rattle.rules.specs.Refusals.{piece_tests}
use Rattle.laws.proofs.Lists.{take_replicate}
use Rattle.reach.specs.Neighbours.{Ports}
use Rattle.plate.specs.State.{all_channels, Whole, Room}

module _ (ends : List ℕ) (play : List Bool) (first more : List ℕ) (marks : List Bool) (queue : List ℕ) (r : Room ends play first more marks queue) where
  pub room_asks : Ports (length first) ends
  room_asks d h = rw r.firsts (r.sized.ports d h)

module _ (v : ℕ) (ends : List ℕ) (w : Whole v ends) (play marks : List Bool) where
  pub whole_tests : limits1.most_ports ≡ length marks → play ≡ all_channels → piece_tests (length (take v marks)) ends (take (length ends / 2) play) ≡ piece_tests v ends (replicate (length ends / 2) true)
  unfolding all_channels
  whole_tests n e =
      let markss : length (take v marks) ≡ v = length-take-le v marks (omega (arith, w.most)) in
      rw (markss, e, take_replicate (length ends / 2) limits1.most_channels true (omega (arith, w.few)))
