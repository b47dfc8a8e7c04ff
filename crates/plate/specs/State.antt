-- The state of a plate with nothing on it, at the largest size that the limits allow, and the room that tests 10 and 11 work in.
--   most_darts            the darts of a plate with the most channels
--   no_ends, no_turns      for each dart, port 0; a missing turn
--   no_ports, no_marks     for each port, the number 0; no mark
--   all_channels          every channel in play
--   copied from to       the list `to` with the elements of `from` at its start, as many as fit both
--   ends_had b           the ports of the pairs that the file b has, all that it should have or fewer
--   Whole v ends         the ends of a plate that is within the limits, all of v ports
--   Room ..              room for the neighbours, the marks and the queue of a plate
-- Assumes nothing.
use Rattle.std.specs.Prelude.{◌≡◌, Bool, true, false, List, ◌++◌, ℕ, ◌-◌, ◌*◌, ◌/◌, ◌≤◌, ◌<◌, min, length, take, drop, replicate}
use Rattle.rules.specs.Terms.{missing}
use Rattle.rules.specs.Files.{limits1, plate_file, pairs_at, turns_at, channels_in}
use Rattle.reach.specs.Neighbours.{Ports}
use Rattle.reach.specs.Floods.{Sized}

abbrev pub most_darts : ℕ
most_darts = 2 * limits1.most_channels

unfoldable pub no_ends : List ℕ
no_ends = replicate most_darts 0

unfoldable pub no_turns : List ℕ
no_turns = replicate most_darts missing

unfoldable pub no_ports : List ℕ
no_ports = replicate limits1.most_ports 0

unfoldable pub no_marks : List Bool
no_marks = replicate limits1.most_ports false

unfoldable pub all_channels : List Bool
all_channels = replicate limits1.most_channels true

unfoldable pub copied : List ℕ → List ℕ → List ℕ
copied from to = take (min (length from) (length to)) from ++ drop (min (length from) (length to)) to

unfoldable pub ends_had : List ℕ → List ℕ
ends_had b = take (turns_at plate_file (channels_in plate_file b) - pairs_at plate_file) (drop (pairs_at plate_file) b)

-- ---- the room of tests 10 and 11

pub record Whole (v : ℕ) (ends : List ℕ) : Type 0 where
  pub ports : Ports v ends
  pub some : 2 ≤ v
  pub most : v ≤ limits1.most_ports
  pub even : length ends ≡ 2 * (length ends / 2)
  pub few : length ends ≤ most_darts

pub record Room (ends : List ℕ) (play : List Bool) (first more : List ℕ) (marks : List Bool) (queue : List ℕ) : Type 0 where
  pub sized : Sized (length marks) ends play
  pub firsts : length first ≡ length marks
  pub mores : length more ≡ length ends
  pub places : length queue ≡ length marks
  pub some : 2 ≤ length marks
  pub few : length marks < 65536
  pub darts : length ends < 65536
