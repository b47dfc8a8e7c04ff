-- What laying a plate asks and leaves, in slices that are just as long as is needed.
--   Fit v ends play n ..      a plate that can be laid by the channels in play, within the limits, and the three slices that it fills
--   Sheet v ends play n ..    the three slices hold what laying at most n paths leaves, and the answer says so
-- Assumes nothing.
use Rattle.std.specs.Prelude.{◌≡◌, Bool, List, ◌++◌, map, ℕ, ◌-◌, ◌≤◌, length, replicate}
use Rattle.rules.specs.Lists.{concat}
use Rattle.rules.specs.Terms.{missing}
use Rattle.rules.specs.Files.{limits1}
use Rattle.rules.specs.Laying.{laying}
use Rattle.rounds.specs.Words.{said_of}
use Rattle.step.specs.Rooms.{Plan}
use Rattle.laid.specs.declared.Laid.{Laid}
use Rattle.laid.specs.Answers.{told_of}

pub record Fit (v : ℕ) (ends : List ℕ) (play : List Bool) (n : ℕ) (turns lands lengths : List ℕ) : Type 0 where
  pub plan : Plan v ends play
  pub ports : v ≤ limits1.most_ports
  pub channels : length play ≤ limits1.most_channels
  pub of_turns : length turns ≡ length ends
  pub of_lands : length lands ≡ length ends
  pub of_lengths : length (laying v ends play n).state.lands ≤ length lengths

pub record Sheet (v : ℕ) (ends : List ℕ) (play : List Bool) (n m : ℕ) (turns lands lengths : List ℕ) (r : Laid) : Type 0 where
  pub said : told_of r ≡ said_of (laying v ends play n)
  pub of_turns : turns ≡ (laying v ends play n).state.turns
  pub of_lands : lands ≡ concat (laying v ends play n).state.lands ++ replicate (length ends - length (concat (laying v ends play n).state.lands)) missing
  -- m lengths are there to fill
  pub of_lengths : lengths ≡ map length (laying v ends play n).state.lands ++ replicate (m - length (laying v ends play n).state.lands) 0
