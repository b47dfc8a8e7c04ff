-- What the searches of tests 10 and 11 are lent.
--   Lent v marks queue      room for the marks and the queue of a flood over v ports, which are two at least and have numbers of 16 bits
-- Assumes nothing.
use Rattle.std.specs.Prelude.{◌≡◌, Bool, List, ℕ, ◌≤◌, ◌<◌, length}

pub record Lent (v : ℕ) (marks : List Bool) (queue : List ℕ) : Type 0 where
  pub ports : length marks ≡ v
  pub places : length queue ≡ length marks
  pub some : 2 ≤ length marks
  pub few : length marks < 65536
