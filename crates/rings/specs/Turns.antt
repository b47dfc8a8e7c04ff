-- What tests 12 and 13 leave of the turns of a plate (document 01, "Refusal numbers").
--   InRange ends turns      one turn for each dart, and each turn is a dart
--   AtPorts ends turns      besides, each turn leaves the port that its dart leaves
-- Assumes nothing.
use Rattle.std.specs.Prelude.{◌≡◌, List, ℕ, ◌<◌, length, get_or}
use Rattle.rules.specs.Terms.{leaves}

pub record InRange (ends turns : List ℕ) : Type 0 where
  pub size : length turns ≡ length ends
  pub dart : (d : ℕ) → d < length ends → get_or turns d 0 < length ends

pub record AtPorts (ends turns : List ℕ) : Type 0 where
  pub range : InRange ends turns
  pub port : (d : ℕ) → d < length ends → leaves ends (get_or turns d 0) ≡ leaves ends d
