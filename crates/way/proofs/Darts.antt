-- Laws of a plate's sizes: the reverse of a dart is a dart, and what a dart leaves and enters are ports.
-- no_first, as_second: two tests in a row, by the one that decides.
-- Assumes nothing.
use mathlib.Core.Path.{◌≡◌}
use mathlib.Core.Bool.{Bool, true, false, ◌&&◌}
use mathlib.Core.List.{List}
use Prim.Native.Nat.{ℕ, ◌*◌, ◌<◌}
use native.Mathlib.Omega.{arith}
use lib.ListN.{length}
use Rattle.rules.specs.Terms.{reverse, leaves, enters}
use Rattle.reach.specs.Floods.{Sized}

pub reverse_dart : (n m d : ℕ) → n ≡ 2 * m → d < n → reverse d < n
unfolding reverse
reverse_dart n m d e h = omega arith

module _ (v : ℕ) (ends : List ℕ) (ok : List Bool) (s : Sized v ends ok) (d : ℕ) (h : d < length ends) where
  pub turned : reverse d < length ends
  turned = reverse_dart (length ends) (length ok) d s.channels h

  pub left_port : leaves ends d < v
  left_port = s.ports d h

  pub entered_port : enters ends d < v
  unfolding enters leaves
  entered_port = s.ports (reverse d) turned

-- ---- two tests, left at the first that decides

pub no_first : (a b : Bool) → a ≡ false → false ≡ (a && b)
no_first a b e = rw e

pub as_second : (a b : Bool) → a ≡ true → b ≡ (a && b)
as_second a b e = rw e
