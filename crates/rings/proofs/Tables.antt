-- The start of an array that is lent from there.
-- front_length, back_length: the start of an array, and an array whose start came back.
-- Assumes nothing.
use mathlib.Core.Path.{◌≡◌, sym}
use mathlib.Core.List.{List, ◌++◌}
use Prim.Native.Nat.{ℕ, ◌≤◌}
use native.Mathlib.Omega.{arith}
use lib.ListN.{length, take, drop, length-append, length-drop}
use lib.Seq.{length-take-le}

pub front_length : (n : ℕ) (l : List ℕ) → n ≤ length l → n ≡ length (take n l)
front_length n l h = sym (length-take-le n l h)

-- a part that came back, and the rest
pub back_length : (l old : List ℕ) (n : ℕ) → length l ≡ n → n ≤ length old → length (l ++ drop n old) ≡ length old
back_length l old n e h = simp (length-append, length-drop) (omega arith)
