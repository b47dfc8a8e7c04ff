-- Ports marked with their distance to a port. The marks are one list, far: at p stands the mark of port p, 65,535 where it has none.
--   Sizes v ends                       ports and darts are each fewer than 65,535
--   free_or free x p                    port p is free, or x
--   begun v y                          of v ports, port y marked 0 and no other marked
--   lowered far p j                    far with port p marked j, where its mark was larger
--   within far j                       the ports marked j or less
--   below far k                        the sets of ports marked at most k − 1, .., 1, 0
--   Passed ends ok free x j far far'   far has become far' by pass j: the marks up to j are as they were, and what a usable dart joins to those, free or x, is marked at most j + 1
--   reached_by v ends ok free x y n     of v ports, those that n channels link to y through free ports and x
--   sets v ends ok free x y            the sets that the path from x to y descends through (rules, "Ways")
--   path_over ends ok free x y          the path from x to y (rules, "Ways") by the channels of `ok` through the ports of `free`
--   AllDarts ends q                    every number of q is a dart
--   number_of b                        the number of dart b, and the mark of a missing turn where there is none
--   dart_of d                          dart d, and none where d is the mark of a missing turn
-- Assumes nothing.
use Rattle.std.specs.Prelude.{◌≡◌, Bool, cond, ◌||◌, List, [], ◌∷◌, map, Option, Some, None, unwrap_or, ℕ, zero, suc, ◌<◌, ◌≤◌, eqb, leb, ltb, length, get_or, set, replicate}
use Rattle.rules.specs.Lists.{from, at}
use Rattle.rules.specs.Terms.{missing, there}
use Rattle.rules.specs.Ways.{only, iter, grow, larger, layers, in_play, path}
use Rattle.laws.proofs.Lists.{All}

-- ---- what the functions ask

pub record Sizes (v : ℕ) (ends : List ℕ) : Type 0 where
  pub few : length ends < missing
  pub small : v < missing

abbrev pub free_or : List Bool → ℕ → ℕ → Bool
free_or free x p = at free p || eqb p x

-- ---- marks

abbrev pub begun : ℕ → ℕ → List ℕ
begun v y = set (replicate v missing) y 0

unfoldable pub lowered : List ℕ → ℕ → ℕ → List ℕ
lowered far p j = cond (ltb j (get_or far p 0)) (set far p j) far

unfoldable pub within : List ℕ → ℕ → List Bool
within far j = map (λ n. leb n j) far

unfoldable pub below : List ℕ → ℕ → List (List Bool)
below far zero = []
below far (suc k) = within far k ∷ below far k

-- ---- passes

pub record Passed (ends : List ℕ) (ok free : List Bool) (x j : ℕ) (far far' : List ℕ) : Type 0 where
  pub size : length far' ≡ length far
  pub kept : (i : ℕ) → i ≤ j → within far' i ≡ within far i
  pub grown : (i : ℕ) → j < i → i < missing
      → within far' i ≡ grow ends (in_play ok) (free_or free x) (within far j) (from 0 (length ends)) (within far i)

abbrev pub reached_by : ℕ → List ℕ → List Bool → List Bool → ℕ → ℕ → ℕ → List Bool
reached_by v ends ok free x y n = iter (larger ends (in_play ok) (free_or free x)) n (only v y)

abbrev pub sets : ℕ → List ℕ → List Bool → List Bool → ℕ → ℕ → List (List Bool)
sets v ends ok free x y = layers ends (in_play ok) (free_or free x) x (suc v) (only v y) []

-- ---- the path

abbrev pub path_over : List ℕ → List Bool → List Bool → ℕ → ℕ → List ℕ
path_over ends ok free x y = path (length free) ends (in_play ok) (at free) x y

abbrev pub AllDarts : List ℕ → List ℕ → Type 0
AllDarts ends q = All (λ d. d < length ends) q

-- ---- a dart, or none

abbrev pub number_of : Option ℕ → ℕ
number_of b = unwrap_or b missing

abbrev pub dart_of : ℕ → Option ℕ
dart_of d = cond (there d) (Some d) None
