-- Lands walked along the turns t: of a land its first dart and its length are kept, and no more.
--   land_from t n d               d, the next dart, the one after that, .. : n darts
--   next_by t n d                 the dart n steps after d
--   lands_along t firsts lens     for each first dart and length the land of that length from that dart on
--   lands t firsts lens count    the first `count` of those lands
--   first_fit ends cs ls          how many of the lands ls stand before the first that visits every port of cs; all of them where none does
--   fitting count i              the number i where it is below count, and none otherwise
--   Below n l, BelowAll n ls     every number of l, of every list of ls, is below n
--   Darts t l                    the darts of l have turns in t, and so have their reverses
--   Walkable t firsts lens count the first `count` lands can be walked
--   Gives steps s l              an iterator that is at s gives the numbers of l, one after another, and no more
--   Sought ends p d l r          what a search along l, the darts from d on, tells of port p
--   Written l old new r          a lent buffer before and after l was written at its start, and how many were written
-- Assumes nothing.
use Rattle.std.specs.Prelude.{◌≡◌, cond, List, [], ◌∷◌, ◌++◌, ℕ, zero, suc, ◌%◌, ◌<◌, ◌≤◌, length, take, drop, ltb, Option, Some, None}
use Rattle.std.specs.Coded.{×_prop, Unit-prop, le_prop}
use Rattle.std.specs.Iterator.{AlwaysYields}
use Rattle.rules.specs.Lists.{all}
use Rattle.rules.specs.Terms.{missing, next, visits}
use Rattle.rules.specs.Laying.{first, last, before, since}
use Rattle.land.specs.declared.Seen.{Seen}

unfoldable pub land_from : List ℕ → ℕ → ℕ → List ℕ
land_from t zero d = []
land_from t (suc n) d = d ∷ land_from t n (next t d)

unfoldable pub next_by : List ℕ → ℕ → ℕ → ℕ
next_by t zero d = d
next_by t (suc n) d = next_by t n (next t d)

unfoldable pub lands_along : List ℕ → List ℕ → List ℕ → List (List ℕ)
lands_along t [] ns = []
lands_along t (d ∷ ds) [] = []
lands_along t (d ∷ ds) (n ∷ ns) = land_from t n d ∷ lands_along t ds ns

abbrev pub lands : List ℕ → List ℕ → List ℕ → ℕ → List (List ℕ)
lands t firsts lens count = lands_along t (take count firsts) (take count lens)

unfoldable pub first_fit : List ℕ → List ℕ → List (List ℕ) → ℕ
first_fit ends cs [] = zero
first_fit ends cs (l ∷ ls) = cond (all (visits ends l) cs) zero (suc (first_fit ends cs ls))

-- number i of `count`, where there is such a number
abbrev pub fitting : ℕ → ℕ → Option ℕ
fitting count i = cond (ltb i count) (Some i) None

-- ---- what walking needs

abbrev pub Below : ℕ → List ℕ → Type 0
Below n [] = Unit {0}
Below n (d ∷ l) = (d < n) × Below n l

abbrev pub BelowAll : ℕ → List (List ℕ) → Type 0
BelowAll n [] = Unit {0}
BelowAll n (l ∷ ls) = Below n l × BelowAll n ls

-- The darts come in pairs, each the other's reverse, and none is the mark of a missing turn.
pub record Darts (t l : List ℕ) : Type 0 where
  pub even : length t % 2 ≡ 0
  pub few : length t ≤ missing
  pub inside : Below (length t) l

-- each of these facts has one proof at most, so that a type may hold it
pub Below-prop : (n : ℕ) (l : List ℕ) → IsProp (Below n l)
Below-prop n [] = Unit-prop
Below-prop n (d ∷ l) = ×_prop le_prop (Below-prop n l)

pub BelowAll-prop : (n : ℕ) (ls : List (List ℕ)) → IsProp (BelowAll n ls)
BelowAll-prop n [] = Unit-prop
BelowAll-prop n (l ∷ ls) = ×_prop (Below-prop n l) (BelowAll-prop n ls)

pub ruleset walk_props = (Below-prop, BelowAll-prop)

pub record Walkable (t firsts lens : List ℕ) (count : ℕ) : Type 0 where
  pub even : length t % 2 ≡ 0
  pub few : length t ≤ missing
  pub starts : count ≤ length firsts
  pub sizes : count ≤ length lens
  pub inside : BelowAll (length t) (lands t firsts lens count)

-- ---- what an iterator gives

-- Every run of it from s on gives the numbers of l, and ends there.
pub record Gives {S : Type 0} (steps : S → Option ℕ → S → Type 0) (s : S) (l : List ℕ) : Type 0 where
  pub runs : AlwaysYields steps (λ x. x) s l

-- ---- what a search for a port tells

-- The first dart of l that leaves p, how many stand before it, and the one directly before it: d itself where none does.
pub record Sought (ends : List ℕ) (p d : ℕ) (l : List ℕ) (r : Seen) : Type 0 where
  pub dart : r.dart ≡ first (since ends p l)
  pub steps : r.steps ≡ length (before ends p l)
  pub last : r.last ≡ last (d ∷ before ends p l)

-- ---- what writing leaves

pub record Written (l old new : List ℕ) (r : ℕ) : Type 0 where
  pub count : r ≡ length l
  pub held : new ≡ l ++ drop (length l) old
