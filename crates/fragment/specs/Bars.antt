-- What the rounds so far have told of the lands: for each channel in play two numbers, at the places of its two darts.
--   Passed ends cs ls a b           of the lands ls, no land below a, and none between a and b, visits every contact of cs
--   Bars v ends play t ls bars      so it is of the two numbers of each channel in play, for the contacts of its fragment; and every number is at most that of the lands
--   Moved ends cs ls k bars bars'   the two numbers of channel k are told anew, for the contacts cs, and every other is as it was
-- Assumes nothing.
use Rattle.std.specs.Prelude.{◌≡◌, ◌≢◌, Bool, false, List, [], ℕ, ◌+◌, ◌*◌, ◌<◌, ◌≤◌, T, length, get_or}
use Rattle.rules.specs.Lists.{at, all}
use Rattle.rules.specs.Terms.{visits}
use Rattle.rules.specs.Laying.{fragment_at, contacts_of}
use Rattle.fragment.specs.Rounds.{laid_by}

pub record Passed (ends cs : List ℕ) (ls : List (List ℕ)) (a b : ℕ) : Type 0 where
  pub first : a ≤ length ls
  pub second : b ≤ length ls
  pub low : (i : ℕ) → i < a → all (visits ends (get_or ls i [])) cs ≡ false
  pub between : (i : ℕ) → a < i → i < b → all (visits ends (get_or ls i [])) cs ≡ false

pub record Bars (v : ℕ) (ends : List ℕ) (play : List Bool) (t : List ℕ) (ls : List (List ℕ)) (bars : List ℕ) : Type 0 where
  pub long : length bars ≡ length ends
  pub most : (j : ℕ) → get_or bars j 0 ≤ length ls
  pub told : (k : ℕ) → T (at play k) → Passed ends (contacts_of v ends play (laid_by v ends t) (fragment_at v ends play (laid_by v ends t) k)) ls (get_or bars (2 * k) 0) (get_or bars (2 * k + 1) 0)

pub record Moved (ends cs : List ℕ) (ls : List (List ℕ)) (k : ℕ) (bars bars' : List ℕ) : Type 0 where
  pub long : length bars' ≡ length bars
  pub passed : Passed ends cs ls (get_or bars' (2 * k) 0) (get_or bars' (2 * k + 1) 0)
  pub others : (j : ℕ) → j ≢ 2 * k → j ≢ 2 * k + 1 → get_or bars' j 0 ≡ get_or bars j 0
