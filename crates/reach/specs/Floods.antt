-- A flood: from a port to every port that channels in play link to it through ports that have no mark.
--   joined s r                        the ports of s and those of r, as many flags as s has
--   around ends play marks p          the ports that channels in play link to port p through ports without a mark
--   Sized v ends play                 every dart of `ends` leaves one of v ports, and the darts are two for each channel of `play`
--   Tables v ends first more          `first` has the first darts of v ports, and `more` has each dart's next
--   Flooded ends play m q p m' q' r   a flood from port p has made m' of the marks m and q' of the queue q, and has met r ports
-- Assumes nothing.
use Rattle.std.specs.Prelude.{◌≡◌, Bool, not, ◌||◌, List, map, ℕ, ◌*◌, ◌≤◌, length, take, drop}
use Rattle.rules.specs.Lists.{from, at}
use Rattle.rules.specs.Ways.{reached}
use Rattle.laws.proofs.Counts.{count, flag}
use Rattle.reach.specs.Neighbours.{Ports, first_darts, more_darts}

unfoldable pub joined : List Bool → List Bool → List Bool
joined s r = map (λ p. at s p || at r p) (from 0 (length s))

abbrev pub around : List ℕ → List Bool → List Bool → ℕ → List Bool
around ends play marks p = reached (length marks) ends play (λ q. not (at marks q)) p

-- ---- what a flood asks

pub record Sized (v : ℕ) (ends : List ℕ) (play : List Bool) : Type 0 where
  pub ports : Ports v ends
  pub channels : length ends ≡ 2 * length play

pub record Tables (v : ℕ) (ends first more : List ℕ) : Type 0 where
  pub firsts : first ≡ first_darts v ends
  pub mores : more ≡ more_darts ends

-- ---- what it leaves

pub record Flooded (ends : List ℕ) (play m : List Bool) (q : List ℕ) (p : ℕ) (m' : List Bool) (q' : List ℕ) (r : ℕ) : Type 0 where
  -- the ports around p are marked, and besides them just those that were
  pub marked : m' ≡ joined m (around ends play m p)
  -- the first r of the queue are the ports around p, each once
  pub listed : (z : ℕ) → count z (take r q') ≡ flag (at (around ends play m p) z)
  pub most : r ≤ length q'
  -- what stands behind them in the queue is as it was
  pub rest : drop r q' ≡ drop r q
  pub size : length q' ≡ length q
