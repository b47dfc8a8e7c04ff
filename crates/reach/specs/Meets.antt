-- The state of a flood, for the contracts of its two inner functions.
--   Met                      the marks, and the ports met so far in the order in which they were met
--   met_in marks queue n      the marks, and the first n of the queue
--   meet ends play d s       s after dart d: the port that d enters is met, where d is in play and the port has no mark
--   meet_all ends play ds s   s after the darts ds, one after another
--   Room marks queue n       the queue has a place for each mark, and its first n are distinct marked ports: so it has room for one that has no mark
--   Held s q n m' q' n'      n ports in the queue q have become n' in the queue q', and these and the marks m' are the state s
-- Assumes nothing.
use Rattle.std.specs.Prelude.{◌≡◌, Bool, true, cond, not, ◌&&◌, List, [], ◌∷◌, ◌++◌, ℕ, ◌≤◌, length, set, take, drop}
use Rattle.rules.specs.Lists.{at}
use Rattle.rules.specs.Terms.{enters}
use Rattle.rules.specs.Ways.{in_play}
use Rattle.laws.proofs.Counts.{count, flag}

pub record Met : Type 0 where
  pub marks : List Bool
  pub queue : List ℕ

abbrev pub met_in : List Bool → List ℕ → ℕ → Met
met_in marks queue n = record { marks = marks; queue = take n queue }

unfoldable pub meet : List ℕ → List Bool → ℕ → Met → Met
meet ends play d s =
    cond (in_play play d && not (at s.marks (enters ends d)))
    (record { marks = set s.marks (enters ends d) true; queue = s.queue ++ (enters ends d ∷ []) }) s

unfoldable pub meet_all : List ℕ → List Bool → List ℕ → Met → Met
meet_all ends play [] s = s
meet_all ends play (d ∷ ds) s = meet_all ends play ds (meet ends play d s)

pub record Room (marks : List Bool) (queue : List ℕ) (n : ℕ) : Type 0 where
  pub places : length queue ≡ length marks
  pub small : length marks ≤ 65536
  pub most : n ≤ length queue
  pub fair : (z : ℕ) → count z (take n queue) ≤ flag (at marks z)

pub record Held (s : Met) (q : List ℕ) (n : ℕ) (m' : List Bool) (q' : List ℕ) (n' : ℕ) : Type 0 where
  pub state : met_in m' q' n' ≡ s
  pub least : n ≤ n'
  pub most : n' ≤ length q'
  -- what stands behind them in the queue is as it was
  pub rest : drop n' q' ≡ drop n' q
  pub size : length q' ≡ length q
