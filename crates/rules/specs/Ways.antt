-- Ways through a plate, by usable darts and through free ports (for refusals 10 and 11, fragments and paths). A set of ports is a list of flags, one for each port.
--   only n p                         of n ports, port p alone
--   iter f n s                       the step f taken n times from s
--   larger ends ok free s            s with the free ports that one usable dart joins to it
--   reached n ends play free p       of n ports, those that channels in play link to port p through free ports
--   path n ends ok free x y          the path from x to y: fewest channels, then smallest list of ports
-- Assumes nothing.
use Rattle.std.specs.Prelude.{Bool, true, false, cond, not, ◌&&◌, ◌||◌, List, [], ◌∷◌, ℕ, zero, suc, ◌/◌, eqb, ltb, length, set, replicate}
use Rattle.rules.specs.Lists.{from, at}
use Rattle.rules.specs.Terms.{missing, there, leaves, enters}

abbrev pub only : ℕ → ℕ → List Bool
only n p = set (replicate n false) p true

unfoldable pub iter : (List Bool → List Bool) → ℕ → List Bool → List Bool
iter f zero s = s
iter f (suc n) s = iter f n (f s)

module _ (ends : List ℕ) where
  -- the free port that dart d leaves joins r, where d is usable and enters s
  unfoldable pub mark : (ℕ → Bool) → (ℕ → Bool) → List Bool → ℕ → List Bool → List Bool
  mark ok free s d r = cond (ok d && at s (enters ends d) && free (leaves ends d)) (set r (leaves ends d) true) r

  -- r with the free ports that a usable dart of ds joins to s
  unfoldable pub grow : (ℕ → Bool) → (ℕ → Bool) → List Bool → List ℕ → List Bool → List Bool
  grow ok free s [] r = r
  grow ok free s (d ∷ ds) r = grow ok free s ds (mark ok free s d r)

  abbrev pub larger : (ℕ → Bool) → (ℕ → Bool) → List Bool → List Bool
  larger ok free s = grow ok free s (from 0 (length ends)) s

  -- ---- a path: from x through sets of ports ever nearer to y, each time to the smallest port

  -- the sets of ports from which y is reached by at most .., 2, 1, 0 channels, below the first that holds x: s is y alone, and ss is empty
  unfoldable pub layers : (ℕ → Bool) → (ℕ → Bool) → ℕ → ℕ → List Bool → List (List Bool) → List (List Bool)
  layers ok free x zero s ss = ss
  layers ok free x (suc n) s ss =
      let r = layers ok free x n (larger ok free s) (s ∷ ss) in
      cond (at s x) ss r

  -- dart d leaves p and leads, usable, into s
  unfoldable pub leads : (ℕ → Bool) → ℕ → List Bool → ℕ → Bool
  leads ok p s d = ok d && eqb (leaves ends d) p && at s (enters ends d)

  -- of such a dart d and the best so far, the one to the smaller port
  unfoldable pub closer : (ℕ → Bool) → ℕ → List Bool → ℕ → ℕ → ℕ
  closer ok p s d b = cond (leads ok p s d && (not (there b) || ltb (enters ends d) (enters ends b))) d b

  unfoldable pub nearest : (ℕ → Bool) → ℕ → List Bool → List ℕ → ℕ → ℕ
  nearest ok p s [] b = b
  nearest ok p s (d ∷ ds) b = nearest ok p s ds (closer ok p s d b)

  unfoldable pub descend : (ℕ → Bool) → ℕ → List (List Bool) → List ℕ
  descend ok p [] = []
  descend ok p (s ∷ ss) =
      let d = nearest ok p s (from 0 (length ends)) missing in
      d ∷ descend ok (enters ends d) ss

unfoldable pub path : ℕ → List ℕ → (ℕ → Bool) → (ℕ → Bool) → ℕ → ℕ → List ℕ
path n ends ok free x y = descend ends ok x (layers ends ok (λ p. free p || eqb p x) x (suc n) (only n y) [])

-- dart d is one of a channel in play
abbrev pub in_play : List Bool → ℕ → Bool
in_play play d = at play (d / 2)

unfoldable pub reached : ℕ → List ℕ → List Bool → (ℕ → Bool) → ℕ → List Bool
reached n ends play free p = iter (larger ends (in_play play) free) n (only n p)
