-- Fragments, as the code meets them: v ports, the ends of the darts, the channels in play, and the laid ports lp.
--   Loopless ends                   no channel has both ends at one port
--   over play t k                   channel k is laid, or not in play
--   seed_port ends lp k             the port from which the fragment of channel k spreads: its first end where that is unlaid, else its second; none where both are laid
--   Unmarked ends lp m k            that port, where there is one, is not among the marks m
--   touch ends play lp d s          s with the port that dart d enters, where d is in play and the port is laid
--   touch_all ends play lp ds s      s after the darts ds, one after another
--   touch_from ends play lp ps s     s after the darts of the ports ps, one port after another
--   rising a b                      a and b, the smaller first
--   Named v ends play lp k f        f is the fragment of a channel in play below k
--   Marked v ends play lp fs k m    fs are fragments of channels below k, and the marks m are the laid ports and the ports of fs
--   Shut ends play lp m             the marks m hold the laid ports, and with an unlaid port each unlaid port that a channel in play joins to it
--   Spread v ends play lp k m m' q n       the fragment of channel k has spread over its n ports: they join the marks m to make m', and the queue q lists them
--   Contacts v ends play lp k m m' c r     the first r of c are the contacts of the fragment of channel k, and its ports join the marks m to make m'
-- Assumes nothing.
use Rattle.std.specs.Prelude.{◌≡◌, ◌≢◌, ⊤, Bool, true, false, cond, not, ◌&&◌, ◌||◌, List, [], ◌∷◌, ℕ, ◌*◌, ◌≤◌, ◌<◌, T, ltb, length, set, take, Option, Some, None, MatchOption}
use Rattle.rules.specs.Lists.{any, at}
use Rattle.rules.specs.Terms.{leaves, enters, laid, darts_at}
use Rattle.rules.specs.Ways.{in_play}
use Rattle.rules.specs.Laying.{Fragment, fragment_at, contacts_of}
use Rattle.laws.proofs.Counts.{flag, count}
use Rattle.laws.proofs.Lists.{All}
use Rattle.reach.specs.Floods.{joined}

abbrev pub Loopless : List ℕ → Type 0
Loopless ends = (d : ℕ) → d < length ends → leaves ends d ≢ enters ends d

unfoldable pub over : List Bool → List ℕ → ℕ → Bool
over play t k = laid t (2 * k) || not (at play k)

unfoldable pub seed_port : List ℕ → List Bool → ℕ → Option ℕ
seed_port ends lp k = cond (at lp (leaves ends (2 * k))) (cond (at lp (enters ends (2 * k))) None (Some (enters ends (2 * k)))) (Some (leaves ends (2 * k)))

abbrev pub Unmarked : List ℕ → List Bool → List Bool → ℕ → Type 0
Unmarked ends lp marks k = MatchOption (seed_port ends lp k) ⊤ (λ p. at marks p ≡ false)

-- ---- the laid ports that a fragment touches

unfoldable pub touch : List ℕ → List Bool → List Bool → ℕ → List Bool → List Bool
touch ends play lp d s = cond (in_play play d && at lp (enters ends d)) (set s (enters ends d) true) s

unfoldable pub touch_all : List ℕ → List Bool → List Bool → List ℕ → List Bool → List Bool
touch_all ends play lp [] s = s
touch_all ends play lp (d ∷ ds) s = touch_all ends play lp ds (touch ends play lp d s)

unfoldable pub touch_from : List ℕ → List Bool → List Bool → List ℕ → List Bool → List Bool
touch_from ends play lp [] s = s
touch_from ends play lp (p ∷ ps) s = touch_from ends play lp ps (touch_all ends play lp (darts_at ends p) s)

unfoldable pub rising : ℕ → ℕ → List ℕ
rising a b = cond (ltb a b) (a ∷ b ∷ []) (b ∷ a ∷ [])

-- ---- the ports that are marked

abbrev pub Named : ℕ → List ℕ → List Bool → List Bool → ℕ → Fragment → Type 0
Named v ends play lp k f = (j : ℕ) × (j < k) × T (at play j) × (f ≡ fragment_at v ends play lp j)

pub record Marked (v : ℕ) (ends : List ℕ) (play lp : List Bool) (fs : List Fragment) (k : ℕ) (marks : List Bool) : Type 0 where
  pub long : length marks ≡ v
  pub named : All (Named v ends play lp k) fs
  pub ports : (p : ℕ) → at marks p ≡ (at lp p || any (λ f. at f.ports p) fs)

pub record Shut (ends : List ℕ) (play lp marks : List Bool) : Type 0 where
  pub long : length marks ≡ length lp
  pub holds : (p : ℕ) → T (at lp p) → T (at marks p)
  pub shut : (d : ℕ) → T (in_play play d) → T (not (at lp (leaves ends d))) → T (not (at lp (enters ends d))) → T (at marks (leaves ends d)) → T (at marks (enters ends d))

-- ---- the contacts of one fragment

pub record Spread (v : ℕ) (ends : List ℕ) (play lp : List Bool) (k : ℕ) (marks marks' : List Bool) (queue' : List ℕ) (n : ℕ) : Type 0 where
  pub marked : marks' ≡ joined marks (fragment_at v ends play lp k).ports
  pub listed : (z : ℕ) → count z (take n queue') ≡ flag (at (fragment_at v ends play lp k).ports z)
  pub most : n ≤ length queue'

pub record Contacts (v : ℕ) (ends : List ℕ) (play lp : List Bool) (k : ℕ) (marks marks' : List Bool) (contacts' : List ℕ) (r : ℕ) : Type 0 where
  pub most : r ≤ length contacts'
  pub list : take r contacts' ≡ contacts_of v ends play lp (fragment_at v ends play lp k)
  pub marked : marks' ≡ joined marks (fragment_at v ends play lp k).ports
