-- What the next round says, as the code finds it: fragment by fragment, in order of name.
--   two_of cs                  the first two of the contacts cs
--   weighed k fits            what the fragment of name k weighs, which has the admissible lands `fits`: the choice of it with the lowest, and whether that is the only one; nothing where there is none
--   held_of c                  what the fragment of the choice c weighs
--   preferred h n             of what is held, h, where something is, and of what comes later, n, the one to hold: what has exactly one land goes before
--   laid_by v ends t           the laid ports
--   state_of t ls              the state with turns t and lands ls
--   verdict_of j               a judgement, as the code tells it: of a choice the fragment's name and its lowest admissible land
--   Weighs v ends play lp ls k m m' w        the fragment of channel k weighs w, and its ports join the marks m to make m'
-- Assumes nothing.
use Rattle.std.specs.Prelude.{◌≡◌, Bool, false, cond, not, ◌||◌, List, [], ◌∷◌, ℕ, eqb, length, get_or, replicate, Option, Some, None}
use Rattle.rules.specs.Lists.{from}
use Rattle.rules.specs.Laying.{State, Choice, Verdict, flat, stuck, ready, laid_ports, fragment_at, choice_of}
use Rattle.reach.specs.Floods.{joined}
use Rattle.fragment.specs.declared.Two.{Two}
use Rattle.fragment.specs.declared.Weight.{Weight}
use Rattle.fragment.specs.declared.Verdict.{Verdict as Told}
use Rattle.fragment.specs.declared.Verdict.TheVariants.{Flat, Stuck, Ready}

abbrev pub two_of : List ℕ → Two
two_of cs = record { x = get_or cs 0 0; y = get_or cs 1 0 }

abbrev pub weighed : ℕ → List ℕ → Option Weight
weighed k [] = None
weighed k (l ∷ fits) = Some (record { choice = record { name = k; land = l }; only = eqb (length (l ∷ fits)) 1 })

abbrev pub held_of : Choice → Option Weight
held_of c = weighed c.fragment.name c.fits

abbrev pub preferred : Option Weight → Weight → Weight
preferred None n = n
preferred (Some h) n = cond (h.only || not n.only) h n

abbrev pub laid_by : ℕ → List ℕ → List ℕ → List Bool
laid_by v ends t = laid_ports ends t (from 0 (length ends)) (replicate v false)

abbrev pub state_of : List ℕ → List (List ℕ) → State
state_of t ls = record { turns = t; lands = ls; paths = [] }

abbrev pub verdict_of : Verdict → Told
verdict_of flat = Flat
verdict_of (stuck k) = Stuck k
verdict_of (ready c) = Ready (record { name = c.fragment.name; land = get_or c.fits 0 0 })

-- The fragment of channel k weighs w, and its ports are marked.
pub record Weighs (v : ℕ) (ends : List ℕ) (play lp : List Bool) (ls : List (List ℕ)) (k : ℕ) (marks marks' : List Bool) (w : Option Weight) : Type 0 where
  pub weight : w ≡ weighed k (choice_of v ends play lp ls (fragment_at v ends play lp k)).fits
  pub marked : marks' ≡ joined marks (fragment_at v ends play lp k).ports
