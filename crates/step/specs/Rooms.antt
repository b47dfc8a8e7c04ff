-- The room that a laying works in, and what its steps ask and leave: v ports, the ends of the darts, the channels in play.
--   Plan v ends play                a plate that can be laid by the channels in play
--   Roomy v e d                     each slice of the desk d has a place for each of v ports, and `own` for each of e channels
--   contacts_at v ends play lp k     the contacts of the fragment that channel k names, lp being the laid ports
--   path_at v ends play lp k         the path that is laid for it
--   Passable v ends play lp k       it has two contacts at least, and a path between the two smallest
--   Crossed v ends play lp k ..     that path stands at the front of a slice, and the fragment's channels are flagged
--   forgotten own bars              two numbers for each channel, with zeros for those that own flags
--   Standing v ends play s ..       the slices hold the state s: its turns, its lands by first darts and lengths, and its story; and they have room for more
--   Chosen v ends play s c ..       so they do, and c is a choice for s with an admissible land, as the code tells it
-- Assumes nothing.
use Rattle.std.specs.Prelude.{◌≡◌, Bool, true, cond, ◌||◌, List, ◌++◌, map, ℕ, ◌+◌, ◌*◌, ◌/◌, ◌<◌, ◌≤◌, T, eqb, length, get_or, take, drop}
use Rattle.rules.specs.Lists.{from, at}
use Rattle.rules.specs.Terms.{missing}
use Rattle.rules.specs.Ways.{only, iter, larger, path}
use Rattle.rules.specs.Laying.{State, Choice, within, fragment_at, contacts_of, first_cycle}
use Rattle.laws.proofs.Euler.{length_all}
use Rattle.laws.proofs.Reaches.{Wide}
use Rattle.laws.proofs.Choices.{Open, Sensible}
use Rattle.laws.proofs.Rounds.{Layable, Kept}
use Rattle.split.proofs.Laws.{Holds}
use Rattle.fragment.specs.declared.Desk.{Desk}
use Rattle.fragment.specs.Rounds.{laid_by}
use Rattle.step.specs.declared.Way.{Way}
use Rattle.step.specs.Stories.{story_of}

pub record Plan (v : ℕ) (ends : List ℕ) (play : List Bool) : Type 0 where
  pub layable : Layable v ends play
  pub wide : Wide ends play
  pub some : (c : ℕ) × T (at play c)
  pub small : v < missing

pub record Roomy (v e : ℕ) (d : Desk) : Type 0 where
  pub of_marks : length d.marks.now ≡ v
  pub of_queue : length d.queue.now ≡ v
  pub of_touched : length d.touched.now ≡ v
  pub of_contacts : length d.contacts.now ≡ v
  pub of_inside : length d.inside.now ≡ v
  pub of_own : length d.own.now ≡ e

-- ---- the path of a fragment

abbrev pub contacts_at : ℕ → List ℕ → List Bool → List Bool → ℕ → List ℕ
contacts_at v ends play lp k = contacts_of v ends play lp (fragment_at v ends play lp k)

abbrev pub path_at : ℕ → List ℕ → List Bool → List Bool → ℕ → List ℕ
path_at v ends play lp k =
    path v ends (within v ends play (fragment_at v ends play lp k)) (at (fragment_at v ends play lp k).ports)
    (get_or (contacts_at v ends play lp k) 0 0) (get_or (contacts_at v ends play lp k) 1 0)

pub record Passable (v : ℕ) (ends : List ℕ) (play lp : List Bool) (k : ℕ) : Type 0 where
  pub channel : at play k ≡ true
  pub two : 2 ≤ length (contacts_at v ends play lp k)
  pub x : get_or (contacts_at v ends play lp k) 0 0 < v
  pub y : get_or (contacts_at v ends play lp k) 1 0 < v
  pub reached : T (at (iter (larger ends (within v ends play (fragment_at v ends play lp k)) (λ p. at (fragment_at v ends play lp k).ports p || eqb p (get_or (contacts_at v ends play lp k) 0 0))) v
      (only v (get_or (contacts_at v ends play lp k) 1 0))) (get_or (contacts_at v ends play lp k) 0 0))

pub record Crossed (v : ℕ) (ends : List ℕ) (play lp : List Bool) (k : ℕ) (out out' : List ℕ) (own' : List Bool) (r : Way) : Type 0 where
  pub x : r.x ≡ get_or (contacts_at v ends play lp k) 0 0
  pub y : r.y ≡ get_or (contacts_at v ends play lp k) 1 0
  pub size : r.size ≡ length (path_at v ends play lp k)
  pub held : out' ≡ path_at v ends play lp k ++ drop (length (path_at v ends play lp k)) out
  pub own : own' ≡ map (λ j. within v ends play (fragment_at v ends play lp k) (2 * j)) (from 0 (length play))

-- ---- what is known of the lands

unfoldable pub forgotten : List Bool → List ℕ → List ℕ
forgotten own bars = map (λ j. cond (at own (j / 2)) 0 (get_or bars j 0)) (from 0 (length bars))

-- ---- the state that is held

pub record Standing (v : ℕ) (ends : List ℕ) (play : List Bool) (s : State) (turns firsts lens story : List ℕ) (count place : ℕ) : Type 0 where
  pub kept : Kept ends play s
  pub holds : Holds s turns firsts lens count
  pub starts : length play + 2 ≤ length firsts
  pub sizes : length play + 2 ≤ length lens
  pub room : 4 * length play + v + 4 ≤ length story
  pub told : take place story ≡ story_of (first_cycle v ends play) s.paths
  -- one for the cycle, three for each path, and one for each laid channel
  pub long : 2 * place ≡ 2 + 6 * length s.paths + length_all s.lands

pub record Chosen (v : ℕ) (ends : List ℕ) (play : List Bool) (s : State) (c : Choice) (turns firsts lens story : List ℕ) (count place : ℕ) (lp : List Bool) (name land : ℕ) : Type 0 where
  pub stands : Standing v ends play s turns firsts lens story count place
  pub sensible : Sensible v ends play s c
  pub opens : Open c
  pub ports : lp ≡ laid_by v ends turns
  pub names : name ≡ c.fragment.name
  pub lands : land ≡ get_or c.fits 0 0
