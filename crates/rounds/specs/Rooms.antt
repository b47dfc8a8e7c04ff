-- What laying path after path keeps and leaves in the slices: v ports, the ends of the darts, the channels in play.
--   Under v ends play n ..      they hold a state on the way of laying at most n paths
--   Round v ends play n ..      so they do, the working slices have their sizes, no slice has another length or place than at first, and what is told of the lands holds
--   Left v ends play n ..       they hold what laying at most n paths leaves, the answer says so, and the neighbours of the ports stand in the two tables
-- Assumes nothing.
use Rattle.std.specs.Prelude.{◌≡◌, Bool, List, ℕ, ◌-◌, ◌≤◌, length, take}
use Rattle.rules.specs.Laying.{State, rounds, first_cycle, laying}
use Rattle.reach.specs.Floods.{Tables}
use Rattle.land.specs.Walks.{lands}
use Rattle.split.specs.declared.Laying.{Laying}
use Rattle.split.specs.Kept.{Kept}
use Rattle.split.proofs.Laws.{Holds}
use Rattle.fragment.specs.declared.Desk.{Desk}
use Rattle.fragment.specs.Desks.{Kept as DeskKept}
use Rattle.fragment.specs.Bars.{Bars}
use Rattle.step.specs.Stories.{story_of}
use Rattle.step.specs.Rooms.{Roomy, Standing}
use Rattle.rounds.specs.declared.End.{End}
use Rattle.rounds.specs.Words.{said_by, said_of}

pub record Under (v : ℕ) (ends : List ℕ) (play : List Bool) (n : ℕ) (turns firsts lens story : List ℕ) (count place : ℕ) : Type 0 where
  pub state : State
  pub stands : Standing v ends play state turns firsts lens story count place
  pub most : length state.paths ≤ n
  pub goes : rounds v ends play (n - length state.paths) state ≡ laying v ends play n

pub record Round (v : ℕ) (ends : List ℕ) (play : List Bool) (n : ℕ) (l₀ l : Laying) (laid : List Bool) (d₀ d : Desk) (story₀ story : List ℕ) (place : ℕ) (numbers : List ℕ) : Type 0 where
  pub under : Under v ends play n l.turns.now l.firsts.now l.lens.now story l.count place
  pub ports : length laid ≡ v
  pub roomy : Roomy v (length play) d
  pub of_laying : Kept l₀ l
  pub of_desk : DeskKept d₀ d
  pub of_story : length story ≡ length story₀
  pub bars : Bars v ends play l.turns.now (lands l.turns.now l.firsts.now l.lens.now l.count) numbers

pub record Left (v : ℕ) (ends : List ℕ) (play : List Bool) (n : ℕ) (first more turns firsts lens story : List ℕ) (r : End) : Type 0 where
  pub said : said_by r ≡ said_of (laying v ends play n)
  pub holds : Holds (laying v ends play n).state turns firsts lens r.lands
  pub told : take r.story story ≡ story_of (first_cycle v ends play) (laying v ends play n).state.paths
  pub most : r.story ≤ length story
  pub tables : Tables v ends first more
