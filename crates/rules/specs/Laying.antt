-- Document 01, "Laying", over the channels that are in play: all of them in the base. The parameters are the number of ports, the ends of the darts, and a flag for each channel in play.
--   State                what is laid: the turns, the lands in number order, the paths in the order of their laying
--   cycle c, start c     the first cycle, begun with channel c, and the state after it
--   Fragment             a fragment: its name and its ports (none where it is a channel between two laid ports)
--   Choice               a fragment with its contacts and the numbers of its admissible lands, rising
--   choices s            the fragments in order of name
--   judge s              what the next round says: flat, stuck, or ready to lay a path for a choice
--   lay s c              the state after one path
--   rounds n s           at most n paths more
--   laying n             first cycle, then at most n paths
--   lay_plate, told       the laying call, and what its answer says
--   filled               a lent buffer afterwards; turns_left, lands_left, lengths_left: the three of the laying call
-- Assumes nothing.
use Rattle.std.specs.Prelude.{Bool, true, false, cond, not, ◌&&◌, ◌||◌, List, [], ◌∷◌, ◌++◌, map, ℕ, zero, suc, ◌+◌, ◌-◌, ◌*◌, ◌/◌, eqb, length, get_or, set, drop, replicate}
use Rattle.rules.specs.Lists.{from, any, all, keep, seek, at, concat}
use Rattle.rules.specs.Terms.{missing, reverse, leaves, enters, laid, visits, listed}
use Rattle.rules.specs.Ways.{only, iter, larger, path, in_play}
use Rattle.rules.specs.Refusals.{Answer, given, refused, Plate, lent_test, read_plate, ◌>>=◌, ◌>>◌}

-- ---- the state

-- a path that was laid: the name of its fragment, the number of the land it divided, and its darts from x to y
pub record Path : Type 0 where
  pub fragment : ℕ
  pub land : ℕ
  pub darts : List ℕ

pub record State : Type 0 where
  pub turns : List ℕ
  pub lands : List (List ℕ)
  pub paths : List Path

-- ---- lists of darts

-- walked backwards
unfoldable pub back : List ℕ → List ℕ
back [] = []
back (d ∷ q) = back q ++ (reverse d ∷ [])

unfoldable pub first : List ℕ → ℕ
first [] = missing
first (d ∷ l) = d

unfoldable pub last : List ℕ → ℕ
last [] = missing
last (d ∷ []) = d
last (d ∷ e ∷ l) = last (e ∷ l)

-- the darts before the first one that leaves port p, and those from it on
unfoldable pub before : List ℕ → ℕ → List ℕ → List ℕ
before ends p [] = []
before ends p (d ∷ l) = cond (eqb (leaves ends d) p) [] (d ∷ before ends p l)

unfoldable pub since : List ℕ → ℕ → List ℕ → List ℕ
since ends p [] = []
since ends p (d ∷ l) = cond (eqb (leaves ends d) p) (d ∷ l) (since ends p l)

-- the turns t, changed so that a land goes through d, the darts of l and e
unfoldable pub link : ℕ → List ℕ → ℕ → List ℕ → List ℕ
link d [] e t = set t (reverse d) e
link d (x ∷ l) e t = link x l e (set t (reverse d) x)

-- so that l is a land
unfoldable pub around : List ℕ → List ℕ → List ℕ
around [] t = t
around (d ∷ l) t = link d l d t

-- ---- First cycle.

module _ (ports : ℕ) (ends : List ℕ) (play : List Bool) where
  -- Channel c from its first end a to its second end b, then back to a by the path without channel c that has fewest channels and, among those, the smallest list of ports compared from the front.
  unfoldable pub cycle : ℕ → List ℕ
  cycle c =
      2 * c ∷ path ports ends (λ d. in_play play d && not (eqb (d / 2) c)) (λ p. true) (enters ends (2 * c)) (leaves ends (2 * c))

  -- Land 0 holds dart 0, land 1 holds dart 1.
  unfoldable pub start : ℕ → State
  start c =
      let l = cycle c in
      let b = back l in
      record { turns = around l (around b (replicate (length ends) missing)); lands = listed l ∷ listed b ∷ []; paths = [] }

-- ---- Fragments.

pub record Fragment : Type 0 where
  pub name : ℕ
  pub ports : List Bool

pub record Choice : Type 0 where
  pub fragment : Fragment
  pub contacts : List ℕ
  pub fits : List ℕ

module _ (ends : List ℕ) where
  -- the laid ports, r and those that a laid dart of ds leaves
  unfoldable pub laid_ports : List ℕ → List ℕ → List Bool → List Bool
  laid_ports t [] r = r
  laid_ports t (d ∷ ds) r = laid_ports t ds (cond (laid t d) (set r (leaves ends d) true) r)

  -- A land is admissible when it visits all contacts cs: the numbers of those lands, the first of ls having the number i.
  unfoldable pub admissible : List ℕ → ℕ → List (List ℕ) → List ℕ
  admissible cs i [] = []
  admissible cs i (l ∷ ls) = cond (all (visits ends l) cs) (i ∷ admissible cs (suc i) ls) (admissible cs (suc i) ls)

module _ (ports : ℕ) (ends : List ℕ) (play : List Bool) where
  -- dart d is one of the fragment's: its channel is the one that names it, or touches one of its ports
  unfoldable pub within : Fragment → ℕ → Bool
  within f d = in_play play d && (eqb (d / 2) f.name || at f.ports (leaves ends d) || at f.ports (enters ends d))

  -- an unlaid end of channel k, if it has one; lp are the laid ports
  unfoldable pub seed : List Bool → ℕ → List Bool
  seed lp k =
      cond (at lp (leaves ends (2 * k)))
      (cond (at lp (enters ends (2 * k))) (replicate ports false) (only ports (enters ends (2 * k))))
      (only ports (leaves ends (2 * k)))

  -- An unlaid channel between two laid ports is one. So is each connected set of unlaid ports with every channel that touches it: the one that channel k touches, k being its lowest.
  unfoldable pub fragment_at : List Bool → ℕ → Fragment
  fragment_at lp k = record { name = k; ports = iter (larger ends (in_play play) (λ p. not (at lp p))) ports (seed lp k) }

  -- channel k is laid, or not in play, or a channel of one of the fragments fs
  unfoldable pub settled : List ℕ → List Fragment → ℕ → Bool
  settled t fs k = laid t (2 * k) || not (at play k) || any (λ f. within f (2 * k)) fs

  -- A fragment's name is its lowest channel: of the channels ks, rising, each that is not settled names one.
  unfoldable pub fragments : List ℕ → List Bool → List ℕ → List Fragment → List Fragment
  fragments t lp [] fs = fs
  fragments t lp (k ∷ ks) fs =
      let new : List Fragment = fs ++ (fragment_at lp k ∷ []) in
      fragments t lp ks (cond (settled t fs k) fs new)

  -- Its contacts are its laid ports.
  unfoldable pub contacts_of : List Bool → Fragment → List ℕ
  contacts_of lp f = keep (λ p. at lp p && any (λ d. within f d && eqb (leaves ends d) p) (from 0 (length ends))) (from 0 ports)

  -- A land is admissible for it when it visits all contacts.
  unfoldable pub choice_of : List Bool → List (List ℕ) → Fragment → Choice
  choice_of lp ls f =
      let cs = contacts_of lp f in
      record { fragment = f; contacts = cs; fits = admissible ends cs 0 ls }

  unfoldable pub choices : State → List Choice
  choices s =
      let lp = laid_ports ends s.turns (from 0 (length ends)) (replicate ports false) in
      map (choice_of lp s.lands) (fragments s.turns lp (from 0 (length play)) [])

-- ---- Each round, in this order.

-- All channels laid: FLAT.
module _ (ports : ℕ) (ends : List ℕ) (play : List Bool) where
  unfoldable pub all_laid : List ℕ → Bool
  all_laid t = all (λ k. laid t (2 * k) || not (at play k)) (from 0 (length play))

pub data Verdict : Type 0 where
  flat : Verdict
  stuck : ℕ → Verdict
  ready : Choice → Verdict

unfoldable pub without : Choice → Bool
without c = eqb (length c.fits) 0

-- Some fragment without admissible land: STUCK, with the lowest such name.
unfoldable pub stuck_or : List Choice → Verdict → Verdict
stuck_or [] v = v
stuck_or (c ∷ cs) v = stuck c.fragment.name

-- The allowed number n of paths (0..4,294,967,295, first cycle not counted) laid: PARTIAL. Otherwise lay one path. (`rounds`, below.)

-- ---- The path.

unfoldable pub single : Choice → Bool
single c = eqb (length c.fits) 1

-- the lowest-named of cs
unfoldable pub lowest : List Choice → Choice
lowest [] = record { fragment = record { name = 0; ports = [] }; contacts = []; fits = [] }
lowest (c ∷ cs) = c

-- Take the lowest-named fragment with exactly one admissible land; if there is none, the lowest-named fragment.
unfoldable pub chosen : List Choice → Choice
chosen cs = lowest (keep single cs ++ cs)

-- ---- The split.

-- The land consists of a stretch A from x to y and a stretch B from y to x, and q is the path. The path followed by B keeps the land's number; the reversed path followed by A takes the next unused number.
-- At x the path's first dart comes directly after the reverse of B's last dart; at y the reversed path's first dart comes directly after the reverse of A's last dart.
unfoldable pub split_turns : List ℕ → List ℕ → List ℕ → List ℕ → List ℕ
split_turns a b q t = link (last b) q (first b) (link (last a) (back q) (first a) t)

unfoldable pub split_lands : ℕ → List ℕ → List ℕ → List ℕ → List (List ℕ) → List (List ℕ)
split_lands i a b q ls = set ls i (listed (q ++ b)) ++ (listed (back q ++ a) ∷ [])

-- ---- one path

module _ (ports : ℕ) (ends : List ℕ) (play : List Bool) where
  -- Take the lowest-numbered land that visits every contact. Let x < y be the two smallest contacts.
  -- The path runs from x to y inside the fragment with no laid port between, fewest channels first, then smallest list of ports.
  unfoldable pub lay : State → Choice → State
  lay s c =
      let i = get_or c.fits 0 0 in
      let x = get_or c.contacts 0 0 in
      let y = get_or c.contacts 1 0 in
      let l = get_or s.lands i [] in
      let r = since ends x l ++ before ends x l in
      let a = before ends y r in
      let b = since ends y r in
      let q = path ports ends (within ports ends play c.fragment) (at c.fragment.ports) x y in
      record {
        turns = split_turns a b q s.turns;
        lands = split_lands i a b q s.lands;
        paths = s.paths ++ (record { fragment = c.fragment.name; land = i; darts = q } ∷ []);
      }

-- ---- the rounds

pub data Word : Type 0 where
  FLAT : Word
  STUCK : Word
  PARTIAL : Word

-- the word, the name, and what was laid
pub record Outcome : Type 0 where
  pub word : Word
  pub name : ℕ
  pub state : State

module _ (ports : ℕ) (ends : List ℕ) (play : List Bool) where
  unfoldable pub judge : State → Verdict
  judge s =
      let cs = choices ports ends play s in
      cond (all_laid ports ends play s.turns) flat (stuck_or (keep without cs) (ready (chosen cs)))

  -- All channels laid: FLAT. Some fragment without admissible land: STUCK. The allowed number n of paths laid: PARTIAL. Otherwise lay one path.
  unfoldable pub rounds : ℕ → State → Outcome
  rounds zero s = elim (judge s) [
    | flat ↦ record { word = FLAT; name = 0; state = s }
    | stuck k ↦ record { word = STUCK; name = k; state = s }
    | ready c ↦ record { word = PARTIAL; name = 0; state = s }
  ]
  rounds (suc n) s = elim (judge s) [
    | flat ↦ record { word = FLAT; name = 0; state = s }
    | stuck k ↦ record { word = STUCK; name = k; state = s }
    | ready c ↦ rounds n (lay ports ends play s c)
  ]

  -- channel 0, or the lowest channel in play
  unfoldable pub first_channel : ℕ
  first_channel = seek (at play) 0 (length play)

  unfoldable pub first_cycle : List ℕ
  first_cycle = cycle ports ends play first_channel

  unfoldable pub laying : ℕ → Outcome
  laying n = rounds n (start ports ends play first_channel)

-- ---- What is left.

-- n without a cap
abbrev pub without_cap : ℕ
without_cap = 4294967295

-- all channels in play
abbrev pub whole_plate : Plate → List Bool
whole_plate p = replicate p.channels true

-- a plate laid, n paths allowed
unfoldable pub laid_out : Plate → ℕ → Outcome
laid_out p n = laying p.ports p.ends (whole_plate p) n

-- E−V+2, the lands of a plate that is FLAT
unfoldable pub lands_of_flat : Plate → ℕ
lands_of_flat p = p.channels + 2 - p.ports

-- a plate that was read, and what laying it came to
pub record Laid : Type 0 where
  pub plate : Plate
  pub outcome : Outcome

-- Plates: 1-11, then 15. Buffers needed: laying, 2E turns, 2E land darts, E−V+2 land lengths. Of these so many elements are lent: turns, lands, lengths.
unfoldable pub lay_plate : List ℕ → ℕ → ℕ → ℕ → ℕ → Answer Laid
lay_plate b n turns lands lengths = do
  p ← read_plate b
  lent_test (
      record { needed = 2 * p.channels; lent = turns }
      ∷ record { needed = 2 * p.channels; lent = lands }
      ∷ record { needed = lands_of_flat p; lent = lengths }
      ∷ []
      )
  given (record { plate = p; outcome = laid_out p n })

-- The answer also gives the number of paths laid and, for STUCK, the name; the name is 0 otherwise.
pub record Told : Type 0 where
  pub word : Word
  pub paths : ℕ
  pub name : ℕ

unfoldable pub told : Answer Laid → Answer Told
told (given a) = given (record { word = a.outcome.word; paths = length a.outcome.state.paths; name = a.outcome.name })
told (refused n p) = refused n p

-- A lent buffer afterwards: l, then the mark up to the needed size. Elements past the needed size are never altered.
unfoldable pub filled : List ℕ → ℕ → ℕ → List ℕ → List ℕ
filled l mark needed old = l ++ replicate (needed - length l) mark ++ drop needed old

-- A lent buffer of bytes afterwards: those that were written, and behind them what was there before. A refusal alters no element.
unfoldable pub bytes_left : Answer (List ℕ) → List ℕ → List ℕ
bytes_left (given s) old = s ++ drop (length s) old
bytes_left (refused n p) old = old

-- how many bytes were written
unfoldable pub bytes_told : Answer (List ℕ) → Answer ℕ
bytes_told (given s) = given (length s)
bytes_told (refused n p) = refused n p

-- All 2E turns (65,535 for unlaid darts). A refusal alters no element.
unfoldable pub turns_left : Answer Laid → List ℕ → List ℕ
turns_left (given a) old = filled a.outcome.state.turns missing (2 * a.plate.channels) old
turns_left (refused n p) old = old

-- The lands in number order, one after another, then 65,535 up to 2E.
unfoldable pub lands_left : Answer Laid → List ℕ → List ℕ
lands_left (given a) old = filled (concat a.outcome.state.lands) missing (2 * a.plate.channels) old
lands_left (refused n p) old = old

-- Their lengths, then 0 up to E−V+2.
unfoldable pub lengths_left : Answer Laid → List ℕ → List ℕ
lengths_left (given a) old = filled (map length a.outcome.state.lands) 0 (lands_of_flat a.plate) old
lengths_left (refused n p) old = old
