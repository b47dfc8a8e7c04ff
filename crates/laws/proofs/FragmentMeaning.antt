-- Fragments are what document 01 says ("Laying", fragments): an unlaid channel between two laid ports, or a connected set of unlaid ports with every channel that touches it.
--   In x l                      x stands in l
--   Rising l                    every number of l is below those behind it
--   Bridge np ps on s f         f is an unlaid channel in play between two laid ports of the state s, and has no ports
--   Piece np ps on s f          f has unlaid ports, connected through unlaid ports by channels in play, and every unlaid port that a channel in play joins to them; its name is the lowest channel in play that touches them
--   IsFragment np ps on s f     one or the other
--   Contact np ps on s f p      p is a laid port of one of f's channels
--   fragments_of np ps on s      the fragments that the definition lists; names_of fs: their names
--   Below np ps on s i fs       fs are the fragments of the unlaid channels in play below i
--   VisitsAll ps cs l           the land l visits every port of cs
--   FragmentsMean np ps on s    all of document 01 about the fragments, contacts and admissible lands of s
-- laid_port: what a laid port is. fragment_one: no channel is of two fragments. fragment_iff: the list holds the fragments, and nothing else. fragment_some, fragment_shared, fragment_lowest, fragments_rise: each unlaid channel in play is of exactly one,
-- two with a common unlaid port are of the same, the name is the lowest channel, and the names rise. bridge_channels, piece_channels: the channels of each kind. contacts_iff, contacts_rise_lem, admissible_iff, admissible_rise: the contacts and the admissible lands, each once and rising.
-- fragments_mean is the sum of it; fragments_laying, fragments_laid_out: of the state that laying leaves, and of every plate that is read.
-- Assumes nothing.
use mathlib.Core.Path.{◌≡◌, refl, ◌∙◌, subst, sym, ap}
use mathlib.Core.Logic.{⊎_elim, ◌⊎◌, inl, inr, ◌≢◌, ◌↔◌}
use mathlib.Core.Bool.{Bool, cond, ◌||◌, not, false}
use mathlib.Core.List.{List, [], ◌∷◌, ◌++◌, map}
use Prim.Native.Nat.{ℕ, zero, suc, ◌≤◌, ◌<◌, ◌/◌, ◌*◌, ◌+◌}
use native.Mathlib.Nat.{not-suc-le-zero, add-zero}
use native.Mathlib.Decide.{dec_lt}
use native.Mathlib.Omega.{arith}
use lib.Dec.{T, T_not}
use lib.ListN.{length, replicate, length-replicate, get_or}
use Rattle.rules.specs.Lists.{from, any, all, keep, at}
use Rattle.rules.specs.Terms.{leaves, reverse, enters, laid, visits}
use Rattle.rules.specs.Ways.{in_play}
use Rattle.rules.specs.Laying.{State, Fragment, within, seed, fragment_at, settled, fragments, contacts_of, admissible, laying, whole_plate, laid_out}
use Rattle.rules.specs.Refusals.{given, Plate, read_plate}
use Rattle.laws.proofs.Tests.{cond_cases, T_isnt, or_T, T_or₁, T_or₂, not_or, not_not}
use Rattle.laws.proofs.Counts.{is, is_self, is_cases, is_apart, count}
use Rattle.laws.proofs.Lists.{All, all_T, T_all, all_snoc, all_weaken, any_append₁, any_append₂, keep_all}
use Rattle.laws.proofs.Sets.{at_lt, at_none, only_is, Sub, sub_size}
use Rattle.laws.proofs.Runs.{reverse_channel, channel_darts, channel_of, same_channel}
use Rattle.laws.proofs.Trails.{leaves_reverse, enters_reverse}
use Rattle.laws.proofs.Reaches.{Wide, Way, Linked, linked_join, linked_back, play_reverse, reached_from}
use Rattle.laws.proofs.Fragments.{laid_ports_from, within_play, within_cases, within_own, within_leaves, within_enters, within_reverse, unlaid, inside, inside_unlaid, length_inside, Single, Rooted, fragment_kind, at_unlaid, root_inside, rooted_closed, inside_holds, of_own_lem, contacts_from, contacts_adds}
use Rattle.laws.proofs.Choices.{Proper, fragments_proper, laid_now}
use Rattle.laws.proofs.Rounds.{Layable, Kept, kept_laid, kept_port}
use Rattle.laws.proofs.FirstCycle.{kept_laying}
use Rattle.laws.proofs.Reading.{accepted, layable, kept_laid_out}

-- ---- what stands in a list

abbrev pub In : {A : Type 0} → A → List A → Type 0
In x [] = ⊥
In x (y ∷ l) = (x ≡ y) ⊎ In x l

pub all_in : {A : Type 0} (P : A → Type 0) (l : List A) → All P l → (x : A) → In x l → P x
all_in P [] a x h = absurd h
all_in P (y ∷ l) a x h = ⊎_elim (λ e. subst P (sym e) a.0) (λ k. all_in P l a.1 x k) h

pub any_in : {A : Type 0} (f : A → Bool) (l : List A) → T (any f l) → (x : A) × In x l × T (f x)
unfolding any
any_in f [] t = absurd t
any_in f (y ∷ l) t = ⊎_elim (λ k. (y, inl refl, k)) (λ k. let r = any_in f l k in (r.0, inr r.1, r.2)) (or_T (f y) (any f l) t)

pub in_any : {A : Type 0} (f : A → Bool) (l : List A) (x : A) → In x l → T (f x) → T (any f l)
unfolding any
in_any f [] x h t = absurd h
in_any f (y ∷ l) x h t = ⊎_elim (λ e. T_or₁ (f y) (any f l) (subst (λ z. T (f z)) e t)) (λ k. T_or₂ (f y) (any f l) (in_any f l x k t)) h

-- ---- lists that rise

abbrev pub Rising : List ℕ → Type 0
Rising [] = Unit {0}
Rising (a ∷ l) = All (λ b. a < b) l × Rising l

rising_snoc : (l : List ℕ) (k : ℕ) → Rising l → All (λ b. b < k) l → Rising (l ++ (k ∷ []))
rising_snoc [] k r a = (tt, tt)
rising_snoc (x ∷ l) k r a = (all_snoc (λ b. x < b) l k r.0 a.0, rising_snoc l k r.1 a.1)

from_above : (i j n : ℕ) → i < j → All (λ b. i < b) (from j n)
unfolding from
from_above i j zero h = tt
from_above i j (suc n) h = (h, from_above i (suc j) n (omega arith))

pub from_rises : (i n : ℕ) → Rising (from i n)
unfolding from
from_rises i zero = tt
from_rises i (suc n) = (from_above i (suc i) n (omega arith), from_rises (suc i) n)

pub keep_rises : (f : ℕ → Bool) (l : List ℕ) → Rising l → Rising (keep f l)
unfolding keep
keep_rises f [] r = tt
keep_rises f (x ∷ l) r = cond_cases Rising (f x) (λ t. (keep_all (λ b. x < b) f l r.0, keep_rises f l r.1)) (λ t. keep_rises f l r.1)

pub all_count : (P : ℕ → Type 0) (l : List ℕ) → All P l → (p : ℕ) → 1 ≤ count p l → P p
unfolding count
all_count P [] a p h = absurd (not-suc-le-zero h)
all_count P (x ∷ l) a p h = ⊎_elim (λ e. subst P (sym e) a.0) (λ n. all_count P l a.1 p (omega arith)) (is_cases p x)

-- its two smallest, and its smallest
pub rising_two : (l : List ℕ) → Rising l → 2 ≤ length l → (get_or l 0 0 < get_or l 1 0) × ((p : ℕ) → 1 ≤ count p l → p ≢ get_or l 0 0 → get_or l 1 0 ≤ p)
unfolding count
rising_two [] r h = absurd (not-suc-le-zero h)
rising_two (a ∷ []) r h = absurd (not-suc-le-zero {n = 0} (omega arith))
rising_two (a ∷ b ∷ l) r h = (
  r.0.0,
  (λ p c ne. ⊎_elim (λ e. absurd (ne e)) (λ n. ⊎_elim (λ e. omega arith) (λ m. omega (arith, all_count (λ z. b < z) l r.1.0 p (omega arith))) (is_cases p b)) (is_cases p a)),
)

pub rising_first : (l : List ℕ) → Rising l → (p : ℕ) → 1 ≤ count p l → (1 ≤ count (get_or l 0 0) l) × (get_or l 0 0 ≤ p)
unfolding count
rising_first [] r p h = absurd (not-suc-le-zero h)
rising_first (a ∷ l) r p h =
    (omega (arith, is_self a), ⊎_elim (λ e. omega arith) (λ n. omega (arith, all_count (λ z. a < z) l r.0 p (omega arith))) (is_cases p a))

map_snoc : {A B : Type 0} (f : A → B) (l : List A) (x : A) → map f (l ++ (x ∷ [])) ≡ map f l ++ (f x ∷ [])
map_snoc f [] x = refl
map_snoc {B = B} f (y ∷ l) x = ap (λ (m : List B). f y ∷ m) (map_snoc f l x)

-- two sets of as many flags that hold the same ports are one
sets_equal : (s r : List Bool) → length s ≡ length r → Sub s r → Sub r s → s ≡ r
sets_equal s r e h k =
    ⊎_elim (λ q. q) (λ a. ⊎_elim sym (λ b. absurd (not-suc-le-zero {n = 0} (omega arith))) (sub_size r s (sym e) k)) (sub_size s r e h)

-- ---- the two kinds

pub record Bridge (np : ℕ) (ps : List ℕ) (on : List Bool) (s : State) (f : Fragment) : Type 0 where
  pub play : T (at on f.name)
  pub free : T (not (laid s.turns (2 * f.name)))
  pub first : T (at (laid_now np ps s) (leaves ps (2 * f.name)))
  pub second : T (at (laid_now np ps s) (enters ps (2 * f.name)))
  pub alone : f.ports ≡ replicate np false

pub record Piece (np : ℕ) (ps : List ℕ) (on : List Bool) (s : State) (f : Fragment) : Type 0 where
  -- a flag for each port
  pub long : length f.ports ≡ np
  -- not empty
  pub some : (p : ℕ) × T (at f.ports p)
  -- unlaid
  pub free : (p : ℕ) → T (at f.ports p) → T (unlaid (laid_now np ps s) p)
  -- connected through unlaid ports
  pub joined : (p q : ℕ) → T (at f.ports p) → T (at f.ports q) → Linked ps (in_play on) (unlaid (laid_now np ps s)) p q
  -- every unlaid port that a channel in play joins to it belongs to it
  pub closed : (d : ℕ) → T (in_play on d) → T (at f.ports (enters ps d)) → T (unlaid (laid_now np ps s) (leaves ps d)) → T (at f.ports (leaves ps d))
  -- its name is a channel in play that touches it
  pub touches : (d : ℕ) × T (in_play on d) × T (at f.ports (leaves ps d)) × (d / 2 ≡ f.name)
  -- and no lower one does
  pub lowest : (d : ℕ) → T (in_play on d) → T (at f.ports (leaves ps d)) → f.name ≤ d / 2

abbrev pub IsFragment : ℕ → List ℕ → List Bool → State → Fragment → Type 0
IsFragment np ps on s f = Bridge np ps on s f ⊎ Piece np ps on s f

abbrev pub Contact : ℕ → List ℕ → List Bool → State → Fragment → ℕ → Type 0
Contact np ps on s f p = T (at (laid_now np ps s) p) × ((d : ℕ) × T (within np ps on f d) × (leaves ps d ≡ p))

abbrev pub fragments_of : ℕ → List ℕ → List Bool → State → List Fragment
fragments_of np ps on s = fragments np ps on s.turns (laid_now np ps s) (from 0 (length on)) []

abbrev pub names_of : List Fragment → List ℕ
names_of fs = map (λ f. f.name) fs

-- fs are the fragments of the unlaid channels in play below i
record Below (np : ℕ) (ps : List ℕ) (on : List Bool) (s : State) (i : ℕ) (fs : List Fragment) : Type 0 where
  each : All (IsFragment np ps on s) fs
  rise : Rising (names_of fs)
  low : All (λ k. k < i) (names_of fs)
  cover : (j : ℕ) → j < i → T (at on j) → T (not (laid s.turns (2 * j))) → T (any (λ f. within np ps on f (2 * j)) fs)

-- ---- no channel is of two fragments

module _ (np : ℕ) (ps : List ℕ) (on : List Bool) (s : State) where
  -- a way through unlaid ports into a piece begins in it
  pub piece_holds : (f : Fragment) → Piece np ps on s f → (p : ℕ) (w : List ℕ) (y : ℕ) → Way ps (in_play on) (unlaid (laid_now np ps s)) p w y → T (at f.ports y) → T (at f.ports p)
  piece_holds f P p [] y h t = subst (λ (z : ℕ). T (at f.ports z)) (sym h) t
  piece_holds f P p (d ∷ w) y h t =
      subst (λ (z : ℕ). T (at f.ports z)) h.1
      (P.closed d h.0 (piece_holds f P (enters ps d) w y h.3 t) (subst (λ (z : ℕ). T (unlaid (laid_now np ps s) z)) (sym h.1) h.2))

  -- every channel of a piece touches it
  pub piece_within : (f : Fragment) → Piece np ps on s f → (d : ℕ) → T (within np ps on f d) → T (at f.ports (leaves ps d)) ⊎ T (at f.ports (enters ps d))
  piece_within f P d h =
      ⊎_elim
      (λ e.
      let c = P.touches in
      ⊎_elim (λ q. inl (subst (λ (z : ℕ). T (at f.ports (leaves ps z))) (sym q) c.2))
      (λ q. inr (subst (λ (z : ℕ). T (at f.ports z)) (sym (enters_reverse ps c.0) ∙ ap (enters ps) (sym q)) c.2))
      (same_channel d c.0 (e ∙ sym c.3)))
      (λ k. k)
      (within_cases np ps on f d h)

  -- at an unlaid port, that port is the piece's
  pub piece_unlaid : (f : Fragment) → Piece np ps on s f → (d : ℕ) → T (within np ps on f d) → T (unlaid (laid_now np ps s) (leaves ps d)) → T (at f.ports (leaves ps d))
  piece_unlaid f P d h u = ⊎_elim (λ i. i) (λ i. P.closed d (within_play np ps on f d h) i u) (piece_within f P d h)

  -- a bridge has no channel but its own, and both ends of that are laid
  pub bridge_within : (f : Fragment) → Bridge np ps on s f → (d : ℕ) → T (within np ps on f d) → d / 2 ≡ f.name
  bridge_within f B d h =
      ⊎_elim (λ e. e) (λ k. absurd (⊎_elim (empty (leaves ps d)) (empty (enters ps d)) k)) (within_cases np ps on f d h)
    where
      empty : (p : ℕ) → T (at f.ports p) → ⊥
      empty p i = at_none np p (subst (λ (r : List Bool). T (at r p)) B.alone i)

  pub bridge_ends : (f : Fragment) → Bridge np ps on s f → (d : ℕ) → T (within np ps on f d) → T (at (laid_now np ps s) (leaves ps d)) × T (at (laid_now np ps s) (enters ps d))
  bridge_ends f B d h =
      let lp = laid_now np ps s in
      ⊎_elim
      (λ q. (subst (λ (z : ℕ). T (at lp (leaves ps z))) (sym q) B.first, subst (λ (z : ℕ). T (at lp (enters ps z))) (sym q) B.second))
      (λ q. (
        subst (λ (z : ℕ). T (at lp z)) (sym (leaves_reverse ps (2 * f.name)) ∙ ap (leaves ps) (sym q)) B.second,
        subst (λ (z : ℕ). T (at lp z)) (sym (enters_reverse ps (2 * f.name)) ∙ ap (enters ps) (sym q)) B.first,
      ))
      (channel_darts d f.name (bridge_within f B d h))

  apart : (f g : Fragment) → Bridge np ps on s f → Piece np ps on s g → (d : ℕ) → T (within np ps on f d) → T (within np ps on g d) → ⊥
  apart f g B P d h k =
      let lp = laid_now np ps s in
      let e = bridge_ends f B d h in
      ⊎_elim (λ i. T_not (at lp (leaves ps d)) (P.free (leaves ps d) i) e.0) (λ i. T_not (at lp (enters ps d)) (P.free (enters ps d) i) e.1) (piece_within g P d k)

  pieces_share : (f g : Fragment) → Piece np ps on s f → Piece np ps on s g → (d : ℕ) → T (within np ps on f d) → T (within np ps on g d) → (r : ℕ) × T (at f.ports r) × T (at g.ports r)
  pieces_share f g P Q d h k =
      ⊎_elim
      (λ i. (leaves ps d, i, piece_unlaid g Q d k (P.free (leaves ps d) i)))
      (λ i. ⊎_elim (λ j. (leaves ps d, piece_unlaid f P d h (Q.free (leaves ps d) j), j)) (λ j. (enters ps d, i, j)) (piece_within g Q d k))
      (piece_within f P d h)

  pieces_sub : (f g : Fragment) → Piece np ps on s f → Piece np ps on s g → (r : ℕ) → T (at f.ports r) → T (at g.ports r) → Sub f.ports g.ports
  pieces_sub f g P Q r a b p h = let w = P.joined p r h a in piece_holds g Q p w.0 r w.1 b

  pieces_name : (f g : Fragment) → Piece np ps on s f → Piece np ps on s g → Sub f.ports g.ports → g.name ≤ f.name
  pieces_name f g P Q h = let c = P.touches in omega (arith, Q.lowest c.0 c.1 (h (leaves ps c.0) c.2), c.3)

  fragment_as : (f g : Fragment) → f.name ≡ g.name → f.ports ≡ g.ports → f ≡ g
  fragment_as f g e h = λ i. record { name = e i; ports = h i }

  -- No channel is of two fragments.
  pub fragment_one : (f g : Fragment) → IsFragment np ps on s f → IsFragment np ps on s g → (d : ℕ) → T (within np ps on f d) → T (within np ps on g d) → f ≡ g
  fragment_one f g (inl B) (inl C) d h k = fragment_as f g (sym (bridge_within f B d h) ∙ bridge_within g C d k) (B.alone ∙ sym C.alone)
  fragment_one f g (inl B) (inr Q) d h k = absurd (apart f g B Q d h k)
  fragment_one f g (inr P) (inl C) d h k = absurd (apart g f C P d k h)
  fragment_one f g (inr P) (inr Q) d h k =
      let r = pieces_share f g P Q d h k in
      let a = pieces_sub f g P Q r.0 r.1 r.2 in
      let b = pieces_sub g f Q P r.0 r.2 r.1 in
      fragment_as f g (omega (arith, pieces_name f g P Q a, pieces_name g f Q P b)) (sets_equal f.ports g.ports (P.long ∙ sym Q.long) a b)

  -- an unlaid port at which a fragment has a channel is the fragment's
  pub fragment_port : (f : Fragment) → IsFragment np ps on s f → (d : ℕ) → T (within np ps on f d) → T (unlaid (laid_now np ps s) (leaves ps d)) → T (at f.ports (leaves ps d))
  fragment_port f (inl B) d h u = absurd (T_not (at (laid_now np ps s) (leaves ps d)) u (bridge_ends f B d h).0)
  fragment_port f (inr P) d h u = piece_unlaid f P d h u

  -- A bridge has the one channel that names it, and a piece every channel in play that touches it.
  pub bridge_channels : (f : Fragment) → Bridge np ps on s f → (d : ℕ) → T (within np ps on f d) ↔ (d / 2 ≡ f.name)
  bridge_channels f B d = (bridge_within f B d, (λ e. within_own np ps on f d (subst (λ (z : ℕ). T (at on z)) (sym e) B.play) e))

  pub piece_channels : (f : Fragment) → Piece np ps on s f → (d : ℕ) → T (within np ps on f d) ↔ (T (in_play on d) × (T (at f.ports (leaves ps d)) ⊎ T (at f.ports (enters ps d))))
  piece_channels f P d = (
    (λ h. (within_play np ps on f d h, piece_within f P d h)),
    (λ h. ⊎_elim (within_leaves np ps on f d h.0) (within_enters np ps on f d h.0) h.1),
  )

  -- Two channels in play with a common unlaid port are of the same fragment.
  pub fragment_shared : (f : Fragment) → IsFragment np ps on s f → (d e : ℕ) → T (within np ps on f d) → T (in_play on e) → leaves ps d ≡ leaves ps e
      → T (unlaid (laid_now np ps s) (leaves ps d)) → T (within np ps on f e)
  fragment_shared f F d e h o q u = within_leaves np ps on f e o (subst (λ (z : ℕ). T (at f.ports z)) q (fragment_port f F d h u))

  -- A fragment's name is its lowest channel: one of its channels,
  pub fragment_named : (f : Fragment) → IsFragment np ps on s f → T (within np ps on f (2 * f.name))
  fragment_named f (inl B) = within_own np ps on f (2 * f.name) (subst (λ (z : ℕ). T (at on z)) (sym (channel_of f.name)) B.play) (channel_of f.name)
  fragment_named f (inr P) =
      let c = P.touches in
      within_own np ps on f (2 * f.name) (subst (λ (z : ℕ). T (at on z)) (c.3 ∙ sym (channel_of f.name)) c.1) (channel_of f.name)

  -- and none is lower
  pub fragment_lowest : (f : Fragment) → IsFragment np ps on s f → (d : ℕ) → T (within np ps on f d) → f.name ≤ d / 2
  fragment_lowest f (inl B) d h = omega (arith, bridge_within f B d h)
  fragment_lowest f (inr P) d h =
      ⊎_elim (λ i. P.lowest d (within_play np ps on f d h) i)
      (λ i. omega (arith, P.lowest (reverse d) (play_reverse on d (within_play np ps on f d h)) (rw (leaves_reverse ps d) i), reverse_channel d))
      (piece_within f P d h)

-- ---- the fragments of a state that is kept

module _ (np : ℕ) (ps : List ℕ) (on : List Bool) (G : Layable np ps on) (s : State) (K : Kept ps on s) where
  abbrev tn : List ℕ
  tn = s.turns

  abbrev lp : List Bool
  lp = laid_now np ps s

  -- A port is laid where a laid dart leaves it.
  pub laid_port : (p : ℕ) → T (at lp p) ↔ ((d : ℕ) × T (laid tn d) × (leaves ps d ≡ p))
  laid_port p = (
    (λ h. ⊎_elim (λ m. absurd (at_none np p m)) (λ z. z) (laid_ports_from ps tn (from 0 (length ps)) (replicate np false) p h)),
    (λ z. subst (λ (q : ℕ). T (at lp q)) z.2 (kept_laid np ps on G s K z.0 z.1)),
  )

  -- at an unlaid port no channel is laid
  unlaid_channel : (d : ℕ) → T (unlaid lp (leaves ps d)) → T (not (laid tn (2 * (d / 2))))
  unlaid_channel d u =
      let no-d : laid tn d ≡ false = at_unlaid np ps on lp tn (kept_laid np ps on G s K) K.sound.pair d u in
      let here : laid tn (2 * (d / 2)) ≡ false =
      ⊎_elim (λ q. ap (laid tn) (sym q) ∙ no-d) (λ q. sym (K.sound.pair (2 * (d / 2))) ∙ ap (laid tn) (sym q) ∙ no-d) (channel_darts d (d / 2) refl) in
      subst (λ (b : Bool). T (not b)) (sym here) tt

  -- the channel that names a fragment is in play and unlaid
  pub fragment_play : (f : Fragment) → IsFragment np ps on s f → T (at on f.name) × T (not (laid tn (2 * f.name)))
  fragment_play f (inl B) = (B.play, B.free)
  fragment_play f (inr P) =
      let c = P.touches in
      (subst (λ (z : ℕ). T (at on z)) c.3 c.1, subst (λ (z : ℕ). T (not (laid tn (2 * z)))) c.3 (unlaid_channel c.0 (P.free (leaves ps c.0) c.2)))

  -- no channel of a fragment is laid
  pub fragment_unlaid : (f : Fragment) → IsFragment np ps on s f → (d : ℕ) → T (within np ps on f d) → laid tn d ≡ false
  fragment_unlaid f (inl B) d h =
      let own : laid tn (2 * f.name) ≡ false = T_isnt (laid tn (2 * f.name)) (T_not (laid tn (2 * f.name)) B.free) in
      ⊎_elim (λ q. ap (laid tn) q ∙ own) (λ q. ap (laid tn) q ∙ K.sound.pair (2 * f.name) ∙ own) (channel_darts d f.name (bridge_within np ps on s f B d h))
  fragment_unlaid f (inr P) d h =
      let un : (c : ℕ) → T (unlaid lp (leaves ps c)) → laid tn c ≡ false = at_unlaid np ps on lp tn (kept_laid np ps on G s K) K.sound.pair in
      ⊎_elim (λ i. un d (P.free (leaves ps d) i)) (λ i. sym (K.sound.pair d) ∙ un (reverse d) (subst (λ (z : ℕ). T (unlaid lp z)) (sym (leaves_reverse ps d)) (P.free (enters ps d) i))) (piece_within np ps on s f P d h)

  -- the fragment at channel k, where no lower channel touches its ports
  fragment_made : (k : ℕ) → T (at on k) → T (not (laid tn (2 * k))) → ((d : ℕ) → T (in_play on d) → T (at (inside np ps on lp k) (leaves ps d)) → k ≤ d / 2)
      → IsFragment np ps on s (fragment_at np ps on lp k)
  unfolding fragment_at
  fragment_made k o u low =
      ⊎_elim
      (λ S. inl (record { play = o; free = u; first = S.0; second = S.1; alone = bare S }))
      (λ R. inr (record {
        long = length_inside np ps on lp k;
        some = (R.0, root_inside np ps on lp G.size2 G.inn k R o);
        free = inside_unlaid np ps on lp k;
        joined = λ p q a b. linked_join ps (in_play on) (unlaid lp) (to_root R p a) (linked_back ps (in_play on) (unlaid lp) (play_reverse on) (root_free R) (to_root R q b));
        closed = λ d i e v. inside_holds np ps on lp G.size2 G.inn k (rooted_closed np ps on lp G.size2 G.inn k R o) (leaves ps d) (d ∷ []) (enters ps d) (i, refl, v, refl) e;
        touches = named R;
        lowest = low;
      }))
      (fragment_kind np ps on lp k)
    where
      bare : Single np ps on lp k → inside np ps on lp k ≡ replicate np false
      bare S = sets_equal (inside np ps on lp k) (replicate np false) (length_inside np ps on lp k ∙ sym (length-replicate np false))
          (λ p i. let r = reached_from ps (in_play on) (unlaid lp) np (seed np ps on lp k) p i in absurd (at_none np r.0 (subst (λ (m : List Bool). T (at m r.0)) S.2 r.1)))
          (λ p i. absurd (at_none np p i))

      to_root : (R : Rooted np ps on lp k) (p : ℕ) → T (at (inside np ps on lp k) p) → Linked ps (in_play on) (unlaid lp) p R.0
      to_root R p i =
          let r = reached_from ps (in_play on) (unlaid lp) np (seed np ps on lp k) p i in
          subst (λ (z : ℕ). Linked ps (in_play on) (unlaid lp) p z) (only_is np R.0 r.0 (subst (λ (m : List Bool). T (at m r.0)) R.1 r.1)) r.2

      root_free : (R : Rooted np ps on lp k) → T (unlaid lp R.0)
      root_free R = inside_unlaid np ps on lp k R.0 (root_inside np ps on lp G.size2 G.inn k R o)

      named : (R : Rooted np ps on lp k) → (d : ℕ) × T (in_play on d) × T (at (inside np ps on lp k) (leaves ps d)) × (d / 2 ≡ k)
      named R =
          let i = root_inside np ps on lp G.size2 G.inn k R o in
          let p : T (in_play on (2 * k)) = subst (λ (z : ℕ). T (at on z)) (sym (channel_of k)) o in
          ⊎_elim (λ e. (2 * k, p, subst (λ (z : ℕ). T (at (inside np ps on lp k) z)) e.0 i, channel_of k))
          (λ e. (reverse (2 * k), play_reverse on (2 * k) p, subst (λ (z : ℕ). T (at (inside np ps on lp k) z)) (e.0 ∙ sym (leaves_reverse ps (2 * k))) i, reverse_channel (2 * k) ∙ channel_of k))
          R.2

  -- ---- the list of them

  below_same : (i : ℕ) (fs : List Fragment) → T (settled np ps on tn fs i) → Below np ps on s i fs → Below np ps on s (suc i) fs
  unfolding settled
  below_same i fs t B = record {
    each = B.each;
    rise = B.rise;
    low = all_weaken (λ k. k < i) (λ k. k < suc i) (λ k h. omega arith) (names_of fs) B.low;
    cover = λ j l o u. ⊎_elim
        (λ e. ⊎_elim
        (λ a. absurd (⊎_elim (λ b. T_not (laid tn (2 * j)) u (subst (λ (z : ℕ). T (laid tn (2 * z))) (sym e) b)) (λ b. T_not (at on i) b (subst (λ (z : ℕ). T (at on z)) e o)) (or_T (laid tn (2 * i)) (not (at on i)) a)))
        (λ a. subst (λ (z : ℕ). T (any (λ f. within np ps on f (2 * z)) fs)) (sym e) a)
        (or_T (laid tn (2 * i) || not (at on i)) (any (λ f. within np ps on f (2 * i)) fs) t))
        (λ n. let ne : j ≢ i = is_apart j i n in B.cover j (omega arith) o u)
        (is_cases j i);
  }

  -- no lower channel touches the ports of a channel that is of none of the fragments so far
  below_lowest : (i : ℕ) (fs : List Fragment) → Below np ps on s i fs → T (not (any (λ f. within np ps on f (2 * i)) fs)) → T (at on i)
      → (d : ℕ) → T (in_play on d) → T (at (inside np ps on lp i) (leaves ps d)) → i ≤ d / 2
  below_lowest i fs B none o d p h = go (dec_lt (d / 2) i)
    where
      un : T (unlaid lp (leaves ps d))
      un = inside_unlaid np ps on lp i (leaves ps d) h

      -- a piece that holds the port would hold an end of channel i
      held : (g : Fragment) → Piece np ps on s g → T (at g.ports (leaves ps d)) → T (within np ps on g (2 * i))
      held g P t =
          let play : T (in_play on (2 * i)) = subst (λ (z : ℕ). T (at on z)) (sym (channel_of i)) o in
          let r = reached_from ps (in_play on) (unlaid lp) np (seed np ps on lp i) (leaves ps d) h in
          ⊎_elim (λ S. absurd (at_none np r.0 (subst (λ (m : List Bool). T (at m r.0)) S.2 r.1)))
          (λ R.
          let e : r.0 ≡ R.0 = only_is np R.0 r.0 (subst (λ (m : List Bool). T (at m r.0)) R.1 r.1) in
          let free : T (unlaid lp R.0) = inside_unlaid np ps on lp i R.0 (root_inside np ps on lp G.size2 G.inn i R o) in
          let w = linked_back ps (in_play on) (unlaid lp) (play_reverse on) free (subst (λ (z : ℕ). Linked ps (in_play on) (unlaid lp) (leaves ps d) z) e r.2) in
          let m = piece_holds np ps on s g P R.0 w.0 (leaves ps d) w.1 t in
          ⊎_elim (λ q. within_leaves np ps on g (2 * i) play (subst (λ (z : ℕ). T (at g.ports z)) q.0 m))
          (λ q. within_enters np ps on g (2 * i) play (subst (λ (z : ℕ). T (at g.ports z)) q.0 m)) R.2)
          (fragment_kind np ps on lp i)

      found : (g : Fragment) → In g fs → IsFragment np ps on s g → T (within np ps on g d) → T (any (λ f. within np ps on f (2 * i)) fs)
      found g m (inl C) k = absurd (T_not (at lp (leaves ps d)) un (bridge_ends np ps on s g C d k).0)
      found g m (inr P) k = in_any (λ f. within np ps on f (2 * i)) fs g m (held g P (piece_unlaid np ps on s g P d k un))

      go : Dec (d / 2 < i) → i ≤ d / 2
      go (no l) = omega arith
      go (yes l) =
          let g = any_in (λ f. within np ps on f (2 * (d / 2))) fs (B.cover (d / 2) l p (unlaid_channel d un)) in
          let k : T (within np ps on g.0 d) =
          ⊎_elim (λ q. subst (λ (z : ℕ). T (within np ps on g.0 z)) (sym q) g.2) (λ q. subst (λ (z : ℕ). T (within np ps on g.0 z)) (sym q) (within_reverse np ps on g.0 (2 * (d / 2)) g.2))
          (channel_darts d (d / 2) refl) in
          absurd (T_not (any (λ f. within np ps on f (2 * i)) fs) none (found g.0 g.1 (all_in (IsFragment np ps on s) fs B.each g.0 g.1) k))

  below_more : (i : ℕ) (fs : List Fragment) → T (not (settled np ps on tn fs i)) → Below np ps on s i fs → Below np ps on s (suc i) (fs ++ (fragment_at np ps on lp i ∷ []))
  unfolding settled fragment_at
  below_more i fs t B =
      let f = fragment_at np ps on lp i in
      let o = not_or (laid tn (2 * i) || not (at on i)) (any (λ f. within np ps on f (2 * i)) fs) t in
      let u = not_or (laid tn (2 * i)) (not (at on i)) o.0 in
      let play : T (at on i) = not_not (at on i) u.1 in
      record {
        each = all_snoc (IsFragment np ps on s) fs f B.each (fragment_made i play u.0 (below_lowest i fs B o.1 play));
        rise = rw (map_snoc (λ g. g.name) fs f) (rising_snoc (names_of fs) i B.rise B.low);
        low = rw (map_snoc (λ g. g.name) fs f) (all_snoc (λ k. k < suc i) (names_of fs) i (all_weaken (λ k. k < i) (λ k. k < suc i) (λ k h. omega arith) (names_of fs) B.low) (omega arith));
        cover = λ j l on-j un. ⊎_elim
            (λ e. any_append₂ (λ g. within np ps on g (2 * j)) fs (f ∷ []) (in_any (λ g. within np ps on g (2 * j)) (f ∷ []) f (inl refl) (of_own_lem np ps on lp i (2 * j) play (channel_of j ∙ e))))
            (λ n. let ne : j ≢ i = is_apart j i n in any_append₁ (λ g. within np ps on g (2 * j)) fs (f ∷ []) (B.cover j (omega arith) on-j un))
            (is_cases j i);
      }

  below_all : (m i : ℕ) (fs : List Fragment) → Below np ps on s i fs → Below np ps on s (i + m) (fragments np ps on tn lp (from i m) fs)
  unfolding fragments from
  below_all zero i fs B = subst (λ (z : ℕ). Below np ps on s z fs) (omega arith) B
  below_all (suc m) i fs B =
      subst (λ (z : ℕ). Below np ps on s z (fragments np ps on tn lp (from i (suc m)) fs)) (omega arith)
      (below_all m (suc i) (cond (settled np ps on tn fs i) fs (fs ++ (fragment_at np ps on lp i ∷ [])))
      (cond_cases (Below np ps on s (suc i)) (settled np ps on tn fs i) (λ t. below_same i fs t B) (λ t. below_more i fs t B)))

  listed_below : Below np ps on s (0 + length on) (fragments_of np ps on s)
  unfolding any
  listed_below = below_all (length on) 0 [] (record { each = tt; rise = tt; low = tt; cover = λ j l o u. absurd (not-suc-le-zero l) })

  -- Every unlaid channel in play is of a fragment of the list, and of no other fragment.
  pub fragment_some : (k : ℕ) → T (at on k) → T (not (laid tn (2 * k)))
      → (f : Fragment) × In f (fragments_of np ps on s) × T (within np ps on f (2 * k)) × ((g : Fragment) → IsFragment np ps on s g → T (within np ps on g (2 * k)) → g ≡ f)
  fragment_some k o u =
      let B = listed_below in
      let g = any_in (λ f. within np ps on f (2 * k)) (fragments_of np ps on s) (B.cover k (omega (arith, at_lt on k o)) o u) in
      (g.0, g.1, g.2, (λ h i w. fragment_one np ps on s h g.0 i (all_in (IsFragment np ps on s) (fragments_of np ps on s) B.each g.0 g.1) (2 * k) w g.2))

  -- The list holds the fragments, and nothing else.
  pub fragment_iff : (f : Fragment) → In f (fragments_of np ps on s) ↔ IsFragment np ps on s f
  fragment_iff f = (
    all_in (IsFragment np ps on s) (fragments_of np ps on s) listed_below.each f,
    (λ h.
        let u = fragment_play f h in
        let g = fragment_some f.name u.0 u.1 in
        subst (λ (e : Fragment). In e (fragments_of np ps on s)) (sym (g.3 f h (fragment_named np ps on s f h))) g.1),
  )

  -- Names rise along the list.
  pub fragments_rise : Rising (names_of (fragments_of np ps on s))
  fragments_rise = listed_below.rise

  -- ---- contacts

  -- a fragment is the one that the definition finds at some channel
  pub fragment_at_lem : (f : Fragment) → IsFragment np ps on s f → Proper np ps on tn lp f
  fragment_at_lem f h = all_in (Proper np ps on tn lp) (fragments_of np ps on s) (fragments_proper np ps on tn lp (from 0 (length on)) [] tt) f ((fragment_iff f).1 h)

  -- The contacts are exactly the laid ports of its channels,
  pub contacts_iff : (f : Fragment) → IsFragment np ps on s f → (p : ℕ) → (1 ≤ count p (contacts_of np ps on lp f)) ↔ Contact np ps on s f p
  contacts_iff f h p =
      let k = fragment_at_lem f h in
      subst (λ (e : Fragment). (1 ≤ count p (contacts_of np ps on lp e)) ↔ Contact np ps on s e p) (sym k.1) (
        contacts_from np ps on lp G.size2 G.inn k.0 p,
        (λ c. contacts_adds np ps on lp G.size2 G.inn k.0 p c.1.0 c.0 (kept_port np ps on G s K p c.0) c.1.1 c.1.2),
      )

-- rising, each once
pub contacts_rise_lem : (np : ℕ) (ps : List ℕ) (on lp : List Bool) (f : Fragment) → Rising (contacts_of np ps on lp f)
unfolding contacts_of
contacts_rise_lem np ps on lp f = keep_rises _ (from 0 np) (from_rises 0 np)

-- ---- admissible lands

-- land l visits every port of cs
abbrev pub VisitsAll : List ℕ → List ℕ → List ℕ → Type 0
VisitsAll ps cs l = (p : ℕ) → 1 ≤ count p cs → T (visits ps l p)

visits_all : (ps cs l : List ℕ) → T (all (visits ps l) cs) ↔ VisitsAll ps cs l
visits_all ps cs l = ((λ t p h. all_T (visits ps l) cs p t h), T_all (visits ps l) cs)

module _ (ps cs : List ℕ) where
  admissible_above : (i : ℕ) (ls : List (List ℕ)) → All (λ m. i ≤ m) (admissible ps cs i ls)
  unfolding admissible
  admissible_above i [] = tt
  admissible_above i (l ∷ ls) =
      let more : All (λ m. i ≤ m) (admissible ps cs (suc i) ls) = all_weaken (λ m. suc i ≤ m) (λ m. i ≤ m) (λ m h. omega arith) (admissible ps cs (suc i) ls) (admissible_above (suc i) ls) in
      cond_cases (All (λ m. i ≤ m)) (all (visits ps l) cs) (λ t. (omega arith, more)) (λ t. more)

  pub admissible_rise : (i : ℕ) (ls : List (List ℕ)) → Rising (admissible ps cs i ls)
  unfolding admissible
  admissible_rise i [] = tt
  admissible_rise i (l ∷ ls) =
      cond_cases Rising (all (visits ps l) cs) (λ t. (admissible_above (suc i) ls, admissible_rise (suc i) ls)) (λ t. admissible_rise (suc i) ls)

  -- the first land having the number i
  admissible_from : (i : ℕ) (ls : List (List ℕ)) (m : ℕ) → 1 ≤ count m (admissible ps cs i ls) → (j : ℕ) × (m ≡ i + j) × (j < length ls) × VisitsAll ps cs (get_or ls j [])
  unfolding admissible count
  admissible_from i [] m h = absurd (not-suc-le-zero h)
  admissible_from i (l ∷ ls) m h =
      cond_cases (λ (ms : List ℕ). 1 ≤ count m ms → (j : ℕ) × (m ≡ i + j) × (j < length (l ∷ ls)) × VisitsAll ps cs (get_or (l ∷ ls) j [])) (all (visits ps l) cs)
      (λ t k. ⊎_elim (λ e. (0, omega arith, omega arith, (visits_all ps cs l).0 t)) (λ n. later (admissible_from (suc i) ls m (omega arith))) (is_cases m i))
      (λ t k. later (admissible_from (suc i) ls m k)) h
    where
      later : (j : ℕ) × (m ≡ suc i + j) × (j < length ls) × VisitsAll ps cs (get_or ls j []) → (j : ℕ) × (m ≡ i + j) × (j < length (l ∷ ls)) × VisitsAll ps cs (get_or (l ∷ ls) j [])
      later a = (suc a.0, omega (arith, a.1), omega (arith, a.2), a.3)

  admissible_adds : (i : ℕ) (ls : List (List ℕ)) (j : ℕ) → j < length ls → VisitsAll ps cs (get_or ls j []) → 1 ≤ count (i + j) (admissible ps cs i ls)
  unfolding admissible count
  admissible_adds i [] j h v = absurd (not-suc-le-zero h)
  admissible_adds i (l ∷ ls) zero h v =
      cond_cases (λ (ms : List ℕ). 1 ≤ count (i + 0) ms) (all (visits ps l) cs) (λ t. omega (arith, is_self (i + 0), ap (is (i + 0)) (add-zero i))) (λ t. absurd (T_not (all (visits ps l) cs) t ((visits_all ps cs l).1 v)))
  admissible_adds i (l ∷ ls) (suc j) h v =
      let r : 1 ≤ count (i + suc j) (admissible ps cs (suc i) ls) = subst (λ (z : ℕ). 1 ≤ count z (admissible ps cs (suc i) ls)) (omega arith) (admissible_adds (suc i) ls j (omega arith) v) in
      cond_cases (λ (ms : List ℕ). 1 ≤ count (i + suc j) ms) (all (visits ps l) cs) (λ t. omega arith) (λ t. r)

  -- Admissible are exactly the numbers of the lands that visit every contact.
  pub admissible_iff : (ls : List (List ℕ)) (m : ℕ) → (1 ≤ count m (admissible ps cs 0 ls)) ↔ ((m < length ls) × VisitsAll ps cs (get_or ls m []))
  admissible_iff ls m = (
    (λ h. let r = admissible_from 0 ls m h in
        let e : r.0 ≡ m = omega (arith, r.1) in
        subst (λ (j : ℕ). (j < length ls) × VisitsAll ps cs (get_or ls j [])) e (r.2, r.3)),
    (λ h. subst (λ (z : ℕ). 1 ≤ count z (admissible ps cs 0 ls)) (omega arith) (admissible_adds 0 ls m h.0 h.1)),
  )

-- ---- all of it

-- what document 01 says of fragments, contacts and admissible lands, of the state s
pub record FragmentsMean (np : ℕ) (ps : List ℕ) (on : List Bool) (s : State) : Type 0 where
  -- a port is laid where a laid dart leaves it
  pub ports : (p : ℕ) → T (at (laid_now np ps s) p) ↔ ((d : ℕ) × T (laid s.turns d) × (leaves ps d ≡ p))
  -- the list holds the fragments and nothing else, in order of name
  pub exactly : (f : Fragment) → In f (fragments_of np ps on s) ↔ IsFragment np ps on s f
  pub rise : Rising (names_of (fragments_of np ps on s))
  -- every unlaid channel in play is of exactly one fragment; two with a common unlaid port are of the same
  pub some : (k : ℕ) → T (at on k) → T (not (laid s.turns (2 * k))) → (f : Fragment) × IsFragment np ps on s f × T (within np ps on f (2 * k))
  pub one : (f g : Fragment) → IsFragment np ps on s f → IsFragment np ps on s g → (d : ℕ) → T (within np ps on f d) → T (within np ps on g d) → f ≡ g
  pub shared : (f : Fragment) → IsFragment np ps on s f → (d e : ℕ) → T (within np ps on f d) → T (in_play on e) → leaves ps d ≡ leaves ps e → T (unlaid (laid_now np ps s) (leaves ps d)) → T (within np ps on f e)
  -- its channels are in play and unlaid, and the lowest of them is its name
  pub channels : (f : Fragment) → IsFragment np ps on s f → (d : ℕ) → T (within np ps on f d) → T (in_play on d) × (laid s.turns d ≡ false)
  pub named : (f : Fragment) → IsFragment np ps on s f → T (within np ps on f (2 * f.name))
  pub lowest : (f : Fragment) → IsFragment np ps on s f → (d : ℕ) → T (within np ps on f d) → f.name ≤ d / 2
  -- its contacts are its laid ports, rising and each once
  pub contacts : (f : Fragment) → IsFragment np ps on s f → (p : ℕ) → (1 ≤ count p (contacts_of np ps on (laid_now np ps s) f)) ↔ Contact np ps on s f p
  pub contacts_rise : (f : Fragment) → Rising (contacts_of np ps on (laid_now np ps s) f)
  -- a land is admissible when it visits all contacts; the numbers rise
  pub lands : (f : Fragment) → IsFragment np ps on s f → (i : ℕ)
      → (1 ≤ count i (admissible ps (contacts_of np ps on (laid_now np ps s) f) 0 s.lands)) ↔ ((i < length s.lands) × ((p : ℕ) → Contact np ps on s f p → T (visits ps (get_or s.lands i []) p)))
  pub lands_rise : (f : Fragment) → Rising (admissible ps (contacts_of np ps on (laid_now np ps s) f) 0 s.lands)

-- the admissible lands of a fragment, by its contacts
pub admitted_iff : (np : ℕ) (ps : List ℕ) (on : List Bool) → Layable np ps on → (s : State) → Kept ps on s → (f : Fragment) → IsFragment np ps on s f → (i : ℕ)
    → (1 ≤ count i (admissible ps (contacts_of np ps on (laid_now np ps s) f) 0 s.lands)) ↔ ((i < length s.lands) × ((p : ℕ) → Contact np ps on s f p → T (visits ps (get_or s.lands i []) p)))
admitted_iff np ps on G s K f h i =
    let a = admissible_iff ps (contacts_of np ps on (laid_now np ps s) f) s.lands i in (
      (λ k. let r = a.0 k in (r.0, (λ p c. r.1 p ((contacts_iff np ps on G s K f h p).1 c)))),
      (λ k. a.1 (k.0, (λ p c. k.1 p ((contacts_iff np ps on G s K f h p).0 c)))),
    )

pub fragments_mean : (np : ℕ) (ps : List ℕ) (on : List Bool) → Layable np ps on → (s : State) → Kept ps on s → FragmentsMean np ps on s
fragments_mean np ps on G s K = record {
  ports = laid_port np ps on G s K;
  exactly = fragment_iff np ps on G s K;
  rise = fragments_rise np ps on G s K;
  some = λ k o u. let f = fragment_some np ps on G s K k o u in (f.0, (fragment_iff np ps on G s K f.0).0 f.1, f.2);
  one = fragment_one np ps on s;
  shared = fragment_shared np ps on s;
  channels = λ f h d w. (within_play np ps on f d w, fragment_unlaid np ps on G s K f h d w);
  named = fragment_named np ps on s;
  lowest = fragment_lowest np ps on s;
  contacts = contacts_iff np ps on G s K;
  contacts_rise = contacts_rise_lem np ps on (laid_now np ps s);
  lands = admitted_iff np ps on G s K;
  lands_rise = λ f. admissible_rise ps (contacts_of np ps on (laid_now np ps s) f) 0 s.lands;
}

-- The state that laying leaves, whatever the number of paths; and of every plate that is read.
pub fragments_laying : (np : ℕ) (ps : List ℕ) (on : List Bool) → Layable np ps on → Wide ps on → (c : ℕ) → T (at on c) → (n : ℕ) → FragmentsMean np ps on (laying np ps on n).state
fragments_laying np ps on G many c o n = fragments_mean np ps on G (laying np ps on n).state (kept_laying np ps on G many c o n)

pub fragments_laid_out : (b : List ℕ) (p : Plate) → read_plate b ≡ given p → (n : ℕ) → FragmentsMean p.ports p.ends (whole_plate p) (laid_out p n).state
fragments_laid_out b p h n = fragments_mean p.ports p.ends (whole_plate p) (layable p (accepted b p h)) (laid_out p n).state (kept_laid_out b p h n)
