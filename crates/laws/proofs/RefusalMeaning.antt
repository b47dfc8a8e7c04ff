-- Refusals are given exactly when document 01 says, at the place that it says ("Refusal numbers", 10 to 14; the law of refuse_at serves 7 to 9, too).
--   LowestWhere P m i           i is the lowest number below m of which P holds
--   Tells bad m P               for the numbers below m, the test bad says whether P holds
--   Apart ends play p           no way leads from port p to port 0 by channels in play
--   Cuts v ends play c          without port c two other ports are not linked by channels in play
--   DartOf ends p d             dart d leaves port p
--   Ring ends turns p           from its smallest dart on, following the turns meets every dart of port p and comes back to that dart
--   Stay, Same                  every turn is a dart, and leaves the port of its own dart
--   Wild, Away, Broken          of a dart: its turn is 2E or more; its turn leaves another port; of a port: its darts do not form one ring
--   Turned ends turns           the turns permute the darts, stay at their ports, and the darts of each port are one cycle
-- refuse_at_lowest, refuse_at_none: refuse_at refuses at the lowest bad number, and passes where there is none. apart_tells, cuts_tells: refusals 10 and 11. ring_iff: one ring. wild_tells, away_tells, broken_tells: refusals 12 to 14; turns_none: where none is given. turned: what they leave.
-- Assumes nothing.
use mathlib.Core.Path.{◌≡◌, refl, subst, sym, ap, ◌∙◌}
use mathlib.Core.Logic.{⊎_elim, ◌≢◌, ◌⊎◌, inl, inr, ◌↔◌}
use mathlib.Core.Bool.{Bool, not, true, false, ◌&&◌, cond}
use mathlib.Core.List.{List, [], ◌∷◌}
use Prim.Native.Nat.{ℕ, ◌<◌, ◌≤◌, ◌*◌, ◌+◌, ◌-◌, zero, suc}
use native.Mathlib.Nat.{not-suc-le-zero, eq-zero-or-pos}
use native.Mathlib.Decide.{dec_lt}
use native.Mathlib.Omega.{arith}
use lib.Dec.{T, ltb, ltb→lt, lt→ltb, eqb, eqb→eq, eqb_refl, leb→le, le→leb, T_not, not_T}
use lib.ListN.{length, get_or}
use Rattle.rules.specs.Lists.{from, any, all, has, seek, at}
use Rattle.rules.specs.Terms.{leaves, darts_at, onward, ring}
use Rattle.rules.specs.Ways.{in_play, reached}
use Rattle.rules.specs.Refusals.{Answer, given, refused, Test, ◌>>◌, passed, refuse_at, itself, apart, cuts, wild_turn, away_turn, one_ring, broken_ring, turn_tests}
use Rattle.laws.proofs.Tests.{cond_cases, T_is, T_isnt, eq_eqb, neqb_ne, ne_neqb, and_T, T_and, not_and, not_not}
use Rattle.laws.proofs.Counts.{is_self, is_cases, is_apart, is_le, count, count_head, zero_of, length_le}
use Rattle.laws.proofs.Lists.{any_T, T_any, not_any, all_T, T_all, keep_le, keep_T, T_keep, count_from, from_lt, from_once, seek_first, seek_found, seek_finds}
use Rattle.laws.proofs.Reaches.{whole_of, play_dart, play_reverse, Linked, linked_join, linked_back, reached_iff, but}
use Rattle.laws.proofs.Refusals.{refused_not, refuse_at_passed}
use Rattle.laws.proofs.FragmentMeaning.{Rising, rising_first, from_rises, keep_rises}

-- ---- answers in a row

pub refused_inj : {A : Type 0} (m q n p : ℕ) → ◌≡◌ {A = Answer A} (refused m q) (refused n p) → (m ≡ n) × (q ≡ p)
refused_inj {A} m q n p h = (ap number h, ap place h)
  where
    number : Answer A → ℕ
    number (given a) = 0
    number (refused i j) = i

    place : Answer A → ℕ
    place (given a) = 0
    place (refused i j) = j

refused_as : {A : Type 0} (m q n p : ℕ) → m ≡ n → q ≡ p → ◌≡◌ {A = Answer A} (refused m q) (refused n p)
refused_as m q n p e h = λ i. refused (e i) (h i)

-- a refusal comes from the first test, or from what follows where that passes
pub then_refused : {B : Type 0} (t : Test) (a : Answer B) (n p : ℕ) → ((t >> a) ≡ refused n p) ↔ ((t ≡ refused n p) ⊎ ((t ≡ passed) × (a ≡ refused n p)))
then_refused (given u) a n p = ((λ h. inr (refl, h)), (λ h. ⊎_elim (λ e. absurd (refused_not n p u (sym e))) (λ k. k.1) h))
then_refused {B} (refused m q) a n p = (
  (λ h. let e = refused_inj m q n p h in inl (refused_as m q n p e.0 e.1)),
  (λ h. ⊎_elim (λ k. let e = refused_inj m q n p k in refused_as m q n p e.0 e.1) (λ k. absurd (refused_not m q tt k.0)) h),
)

pub then_given_iff : {B : Type 0} (t : Test) (a : Answer B) (y : B) → ((t >> a) ≡ given y) ↔ ((t ≡ passed) × (a ≡ given y))
then_given_iff (given u) a y = ((λ h. (refl, h)), (λ h. h.1))
then_given_iff (refused m q) a y = ((λ h. absurd (refused_not m q y h)), (λ h. absurd (refused_not m q tt h.0)))

-- ---- the lowest place

abbrev pub LowestWhere : (ℕ → Type 0) → ℕ → ℕ → Type 0
LowestWhere P m i = (i < m) × P i × ((j : ℕ) → j < i → P j → ⊥)

abbrev pub Tells : (ℕ → Bool) → ℕ → (ℕ → Type 0) → Type 0
Tells bad m P = (i : ℕ) → i < m → T (bad i) ↔ P i

module _ (n : ℕ) (place : ℕ → ℕ) (bad : ℕ → Bool) (m : ℕ) where
  refuse_at_yes : seek bad 0 m < m → refuse_at n place bad m ≡ refused n (place (seek bad 0 m))
  unfolding refuse_at
  refuse_at_yes h = rw (T_is (ltb (seek bad 0 m) m) (lt→ltb (seek bad 0 m) m h))

  refuse_at_no : (seek bad 0 m < m → ⊥) → refuse_at n place bad m ≡ passed
  unfolding refuse_at
  refuse_at_no h = rw (T_isnt (ltb (seek bad 0 m) m) (λ t. h (ltb→lt (seek bad 0 m) m t)))

  -- it refuses with its own number only
  pub refuse_at_number : (k p : ℕ) → refuse_at n place bad m ≡ refused k p → n ≡ k
  refuse_at_number k p h = go (dec_lt (seek bad 0 m) m)
    where
      go : Dec (seek bad 0 m < m) → n ≡ k
      go (yes l) = (refused_inj n (place (seek bad 0 m)) k p (sym (refuse_at_yes l) ∙ h)).0
      go (no l) = absurd (refused_not k p tt (sym h ∙ refuse_at_no l))

  module _ (P : ℕ → Type 0) (tells : Tells bad m P) where
    -- what the search finds is the lowest
    seek_lowest : seek bad 0 m < m → LowestWhere P m (seek bad 0 m)
    seek_lowest l = (
      l,
      (tells (seek bad 0 m) l).0 (seek_found bad 0 m (omega arith)),
      (λ j k h. T_not (bad j) (seek_first bad 0 m j (omega arith) k) ((tells j (omega arith)).1 h)),
    )

    lowest_seek : (i : ℕ) → LowestWhere P m i → seek bad 0 m ≡ i
    lowest_seek i h = go (dec_lt i (seek bad 0 m)) (dec_lt (seek bad 0 m) i)
      where
        go : Dec (i < seek bad 0 m) → Dec (seek bad 0 m < i) → seek bad 0 m ≡ i
        go (yes a) b = absurd (T_not (bad i) (seek_first bad 0 m i (omega arith) a) ((tells i h.0).1 h.1))
        go (no a) (yes b) = absurd (h.2 (seek bad 0 m) b ((tells (seek bad 0 m) (omega (arith, h.0))).0 (seek_found bad 0 m (omega (arith, h.0)))))
        go (no a) (no b) = omega arith

    -- A test refuses at the place of the lowest number that is bad,
    pub refuse_at_lowest : (p : ℕ) → (refuse_at n place bad m ≡ refused n p) ↔ ((i : ℕ) × LowestWhere P m i × (place i ≡ p))
    refuse_at_lowest p = (
      (λ h. found h (dec_lt (seek bad 0 m) m)),
      (λ i. let e = lowest_seek i.0 i.1 in
          refuse_at_yes (omega (arith, i.1.0)) ∙ refused_as n (place (seek bad 0 m)) n p refl (ap place e ∙ i.2)),
    )
      where
        found : refuse_at n place bad m ≡ refused n p → Dec (seek bad 0 m < m) → (i : ℕ) × LowestWhere P m i × (place i ≡ p)
        found h (yes l) = (seek bad 0 m, seek_lowest l, (refused_inj n (place (seek bad 0 m)) n p (sym (refuse_at_yes l) ∙ h)).1)
        found h (no l) = absurd (refused_not n p tt (sym h ∙ refuse_at_no l))

    -- and passes where there is none.
    pub refuse_at_none : (refuse_at n place bad m ≡ passed) ↔ ((i : ℕ) → i < m → P i → ⊥)
    refuse_at_none = (
      (λ h i l k. T_not (bad i) (refuse_at_passed n place bad m h i l) ((tells i l).1 k)),
      (λ h. refuse_at_no (λ l. h (seek bad 0 m) l ((tells (seek bad 0 m) l).0 (seek_found bad 0 m (omega arith))))),
    )

    -- there is none where none is the lowest
    pub refuse_at_clear : ((i : ℕ) → LowestWhere P m i → ⊥) → refuse_at n place bad m ≡ passed
    refuse_at_clear h = refuse_at_no (λ l. h (seek bad 0 m) (seek_lowest l))

-- where the place is the number itself
pub refuse_at_itself : (n : ℕ) (bad : ℕ → Bool) (m : ℕ) (P : ℕ → Type 0) → Tells bad m P → (p : ℕ) → (refuse_at n itself bad m ≡ refused n p) ↔ LowestWhere P m p
refuse_at_itself n bad m P tells p = (
  (λ h. let r = (refuse_at_lowest n itself bad m P tells p).0 h in subst (LowestWhere P m) r.2 r.1),
  (λ h. (refuse_at_lowest n itself bad m P tells p).1 (p, h, refl)),
)

-- ---- 10 and 11

abbrev pub Apart : List ℕ → List Bool → ℕ → Type 0
Apart ends play p = Linked ends (in_play play) (λ q. true) p 0 → ⊥

abbrev pub Cuts : ℕ → List ℕ → List Bool → ℕ → Type 0
Cuts v ends play c = (p : ℕ) × ((q : ℕ) × (p < v) × (q < v) × (p ≢ c) × (q ≢ c) × (Linked ends (in_play play) (but c) p q → ⊥))

module _ (v : ℕ) (ends : List ℕ) (play : List Bool) (size2 : length ends ≡ 2 * length play) (inn : (d : ℕ) → d < length ends → leaves ends d < v) (two : 2 ≤ v) where
  reached_means : (free : ℕ → Bool) (y p : ℕ) → y < v → T (at (reached v ends play free y) p) ↔ Linked ends (in_play play) free p y
  unfolding reached
  reached_means free y p b =
      reached_iff v ends (in_play play) free (whole_of ends (in_play play) (play_dart ends play size2)) (λ d k. inn d (play_dart ends play size2 d k)) y b p

  pub apart_tells : Tells (apart v ends play) v (Apart ends play)
  unfolding apart
  apart_tells p l = (
    (λ t w. T_not (at (reached v ends play (λ q. true) 0) p) t ((reached_means (λ q. true) 0 p (omega arith)).1 w)),
    (λ h. not_T (at (reached v ends play (λ q. true) 0) p) (λ t. h ((reached_means (λ q. true) 0 p (omega arith)).0 t))),
  )

  pub cuts_tells : Tells (cuts v ends play) v (Cuts v ends play)
  unfolding cuts
  cuts_tells c lc = (cut_by, (λ h. by_cases h (cuts v ends play c) refl))
    where
      -- the lowest port but c
      o : ℕ
      o = cond (eqb c 0) 1 0

      o_in : (o < v) × (o ≢ c)
      o_in =
          cond_cases (λ (z : ℕ). (z < v) × (z ≢ c)) (eqb c 0)
          (λ t. (omega arith, (λ e. not-suc-le-zero {n = 0} (omega (arith, eqb→eq c 0 t)))))
          (λ t. (omega arith, (λ e. neqb_ne c 0 t (sym e))))

      away : ℕ → Bool
      away p = not (eqb p c) && not (at (reached v ends play (but c) o) p)

      cut_by : T (any away (from 0 v)) → Cuts v ends play c
      cut_by t =
          let r = any_T away (from 0 v) t in
          let p = r.0 in
          let k = and_T (not (eqb p c)) (not (at (reached v ends play (but c) o) p)) r.2 in
          (p, (o, omega (arith, from_lt p 0 v r.1), o_in.0, neqb_ne p c k.0, o_in.1, (λ w. T_not (at (reached v ends play (but c) o) p) k.1 ((reached_means (but c) o p o_in.0).1 w))))

      -- where no port is away, each is linked to o, and so any two
      joined : T (not (any away (from 0 v))) → (p : ℕ) → p < v → p ≢ c → Linked ends (in_play play) (but c) p o
      joined t p lp np =
          (reached_means (but c) o p o_in.0).0
          (not_not (at (reached v ends play (but c) o) p)
          (not_and (not (eqb p c)) (not (at (reached v ends play (but c) o) p)) (not_any away (from 0 v) p t (count_from p 0 v (omega arith) (omega arith))) (ne_neqb p c np)))

      by_cases : Cuts v ends play c → (b : Bool) → cuts v ends play c ≡ b → T (cuts v ends play c)
      by_cases h true e = rw e tt
      by_cases h false e =
          let t : T (not (any away (from 0 v))) = subst (λ (b : Bool). T (not b)) (sym e) tt in
          let p = h.0 in
          let q = h.1.0 in
          let k = h.1 in
          absurd (k.5 (linked_join ends (in_play play) (but c) (joined t p k.1 k.3) (linked_back ends (in_play play) (but c) (play_reverse play) (ne_neqb o c o_in.1) (joined t q k.2 k.4))))

-- ---- following the turns

module _ (t : List ℕ) where
  onward_add : (i j d : ℕ) → onward t (i + j) d ≡ onward t j (onward t i d)
  unfolding onward
  onward_add zero j d = let e : 0 + j ≡ j = omega arith in ap (λ (n : ℕ). onward t n d) e
  onward_add (suc i) j d =
      let e : suc i + j ≡ suc (i + j) = omega arith in
      ap (λ (n : ℕ). onward t n d) e ∙ onward_add i j (get_or t d 0)

  onward_last : (i d : ℕ) → onward t (suc i) d ≡ get_or t (onward t i d) 0
  unfolding onward
  onward_last zero d = refl
  onward_last (suc i) d = onward_last i (get_or t d 0)

  -- what comes back to d meets nothing new afterwards
  orbit_in : (d k : ℕ) → 1 ≤ k → onward t k d ≡ d → (i : ℕ) → (j : ℕ) × (j < k) × (onward t j d ≡ onward t i d)
  unfolding onward
  orbit_in d k h e zero = (0, h, refl)
  orbit_in d k h e (suc i) =
      let r = orbit_in d k h e i in
      let same : onward t (suc r.0) d ≡ onward t (suc i) d = onward_last r.0 d ∙ ap (λ (z : ℕ). get_or t z 0) r.2 ∙ sym (onward_last i d) in
      go r.0 r.1 same (dec_lt (suc r.0) k)
    where
      go : (j : ℕ) → j < k → onward t (suc j) d ≡ onward t (suc i) d → Dec (suc j < k) → (l : ℕ) × (l < k) × (onward t l d ≡ onward t (suc i) d)
      go j b q (yes l) = (suc j, l, q)
      go j b q (no l) =
          let last : k ≡ suc j = omega arith in
          (0, omega arith, sym e ∙ ap (λ (z : ℕ). onward t z d) last ∙ q)

  ring_from : (n d e : ℕ) → 1 ≤ count e (ring t n d) → (k : ℕ) × (k < n) × (onward t k d ≡ e)
  unfolding ring onward count
  ring_from zero d e h = absurd (not-suc-le-zero h)
  ring_from (suc n) d e h =
      ⊎_elim (λ q. (0, omega arith, sym q)) (λ m. let r = ring_from n (get_or t d 0) e (omega arith) in (suc r.0, omega (arith, r.1), r.2)) (is_cases e d)

  ring_adds : (n d k : ℕ) → k < n → 1 ≤ count (onward t k d) (ring t n d)
  unfolding ring onward count
  ring_adds zero d k h = absurd (not-suc-le-zero h)
  ring_adds (suc n) d zero h = omega (arith, is_self d)
  ring_adds (suc n) d (suc k) h = omega (arith, ring_adds n (get_or t d 0) k (omega arith))

  length_ring : (n d : ℕ) → length (ring t n d) ≡ n
  unfolding ring
  length_ring zero d = refl
  length_ring (suc n) d = ap suc (length_ring n (get_or t d 0))

  ring_once : (n d : ℕ) → ((i j : ℕ) → i < j → j < n → onward t i d ≢ onward t j d) → (z : ℕ) → count z (ring t n d) ≤ 1
  unfolding ring onward count
  ring_once zero d h z = omega arith
  ring_once (suc n) d h z =
      let rest : (w : ℕ) → count w (ring t n (get_or t d 0)) ≤ 1 = ring_once n (get_or t d 0) (λ i j a b. h (suc i) (suc j) (omega arith) (omega arith)) in
      ⊎_elim
      (λ e. omega (arith, is_le z d, zero_of (count z (ring t n (get_or t d 0))) (λ k. let r = ring_from n (get_or t d 0) z k in h 0 (suc r.0) (omega arith) (omega (arith, r.1)) (sym e ∙ sym r.2))))
      (λ m. omega (arith, rest z)) (is_cases z d)

  -- the first time that it comes back to d
  first_back : (d k : ℕ) → 1 ≤ k → onward t k d ≡ d → (m : ℕ) × (1 ≤ m) × (onward t m d ≡ d) × ((i : ℕ) → 1 ≤ i → i < m → onward t i d ≢ d)
  first_back d zero h e = absurd (not-suc-le-zero h)
  first_back d (suc k) h e = (
    suc (seek home 0 (suc k)),
    omega arith,
    eqb→eq (onward t (suc (seek home 0 (suc k))) d) d (seek_finds home 0 (suc k) k (omega arith) (omega arith) (eq_eqb (onward t (suc k) d) d e)),
    early,
  )
    where
      home : ℕ → Bool
      home j = eqb (onward t (suc j) d) d

      early : (i : ℕ) → 1 ≤ i → i < suc (seek home 0 (suc k)) → onward t i d ≢ d
      early zero a b q = not-suc-le-zero a
      early (suc i) a b q = T_not (home i) (seek_first home 0 (suc k) i (omega arith) (omega arith)) (eq_eqb (onward t (suc i) d) d q)

-- ---- lists counted against each other

-- of numbers below n, a list that holds none twice is no longer than a list that holds them all
fewer : (n : ℕ) (l m : List ℕ) → ((z : ℕ) → 1 ≤ count z m → z < n) → ((z : ℕ) → count z l ≤ 1) → ((z : ℕ) → 1 ≤ count z l → 1 ≤ count z m) → length l ≤ length m
fewer n l m b u h = length_le n l m b (λ z. ⊎_elim (λ e. omega arith) (λ p. omega (arith, u z, h z p)) (eq-zero-or-pos (count z l)))

-- ---- one ring

abbrev pub DartOf : List ℕ → ℕ → ℕ → Type 0
DartOf ends p d = (d < length ends) × (leaves ends d ≡ p)

abbrev pub Ring : List ℕ → List ℕ → ℕ → Type 0
Ring ends turns p =
    (d : ℕ) → DartOf ends p d → ((e : ℕ) → DartOf ends p e → d ≤ e)
    → ((e : ℕ) → DartOf ends p e → (k : ℕ) × (onward turns k d ≡ e)) × ((k : ℕ) × (1 ≤ k) × (onward turns k d ≡ d))

module _ (ends : List ℕ) where
  pub darts_at_iff : (p d : ℕ) → (1 ≤ count d (darts_at ends p)) ↔ DartOf ends p d
  unfolding darts_at
  darts_at_iff p d = (
    (λ h. (
      omega (arith, from_lt d 0 (length ends) (omega (arith, keep_le (λ d. eqb (leaves ends d) p) (from 0 (length ends)) d))),
      eqb→eq (leaves ends d) p (keep_T (λ d. eqb (leaves ends d) p) (from 0 (length ends)) d h),
    )),
    (λ h. T_keep (λ d. eqb (leaves ends d) p) (from 0 (length ends)) d (count_from d 0 (length ends) (omega arith) (omega (arith, h.0))) (eq_eqb (leaves ends d) p h.1)),
  )

  darts_at_once : (p z : ℕ) → count z (darts_at ends p) ≤ 1
  unfolding darts_at
  darts_at_once p z = omega (arith, keep_le (λ d. eqb (leaves ends d) p) (from 0 (length ends)) z, from_once z 0 (length ends))

  darts_at_rise : (p : ℕ) → Rising (darts_at ends p)
  unfolding darts_at
  darts_at_rise p = keep_rises (λ d. eqb (leaves ends d) p) (from 0 (length ends)) (from_rises 0 (length ends))

  module _ (t : List ℕ) (stay : (d : ℕ) → d < length ends → get_or t d 0 < length ends) (same : (d : ℕ) → d < length ends → leaves ends (get_or t d 0) ≡ leaves ends d) where
    -- turns stay at their port
    onward_at : (p d : ℕ) → DartOf ends p d → (k : ℕ) → DartOf ends p (onward t k d)
    unfolding onward
    onward_at p d h zero = h
    onward_at p d h (suc k) = onward_at p (get_or t d 0) (stay d h.0, same d h.0 ∙ h.1) k

    -- a way round that meets every dart of the port has as many turns as the port has darts, if it is the first to come back
    module _ (p d : ℕ) (h : DartOf ends p d) (m : ℕ) (pos : 1 ≤ m) (back : onward t m d ≡ d) (meets : (e : ℕ) → DartOf ends p e → (k : ℕ) × (onward t k d ≡ e)) where
      meets_soon : (e : ℕ) → DartOf ends p e → 1 ≤ count e (ring t m d)
      meets_soon e k =
          let r = meets e k in
          let j = orbit_in t d m pos back r.0 in
          subst (λ (z : ℕ). 1 ≤ count z (ring t m d)) (j.2 ∙ r.1) (ring_adds t m d j.0 j.1)

      darts_most : length (darts_at ends p) ≤ m
      darts_most =
          omega (
            arith,
            length_ring t m d,
            fewer (length ends) (darts_at ends p) (ring t m d) in_range (darts_at_once p) (λ z c. meets_soon z ((darts_at_iff p z).0 c)),
          )
        where
          in_range : (z : ℕ) → 1 ≤ count z (ring t m d) → z < length ends
          in_range z c = let r = ring_from t m d z c in subst (λ (w : ℕ). w < length ends) r.2 (onward_at p d h r.0).0

      darts_all_lem : ((i : ℕ) → 1 ≤ i → i < m → onward t i d ≢ d) → m ≤ length (darts_at ends p)
      darts_all_lem first =
          omega (
            arith,
            length_ring t m d,
            fewer (length ends) (ring t m d) (darts_at ends p) (λ z c. ((darts_at_iff p z).0 c).0) (ring_once t m d apart_so) (λ z c. (darts_at_iff p z).1 (on_ring z c)),
          )
        where
          on_ring : (z : ℕ) → 1 ≤ count z (ring t m d) → DartOf ends p z
          on_ring z c = let r = ring_from t m d z c in subst (DartOf ends p) r.2 (onward_at p d h r.0)

          apart_so : (i j : ℕ) → i < j → j < m → onward t i d ≢ onward t j d
          apart_so i j a b e =
              let whole : j + (m - j) ≡ m = omega arith in
              first (i + (m - j)) (omega arith) (omega arith)
              (onward_add t i (m - j) d ∙ ap (onward t (m - j)) e ∙ sym (onward_add t j (m - j) d) ∙ ap (λ (z : ℕ). onward t z d) whole ∙ back)

    -- the definition's test, from the first dart on
    ring_T : (p d : ℕ) (ds : List ℕ) → darts_at ends p ≡ d ∷ ds → T (one_ring t (d ∷ ds))
        ↔ (((e : ℕ) → DartOf ends p e → (k : ℕ) × (onward t k d ≡ e)) × ((k : ℕ) × (1 ≤ k) × (onward t k d ≡ d)))
    unfolding one_ring has
    ring_T p d ds e = (
      (λ w.
          let k = and_T (all (has (ring t n d)) (d ∷ ds)) (eqb (onward t n d) d) w in (
            (λ c h.
                let r = any_T (eqb c) (ring t n d) (all_T (has (ring t n d)) (d ∷ ds) c k.0 (held c h)) in
                let f = ring_from t n d r.0 r.1 in
                (f.0, f.2 ∙ sym (eqb→eq c r.0 r.2))),
            (n, omega arith, eqb→eq (onward t n d) d k.1),
          )),
      (λ w.
          let f = first_back t d w.1.0 w.1.1 w.1.2 in
          let m = f.0 in
          let here : DartOf ends p d = (darts_at_iff p d).0 (subst (λ (l : List ℕ). 1 ≤ count d l) (sym e) (count_head d ds)) in
          let long : m ≡ n = omega (arith, ap length e, darts_most p d here m f.1 f.2 w.0, darts_all_lem p d here m f.1 f.2 w.0 f.3) in
          T_and (all (has (ring t n d)) (d ∷ ds)) (eqb (onward t n d) d)
          (T_all (has (ring t n d)) (d ∷ ds) (λ c h. T_any (eqb c) (ring t n d) c
          (subst (λ (z : ℕ). 1 ≤ count c (ring t z d)) long (meets_soon p d here m f.1 f.2 w.0 c ((darts_at_iff p c).0 (subst (λ (l : List ℕ). 1 ≤ count c l) (sym e) h)))) (eqb_refl c)))
          (eq_eqb (onward t n d) d (subst (λ (z : ℕ). onward t z d ≡ d) long f.2))),
    )
      where
        n : ℕ
        n = length (d ∷ ds)

        held : (c : ℕ) → DartOf ends p c → 1 ≤ count c (d ∷ ds)
        held c h = subst (λ (l : List ℕ). 1 ≤ count c l) e ((darts_at_iff p c).1 h)

    -- The darts of a port pass the test for one ring exactly where, from the smallest on, following the turns meets each of them and comes back.
    pub ring_iff : (p : ℕ) → T (one_ring t (darts_at ends p)) ↔ Ring ends t p
    unfolding count one_ring
    ring_iff p = go (darts_at ends p) refl
      where
        go : (l : List ℕ) → darts_at ends p ≡ l → T (one_ring t l) ↔ Ring ends t p
        go [] e = ((λ w d h low. absurd (not-suc-le-zero (subst (λ (l : List ℕ). 1 ≤ count d l) e ((darts_at_iff p d).1 h)))), (λ w. tt))
        go (d ∷ ds) e =
            let r = ring_T p d ds e in (
              (λ w c h low. subst (λ (z : ℕ). ((f : ℕ) → DartOf ends p f → (k : ℕ) × (onward t k z ≡ f)) × ((k : ℕ) × (1 ≤ k) × (onward t k z ≡ z))) (smallest c h low) (r.0 w)),
              (λ w. r.1 (w d first least)),
            )
          where
            first : DartOf ends p d
            first = (darts_at_iff p d).0 (subst (λ (l : List ℕ). 1 ≤ count d l) (sym e) (count_head d ds))

            least : (f : ℕ) → DartOf ends p f → d ≤ f
            least f h = (rising_first (d ∷ ds) (subst Rising e (darts_at_rise p)) f (subst (λ (l : List ℕ). 1 ≤ count f l) e ((darts_at_iff p f).1 h))).1

            smallest : (c : ℕ) → DartOf ends p c → ((f : ℕ) → DartOf ends p f → c ≤ f) → d ≡ c
            smallest c h low = omega (arith, least c h, low d first)

-- ---- 12 to 14

-- what the tests of the turns leave: they permute the darts, stay at their ports, and the darts of each port are one cycle
pub record Turned (ends turns : List ℕ) : Type 0 where
  pub stay : (d : ℕ) → d < length ends → get_or turns d 0 < length ends
  pub same : (d : ℕ) → d < length ends → leaves ends (get_or turns d 0) ≡ leaves ends d
  pub once : (d e : ℕ) → d < length ends → e < length ends → get_or turns d 0 ≡ get_or turns e 0 → d ≡ e
  pub cycle : (d e : ℕ) → d < length ends → e < length ends → leaves ends d ≡ leaves ends e → (k : ℕ) × (onward turns k d ≡ e)

-- every turn is a dart
abbrev pub Stay : List ℕ → List ℕ → Type 0
Stay ends turns = (d : ℕ) → d < length ends → get_or turns d 0 < length ends

-- and leaves the same port
abbrev pub Same : List ℕ → List ℕ → Type 0
Same ends turns = (d : ℕ) → d < length ends → leaves ends (get_or turns d 0) ≡ leaves ends d

-- the turn of dart d is 2E or more
abbrev pub Wild : List ℕ → List ℕ → ℕ → Type 0
Wild ends turns d = length ends ≤ get_or turns d 0

-- the turn of dart d leaves another port
abbrev pub Away : List ℕ → List ℕ → ℕ → Type 0
Away ends turns d = leaves ends (get_or turns d 0) ≢ leaves ends d

-- the darts of port p do not form one ring
abbrev pub Broken : List ℕ → List ℕ → ℕ → Type 0
Broken ends turns p = Ring ends turns p → ⊥

module _ (v : ℕ) (ends t : List ℕ) where
  pub wild_tells : Tells (wild_turn ends t) (length ends) (Wild ends t)
  unfolding wild_turn
  wild_tells d l = (leb→le (length ends) (get_or t d 0), le→leb (length ends) (get_or t d 0))

  pub away_tells : Tells (away_turn ends t) (length ends) (Away ends t)
  unfolding away_turn
  away_tells d l = (neqb_ne (leaves ends (get_or t d 0)) (leaves ends d), ne_neqb (leaves ends (get_or t d 0)) (leaves ends d))

  pub broken_tells : Stay ends t → Same ends t → Tells (broken_ring ends t) v (Broken ends t)
  unfolding broken_ring
  broken_tells stay same p l =
      let r = ring_iff ends t stay same p in
      ((λ h w. T_not (one_ring t (darts_at ends p)) h (r.1 w)), (λ h. not_T (one_ring t (darts_at ends p)) (λ w. h (r.0 w))))

  pub pass_12 : (refuse_at 12 itself (wild_turn ends t) (length ends) ≡ passed) ↔ Stay ends t
  pass_12 =
      let n = refuse_at_none 12 itself (wild_turn ends t) (length ends) (Wild ends t) wild_tells in
      ((λ h d l. let no-wild : Wild ends t d → ⊥ = n.0 h d l in omega arith), (λ h. n.1 (λ d l k. not-suc-le-zero {n = 0} (omega (arith, h d l)))))

  pub pass_13 : (refuse_at 13 itself (away_turn ends t) (length ends) ≡ passed) ↔ Same ends t
  pass_13 =
      let n = refuse_at_none 13 itself (away_turn ends t) (length ends) (Away ends t) away_tells in
      ((λ h d l. ⊎_elim (λ e. e) (λ m. absurd (n.0 h d l (is_apart (leaves ends (get_or t d 0)) (leaves ends d) m))) (is_cases (leaves ends (get_or t d 0)) (leaves ends d))), (λ h. n.1 (λ d l k. k (h d l))))

  pass_14 : Stay ends t → Same ends t → (refuse_at 14 itself (broken_ring ends t) v ≡ passed) ↔ ((p : ℕ) → p < v → Ring ends t p)
  unfolding broken_ring
  pass_14 stay same = (
    (λ h p l. (ring_iff ends t stay same p).0 (not_not (one_ring t (darts_at ends p)) (refuse_at_passed 14 itself (broken_ring ends t) v h p l))),
    (λ h. (refuse_at_none 14 itself (broken_ring ends t) v (Broken ends t) (broken_tells stay same)).1 (λ p l k. k (h p l))),
  )

  abbrev test_12 : Test
  test_12 = refuse_at 12 itself (wild_turn ends t) (length ends)

  abbrev test_13 : Test
  test_13 = refuse_at 13 itself (away_turn ends t) (length ends)

  abbrev test_14 : Test
  test_14 = refuse_at 14 itself (broken_ring ends t) v

  -- None of them: every turn is a dart that leaves the same port, and the darts of each port form one ring.
  pub turns_none : (turn_tests v ends t ≡ passed) ↔ (Stay ends t × Same ends t × ((p : ℕ) → p < v → Ring ends t p))
  unfolding turn_tests
  turns_none = (
    (λ h.
        let k = (then_given_iff test_12 (test_13 >> test_14) tt).0 h in
        let j = (then_given_iff test_13 test_14 tt).0 k.1 in
        let stay = pass_12.0 k.0 in
        let same = pass_13.0 j.0 in
        (stay, same, (pass_14 stay same).0 j.1)),
    (λ h. (then_given_iff test_12 (test_13 >> test_14) tt).1 (pass_12.1 h.0, (then_given_iff test_13 test_14 tt).1 (pass_13.1 h.1, (pass_14 h.0 h.1).1 h.2))),
  )

-- the smallest dart of a port that has one
smallest_dart : (ends : List ℕ) (p d : ℕ) → DartOf ends p d → (s : ℕ) × DartOf ends p s × ((e : ℕ) → DartOf ends p e → s ≤ e)
smallest_dart ends p d h =
    let l = darts_at ends p in
    let first : (e : ℕ) → DartOf ends p e → (1 ≤ count (get_or l 0 0) l) × (get_or l 0 0 ≤ e) = (λ e k. rising_first l (darts_at_rise ends p) e ((darts_at_iff ends p e).1 k)) in
    (get_or l 0 0, (darts_at_iff ends p (get_or l 0 0)).0 (first d h).0, (λ e k. (first e k).1))

-- from one dart of a ring to another, and no two have the same turn
module _ (ends t : List ℕ) (p : ℕ) (R : Ring ends t p) where
  -- the smallest dart, and after how many turns it is met first again
  round : (d : ℕ) → DartOf ends p d → (s : ℕ) × ((m : ℕ) × (1 ≤ m) × (onward t m s ≡ s) × ((i : ℕ) → 1 ≤ i → i < m → onward t i s ≢ s) × ((e : ℕ) → DartOf ends p e → (k : ℕ) × (k < m) × (onward t k s ≡ e)))
  round d h =
      let s = smallest_dart ends p d h in
      let r = R s.0 s.1 s.2 in
      let f = first_back t s.0 r.1.0 r.1.1 r.1.2 in
      (s.0, (f.0, f.1, f.2, f.3, (λ e k. let a = r.0 e k in let b = orbit_in t s.0 f.0 f.1 f.2 a.0 in (b.0, b.1, b.2 ∙ a.1))))

  ring_cycle : (d e : ℕ) → DartOf ends p d → DartOf ends p e → (k : ℕ) × (onward t k d ≡ e)
  ring_cycle d e h k =
      let r = round d h in
      let s = r.0 in
      let m = r.1.0 in
      let a = r.1.4 d h in
      let b = r.1.4 e k in
      let whole : a.0 + (m - a.0) ≡ m = omega (arith, a.1) in
      let home : onward t (m - a.0) d ≡ s =
      ap (onward t (m - a.0)) (sym a.2) ∙ sym (onward_add t a.0 (m - a.0) s) ∙ ap (λ (z : ℕ). onward t z s) whole ∙ r.1.2 in
      ((m - a.0) + b.0, onward_add t (m - a.0) b.0 d ∙ ap (onward t b.0) home ∙ b.2)

  ring_single : (d e : ℕ) → DartOf ends p d → DartOf ends p e → get_or t d 0 ≡ get_or t e 0 → d ≡ e
  ring_single d e h k q = go (dec_lt a.0 b.0) (dec_lt b.0 a.0)
    where
      s : ℕ
      s = (round d h).0

      m : ℕ
      m = (round d h).1.0

      a : (i : ℕ) × (i < m) × (onward t i s ≡ d)
      a = (round d h).1.4 d h

      b : (i : ℕ) × (i < m) × (onward t i s ≡ e)
      b = (round d h).1.4 e k

      apart_so : (i j : ℕ) → i < j → j < m → onward t (suc i) s ≡ onward t (suc j) s → ⊥
      apart_so i j l n w =
          let whole : suc j + (m - suc j) ≡ m = omega arith in
          (round d h).1.3 (suc i + (m - suc j)) (omega arith) (omega arith)
          (onward_add t (suc i) (m - suc j) s ∙ ap (onward t (m - suc j)) w ∙ sym (onward_add t (suc j) (m - suc j) s) ∙ ap (λ (z : ℕ). onward t z s) whole ∙ (round d h).1.2)

      meet : onward t (suc a.0) s ≡ onward t (suc b.0) s
      meet = onward_last t a.0 s ∙ ap (λ (z : ℕ). get_or t z 0) a.2 ∙ q ∙ ap (λ (z : ℕ). get_or t z 0) (sym b.2) ∙ sym (onward_last t b.0 s)

      go : Dec (a.0 < b.0) → Dec (b.0 < a.0) → d ≡ e
      go (yes l) n = absurd (apart_so a.0 b.0 l b.1 meet)
      go (no l) (yes n) = absurd (apart_so b.0 a.0 n a.1 (sym meet))
      go (no l) (no n) =
          let i : a.0 ≡ b.0 = omega arith in
          sym a.2 ∙ ap (λ (z : ℕ). onward t z s) i ∙ b.2

-- Where no test of the turns refuses, the turns permute the darts, stay at their ports, and the darts of each port are one cycle.
pub turned : (v : ℕ) (ends t : List ℕ) → ((d : ℕ) → d < length ends → leaves ends d < v) → turn_tests v ends t ≡ passed → Turned ends t
turned v ends t inn h =
    let r = (turns_none v ends t).0 h in
    record {
      stay = r.0;
      same = r.1;
      once = λ d e l m q.
          let p : leaves ends e ≡ leaves ends d = sym (r.1 e m) ∙ ap (leaves ends) (sym q) ∙ r.1 d l in
          ring_single ends t (leaves ends d) (r.2 (leaves ends d) (inn d l)) d e (l, refl) (m, p) q;
      cycle = λ d e l m q. ring_cycle ends t (leaves ends d) (r.2 (leaves ends d) (inn d l)) d e (l, refl) (m, sym q);
    }
