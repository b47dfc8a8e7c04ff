-- Rings of darts (document 01, "Terms"): a ring is a list of darts, each the turn of the one before, that comes back to its first.
--   Sweep t d l e       d, then the darts of l, then e, each the turn of the one before
--   Circle t l          l is a sweep that comes back to its first dart
--   RingAt ps t p       the laid darts of port p, each once and no others, in one ring
--   laid_at ps t p       the laid darts of port p, rising
--   woven t u l         l, with the turn under u put behind each dart where t has not laid that turn
--   Follows t u w       after dart w comes under u what comes under t, or else a dart that t has not laid, and after that what comes under t
-- keep_every, cut_at, once_at, map_one: lists of numbers by their counts. laid_at_..: which darts are the laid ones of a port.
-- sweep_.., circle_..: sweeps are joined and cut, and a circle is one from whichever dart it is listed. sweep_ring, sweep_onward, sweep_reach: the definitions ring and onward along a sweep. sweep_inj: in a circle no two darts have the same turn.
-- ring_from, ring_length, one_ring_lem: a ring at a port is found from each of its darts, has as many darts as the port has laid ones, and passes the test of refusal 14. ring_two: a ring of two darts.
-- sweep_woven, keep_woven, count_woven_..: new darts are put into a ring, and without them it is as it was.
-- Assumes nothing.
use mathlib.Core.Path.{◌≡◌, refl, sym, ap, ◌∙◌, subst}
use mathlib.Core.Logic.{◌≢◌, ◌⊎◌, inl, inr, ⊎_elim}
use mathlib.Core.Bool.{Bool, true, false, cond}
use mathlib.Core.List.{List, [], ◌∷◌, ◌++◌, map}
use Prim.Native.Nat.{ℕ, ◌≤◌, ◌<◌, ◌+◌, suc}
use native.Mathlib.Nat.{not-suc-le-zero, eq-zero-or-pos}
use native.Mathlib.Omega.{arith}
use lib.Dec.{T, eqb, eqb_refl, eqb→eq}
use lib.ListN.{length, get_or}
use Rattle.rules.specs.Lists.{from, all, keep, has}
use Rattle.rules.specs.Terms.{leaves, enters, reverse, laid, darts_at, onward, ring}
use Rattle.rules.specs.Refusals.{one_ring}
use Rattle.rules.specs.Laying.{back}
use Rattle.laws.proofs.Tests.{T_is, eq_eqb, T_and}
use Rattle.laws.proofs.Counts.{length_same, flag, flag_T, T_flag, flag_le, is, is_self, is_not, is_cases, is_apart, count, count_head, count_append, count_map, zero_of, Distinct}
use Rattle.laws.proofs.Lists.{T_all, T_any, keep_le, keep_T, T_keep, count_from, from_lt, from_once}
use Rattle.laws.proofs.Runs.{is_reverse, count_back}
use Rattle.laws.proofs.Links.{laid_lt}
use Rattle.laws.proofs.Trails.{leaves_reverse, enters_reverse}

-- ---- lists

pub keep_every : (f : ℕ → Bool) (l : List ℕ) → ((z : ℕ) → 1 ≤ count z l → T (f z)) → keep f l ≡ l
unfolding keep count
keep_every f [] h = refl
keep_every f (x ∷ l) h = rw (T_is (f x) (h x (omega (arith, is_self x)))) (ap (λ (m : List ℕ). x ∷ m) (keep_every f l (λ z k. h z (omega arith))))

-- a list is cut at what stands in it
pub cut_at : (z : ℕ) (l : List ℕ) → 1 ≤ count z l → (u : List ℕ) × ((v : List ℕ) × (l ≡ u ++ z ∷ v))
unfolding count
cut_at z [] h = absurd (not-suc-le-zero h)
cut_at z (x ∷ l) h =
    ⊎_elim (λ e. ([], (l, ap (λ (w : ℕ). w ∷ l) (sym e))))
    (λ n. let r = cut_at z l (omega arith) in (x ∷ r.0, (r.1.0, ap (λ (m : List ℕ). x ∷ m) r.1.1))) (is_cases z x)

-- of numbers that f tells apart in l, one stands there
count_two : (f : ℕ → ℕ) (l : List ℕ) (y z : ℕ) → y ≢ z → f y ≡ f z → count y l + count z l ≤ count (f z) (map f l)
unfolding count
count_two f [] y z ne e = omega arith
count_two f (x ∷ l) y z ne e =
    ⊎_elim (λ k. omega (arith, count_two f l y z ne e, is_self y, ap (is y) (sym k), is_not z x (λ j. ne (k ∙ sym j)), is_self (f z), ap (is (f z)) (sym e ∙ ap f k)))
    (λ n. ⊎_elim (λ k. omega (arith, count_two f l y z ne e, is_self z, ap (is z) (sym k), is_self (f z), ap (is (f z)) (ap f k)))
    (λ m. omega (arith, count_two f l y z ne e)) (is_cases z x)) (is_cases y x)

pub once_at : (f : ℕ → ℕ) (l : List ℕ) → ((p : ℕ) → count p (map f l) ≤ 1) → (z : ℕ) → 1 ≤ count z l → (y : ℕ) → f y ≡ f z → count y l ≡ is y z
once_at f l u z h y e =
    ⊎_elim (λ k. omega (arith, ap (λ (w : ℕ). count w l) k, ap (λ (w : ℕ). is w z) k, is_self z, h, count_map f z l, u (f z)))
    (λ n. omega (arith, count_two f l y z (is_apart y z n) e, h, u (f z))) (is_cases y z)

-- where f leads to z from s alone, z stands in f's list as often as s in l
pub map_one : (f : ℕ → ℕ) (z s : ℕ) (l : List ℕ) → ((w : ℕ) → 1 ≤ count w l → is z (f w) ≡ is s w) → count z (map f l) ≡ count s l
unfolding count
map_one f z s [] h = refl
map_one f z s (x ∷ l) h = omega (arith, h x (omega (arith, is_self x)), map_one f z s l (λ w k. h w (omega arith)))

-- ---- sweeps

abbrev pub Sweep : List ℕ → ℕ → List ℕ → ℕ → Type 0
Sweep t d [] e = get_or t d 0 ≡ e
Sweep t d (x ∷ l) e = (get_or t d 0 ≡ x) × Sweep t x l e

abbrev pub Circle : List ℕ → List ℕ → Type 0
Circle t [] = ⊥
Circle t (d ∷ l) = Sweep t d l d

pub sweep_append : (t : List ℕ) (d : ℕ) (l : List ℕ) (x : ℕ) (m : List ℕ) (e : ℕ) → Sweep t d l x → Sweep t x m e → Sweep t d (l ++ x ∷ m) e
sweep_append t d [] x m e h k = (h, k)
sweep_append t d (y ∷ l) x m e h k = (h.0, sweep_append t y l x m e h.1 k)

pub sweep_cut : (t : List ℕ) (d : ℕ) (l : List ℕ) (x : ℕ) (m : List ℕ) (e : ℕ) → Sweep t d (l ++ x ∷ m) e → Sweep t d l x × Sweep t x m e
sweep_cut t d [] x m e h = (h.0, h.1)
sweep_cut t d (y ∷ l) x m e h = let r = sweep_cut t y l x m e h.1 in ((h.0, r.0), r.1)

-- a circle from one of its darts on
pub circle_from : (t l : List ℕ) (d : ℕ) → Circle t l → 1 ≤ count d l → (m : List ℕ) × Sweep t d m d × ((z : ℕ) → count z (d ∷ m) ≡ count z l)
circle_from t l d h c = let r = cut_at d l c in go r.0 r.1.0 (subst (Circle t) r.1.1 h) r.1.1
  where
    go : (u v : List ℕ) → Circle t (u ++ d ∷ v) → l ≡ u ++ d ∷ v → (m : List ℕ) × Sweep t d m d × ((z : ℕ) → count z (d ∷ m) ≡ count z l)
    go [] v k e = (v, k, (λ z. sym (ap (count z) e)))
    go (x ∷ u) v k e =
        let r = sweep_cut t x u d v x k in
        (v ++ x ∷ u, sweep_append t d v x u d r.1 r.0, (λ z. omega (arith, count_append z (d ∷ v) (x ∷ u), count_append z (x ∷ u) (d ∷ v), ap (count z) e)))

pub sweep_ring : (t : List ℕ) (d : ℕ) (l : List ℕ) (e : ℕ) → Sweep t d l e → ring t (length (d ∷ l)) d ≡ d ∷ l
unfolding ring
sweep_ring t d [] e h = refl
sweep_ring t d (x ∷ l) e h = ap (λ (m : List ℕ). d ∷ m) (ap (ring t (length (x ∷ l))) h.0 ∙ sweep_ring t x l e h.1)

pub sweep_onward : (t : List ℕ) (d : ℕ) (l : List ℕ) (e : ℕ) → Sweep t d l e → onward t (length (d ∷ l)) d ≡ e
unfolding onward
sweep_onward t d [] e h = h
sweep_onward t d (x ∷ l) e h = ap (onward t (length (x ∷ l))) h.0 ∙ sweep_onward t x l e h.1

-- every dart of a sweep is reached
pub sweep_reach : (t : List ℕ) (d : ℕ) (l : List ℕ) (e : ℕ) → Sweep t d l e → (z : ℕ) → 1 ≤ count z (d ∷ l) → (n : ℕ) × (n < length (d ∷ l)) × (onward t n d ≡ z)
unfolding onward count
sweep_reach t d [] e h z c = ⊎_elim (λ k. (0, omega arith, sym k)) (λ n. absurd (not-suc-le-zero {n = 0} (omega arith))) (is_cases z d)
sweep_reach t d (x ∷ l) e h z c =
    ⊎_elim (λ k. (0, omega arith, sym k))
    (λ n. let r = sweep_reach t x l e h.1 z (omega arith) in (suc r.0, omega (arith, r.1), ap (onward t r.0) h.0 ∙ r.2)) (is_cases z d)

-- the turn of a sweep's dart
sweep_into : (t : List ℕ) (d : ℕ) (l : List ℕ) (e : ℕ) → Sweep t d l e → (z : ℕ) → 1 ≤ count z (d ∷ l) → (1 ≤ count (get_or t z 0) l) ⊎ (get_or t z 0 ≡ e)
unfolding count
sweep_into t d [] e h z c = ⊎_elim (λ k. inr (ap (λ (w : ℕ). get_or t w 0) k ∙ h)) (λ n. absurd (not-suc-le-zero {n = 0} (omega arith))) (is_cases z d)
sweep_into t d (x ∷ l) e h z c =
    ⊎_elim (λ k. inl (omega (arith, is_self x, ap (λ (w : ℕ). is w x) (ap (λ (w : ℕ). get_or t w 0) k ∙ h.0))))
    (λ n. ⊎_elim (λ k. inl (omega arith)) inr (sweep_into t x l e h.1 z (omega arith))) (is_cases z d)

-- the first dart's turn is no other's
sweep_first : (t : List ℕ) (d : ℕ) (l : List ℕ) (e : ℕ) → Distinct l → count e l ≡ 0 → Sweep t d l e → (z : ℕ) → 1 ≤ count z l → get_or t z 0 ≢ get_or t d 0
unfolding count
sweep_first t d [] e u f h z c k = not-suc-le-zero c
sweep_first t d (x ∷ l) e u f h z c k =
    ⊎_elim (λ i. omega (arith, u.0, i, ap (λ (w : ℕ). count w l) (k ∙ h.0)))
    (λ i. omega (arith, f, is_self e, ap (is e) (sym i ∙ k ∙ h.0))) (sweep_into t x l e h.1 z c)

pub sweep_inj : (t : List ℕ) (d : ℕ) (l : List ℕ) (e : ℕ) → Distinct l → count e l ≡ 0 → Sweep t d l e → (y z : ℕ) → 1 ≤ count y (d ∷ l) → 1 ≤ count z (d ∷ l) → get_or t y 0 ≡ get_or t z 0 → y ≡ z
unfolding count
sweep_inj t d [] e u f h y z cy cz k =
    ⊎_elim (λ a. ⊎_elim (λ b. a ∙ sym b) (λ n. absurd (not-suc-le-zero {n = 0} (omega arith))) (is_cases z d)) (λ n. absurd (not-suc-le-zero {n = 0} (omega arith))) (is_cases y d)
sweep_inj t d (x ∷ l) e u f h y z cy cz k =
    ⊎_elim (λ a. ⊎_elim (λ b. a ∙ sym b) (λ n. absurd (sweep_first t d (x ∷ l) e u f h z (omega arith) (sym k ∙ ap (λ (w : ℕ). get_or t w 0) a))) (is_cases z d))
    (λ n. ⊎_elim (λ b. absurd (sweep_first t d (x ∷ l) e u f h y (omega arith) (k ∙ ap (λ (w : ℕ). get_or t w 0) b)))
    (λ m. sweep_inj t x l e u.1 (omega arith) h.1 y z (omega arith) (omega arith) k) (is_cases z d)) (is_cases y d)

-- ---- the laid darts of a port

abbrev pub laid_at : List ℕ → List ℕ → ℕ → List ℕ
laid_at ps t p = keep (laid t) (darts_at ps p)

pub laid_at_here : (ps t : List ℕ) → length t ≡ length ps → (p z : ℕ) → leaves ps z ≡ p → count z (laid_at ps t p) ≡ flag (laid t z)
unfolding darts_at
laid_at_here ps t e p z h =
    ⊎_elim (λ n. zero_of _ (λ c. omega (arith, flag_T (laid t z) (keep_T (laid t) (darts_at ps p) z c))) ∙ sym n)
    (λ l.
    let k = T_flag (laid t z) l in
    omega (
      arith,
      flag_T (laid t z) k,
      T_keep (laid t) (darts_at ps p) z (T_keep (λ d. eqb (leaves ps d) p) (from 0 (length ps)) z (count_from z 0 (length ps) (omega arith) (omega (arith, laid_lt t z k))) (eq_eqb (leaves ps z) p h)) k,
      keep_le (laid t) (darts_at ps p) z,
      keep_le (λ d. eqb (leaves ps d) p) (from 0 (length ps)) z,
      from_once z 0 (length ps),
    ))
    (eq-zero-or-pos (flag (laid t z)))

pub laid_at_away : (ps t : List ℕ) (p z : ℕ) → leaves ps z ≢ p → count z (laid_at ps t p) ≡ 0
unfolding darts_at
laid_at_away ps t p z n =
    zero_of _ (λ c. n (eqb→eq (leaves ps z) p (keep_T (λ d. eqb (leaves ps d) p) (from 0 (length ps)) z (omega (arith, c, keep_le (laid t) (darts_at ps p) z)))))

pub laid_at_in : (ps t : List ℕ) (p z : ℕ) → 1 ≤ count z (laid_at ps t p) → (leaves ps z ≡ p) × T (laid t z)
laid_at_in ps t p z c =
    (⊎_elim (λ e. e) (λ n. absurd (not-suc-le-zero {n = 0} (omega (arith, c, laid_at_away ps t p z (is_apart (leaves ps z) p n))))) (is_cases (leaves ps z) p), keep_T (laid t) (darts_at ps p) z c)

-- where all darts are laid, they are the darts of the port
pub laid_at_all : (ps t : List ℕ) → ((d : ℕ) → d < length ps → T (laid t d)) → (p : ℕ) → laid_at ps t p ≡ darts_at ps p
unfolding darts_at
laid_at_all ps t h p =
    keep_every (laid t) (darts_at ps p) (λ z k. h z (omega (arith, from_lt z 0 (length ps) (omega (arith, k, keep_le (λ d. eqb (leaves ps d) p) (from 0 (length ps)) z)))))

-- ---- the ring of a port

pub record RingAt (ps t : List ℕ) (p : ℕ) : Type 0 where
  pub darts : List ℕ
  pub round : Circle t darts
  pub here : (z : ℕ) → leaves ps z ≡ p → count z darts ≡ flag (laid t z)
  pub away : (z : ℕ) → leaves ps z ≢ p → count z darts ≡ 0

module _ (ps t : List ℕ) (p : ℕ) (R : RingAt ps t p) where
  -- its darts are laid and leave the port
  pub ring_in : (z : ℕ) → 1 ≤ count z R.darts → (leaves ps z ≡ p) × T (laid t z)
  ring_in z h =
      ⊎_elim (λ e. (e, T_flag (laid t z) (omega (arith, h, R.here z e)))) (λ n. absurd (not-suc-le-zero {n = 0} (omega (arith, h, R.away z (is_apart (leaves ps z) p n))))) (is_cases (leaves ps z) p)

  pub ring_once : (z : ℕ) → count z R.darts ≤ 1
  ring_once z =
      ⊎_elim (λ e. omega (arith, R.here z e, flag_le (laid t z))) (λ n. omega (arith, R.away z (is_apart (leaves ps z) p n))) (is_cases (leaves ps z) p)

  module _ (long : length t ≡ length ps) where
    pub ring_same : (z : ℕ) → count z R.darts ≡ count z (laid_at ps t p)
    ring_same z =
        ⊎_elim (λ e. R.here z e ∙ sym (laid_at_here ps t long p z e)) (λ n. let ne = is_apart (leaves ps z) p n in R.away z ne ∙ sym (laid_at_away ps t p z ne)) (is_cases (leaves ps z) p)

    -- as many as the port has laid darts
    pub ring_length : length R.darts ≡ length (laid_at ps t p)
    ring_length = length_same (length t) R.darts (laid_at ps t p) (λ z k. laid_lt t z (ring_in z (omega (arith, ring_same z))).1) ring_same

    -- from each of its darts on
    pub ring_from : (d : ℕ) → leaves ps d ≡ p → T (laid t d)
        → (m : List ℕ) × Sweep t d m d × ((z : ℕ) → count z (d ∷ m) ≡ count z R.darts) × (length (d ∷ m) ≡ length (laid_at ps t p))
    ring_from d e h =
        let r = circle_from t R.darts d R.round (omega (arith, R.here d e, flag_T (laid t d) h)) in (
          r.0,
          r.1,
          r.2,
          length_same (length t) (d ∷ r.0) (laid_at ps t p) (λ z k. laid_lt t z (ring_in z (omega (arith, ring_same z))).1) (λ z. r.2 z ∙ ring_same z),
        )

    -- the test of refusal 14, of the laid darts
    pub one_ring_lem : T (one_ring t (laid_at ps t p))
    unfolding one_ring has
    one_ring_lem = go (laid_at ps t p) refl
      where
        go : (D : List ℕ) → laid_at ps t p ≡ D → T (one_ring t D)
        go [] e = tt
        go (d ∷ D) e =
            let c : 1 ≤ count d R.darts = omega (arith, ring_same d, ap (count d) e, count_head d D) in
            let i = ring_in d c in
            let r = ring_from d i.0 i.1 in
            let n : length (d ∷ r.0) ≡ length (d ∷ D) = r.3 ∙ ap length e in
            let whole : ring t (length (d ∷ D)) d ≡ d ∷ r.0 = ap (λ (k : ℕ). ring t k d) (sym n) ∙ sweep_ring t d r.0 d r.1 in
            let home : onward t (length (d ∷ D)) d ≡ d = ap (λ (k : ℕ). onward t k d) (sym n) ∙ sweep_onward t d r.0 d r.1 in
            T_and (all (has (ring t (length (d ∷ D)) d)) (d ∷ D)) (eqb (onward t (length (d ∷ D)) d) d)
            (T_all (has (ring t (length (d ∷ D)) d)) (d ∷ D)
            (λ z k. T_any (eqb z) (ring t (length (d ∷ D)) d) z (omega (arith, k, ap (count z) whole, r.2 z, ring_same z, ap (count z) e)) (eqb_refl z)))
            (eq_eqb (onward t (length (d ∷ D)) d) d home)

-- ---- a ring of two: the port is entered by w and left by v

pub ring_two : (ps u : List ℕ) (p : ℕ) (c : List ℕ) → ((r : ℕ) → count r (map (leaves ps) c) ≤ 1) → ((r : ℕ) → count r (map (enters ps) c) ≤ 1)
    → (w v : ℕ) → 1 ≤ count w c → enters ps w ≡ p → 1 ≤ count v c → leaves ps v ≡ p → get_or u v 0 ≡ reverse w → get_or u (reverse w) 0 ≡ v
    → ((y : ℕ) → leaves ps y ≡ p → flag (laid u y) ≡ count y c + count y (back c)) → RingAt ps u p
unfolding count
ring_two ps u p c L E w v cw ew cv lv h k after = record {
  darts = v ∷ reverse w ∷ [];
  round = (h, k);
  here = λ y e. omega (
    arith,
    after y e,
    once_at (leaves ps) c L v cv y (e ∙ sym lv),
    count_back y c,
    once_at (enters ps) c E w cw (reverse y) (enters_reverse ps y ∙ e ∙ sym ew),
    is_reverse y w,
  );
  away = λ y n. omega (arith, is_not y v (λ e. n (ap (leaves ps) e ∙ lv)), is_not y (reverse w) (λ e. n (ap (leaves ps) e ∙ leaves_reverse ps w ∙ ew)));
}

-- ---- new darts in a ring

unfoldable pub woven : List ℕ → List ℕ → List ℕ → List ℕ
woven t u [] = []
woven t u (d ∷ l) = d ∷ cond (laid t (get_or u d 0)) (woven t u l) (get_or u d 0 ∷ woven t u l)

abbrev pub Follows : List ℕ → List ℕ → ℕ → Type 0
Follows t u w = (T (laid t (get_or u w 0)) × (get_or u w 0 ≡ get_or t w 0)) ⊎ ((laid t (get_or u w 0) ≡ false) × (get_or u (get_or u w 0) 0 ≡ get_or t w 0))

module _ (t u : List ℕ) where
  pub sweep_woven : (d : ℕ) (l : List ℕ) (e : ℕ) → ((w : ℕ) → 1 ≤ count w (d ∷ l) → Follows t u w) → Sweep t d l e
      → Sweep u d (cond (laid t (get_or u d 0)) (woven t u l) (get_or u d 0 ∷ woven t u l)) e
  unfolding woven count
  sweep_woven d [] e f h = go (f d (omega (arith, is_self d)))
    where
      go : Follows t u d → Sweep u d (cond (laid t (get_or u d 0)) [] (get_or u d 0 ∷ [])) e
      go (inl c) = rw (T_is (laid t (get_or u d 0)) c.0) (c.1 ∙ h)
      go (inr c) = rw c.0 (refl, c.1 ∙ h)
  sweep_woven d (x ∷ l) e f h = go (f d (omega (arith, is_self d))) (sweep_woven x l e (λ w k. f w (omega arith)) h.1)
    where
      go : Follows t u d → Sweep u x (cond (laid t (get_or u x 0)) (woven t u l) (get_or u x 0 ∷ woven t u l)) e
          → Sweep u d (cond (laid t (get_or u d 0)) (woven t u (x ∷ l)) (get_or u d 0 ∷ woven t u (x ∷ l))) e
      go (inl c) r = rw (T_is (laid t (get_or u d 0)) c.0) (c.1 ∙ h.0, r)
      go (inr c) r = rw c.0 (refl, (c.1 ∙ h.0, r))

  pub circle_woven : (l : List ℕ) → ((w : ℕ) → 1 ≤ count w l → Follows t u w) → Circle t l → Circle u (woven t u l)
  unfolding woven
  circle_woven [] f h = h
  circle_woven (d ∷ l) f h = sweep_woven d l d f h

  -- without the new ones
  pub keep_woven : (l : List ℕ) → ((w : ℕ) → 1 ≤ count w l → T (laid t w)) → keep (laid t) (woven t u l) ≡ l
  unfolding woven keep count
  keep_woven [] f = refl
  keep_woven (d ∷ l) f = rw (T_is (laid t d) (f d (omega (arith, is_self d)))) (ap (λ (m : List ℕ). d ∷ m) (go (laid t (get_or u d 0)) refl ∙ keep_woven l (λ w k. f w (omega arith))))
    where
      go : (b : Bool) → laid t (get_or u d 0) ≡ b → keep (laid t) (cond b (woven t u l) (get_or u d 0 ∷ woven t u l)) ≡ keep (laid t) (woven t u l)
      go true e = refl
      go false e = rw e

  pub count_woven_old : (z : ℕ) → T (laid t z) → (l : List ℕ) → count z (woven t u l) ≡ count z l
  unfolding woven count
  count_woven_old z h [] = refl
  count_woven_old z h (d ∷ l) = omega (arith, go (laid t (get_or u d 0)) refl, count_woven_old z h l)
    where
      go : (b : Bool) → laid t (get_or u d 0) ≡ b → count z (cond b (woven t u l) (get_or u d 0 ∷ woven t u l)) ≡ count z (woven t u l)
      go true e = refl
      go false e = omega (arith, is_not z (get_or u d 0) (λ k. subst T (ap (laid t) k ∙ e) h))

  pub count_woven_new : (z : ℕ) → laid t z ≡ false → (l : List ℕ) → count z (woven t u l) ≡ count z l + count z (map (λ d. get_or u d 0) l)
  unfolding woven count
  count_woven_new z h [] = refl
  count_woven_new z h (d ∷ l) = omega (arith, go (laid t (get_or u d 0)) refl, count_woven_new z h l)
    where
      go : (b : Bool) → laid t (get_or u d 0) ≡ b → count z (cond b (woven t u l) (get_or u d 0 ∷ woven t u l)) ≡ is z (get_or u d 0) + count z (woven t u l)
      go true e = omega (arith, is_not z (get_or u d 0) (λ k. subst T (sym (ap (laid t) k ∙ e) ∙ h) tt))
      go false e = refl
