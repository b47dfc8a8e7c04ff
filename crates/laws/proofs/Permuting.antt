-- Turns that permute the darts (document 01, "Terms": a land is a cycle of that rule): every walk along them comes back to where it began.
--   Permuting t     the turns t lead from dart to dart, no two to the same, two darts for each channel, and no dart follows itself
--   land_of t a      the land of dart a, listed from a
--   LandOf t a l    the land of dart a is a, then l: a run that closes, without repetition, of two darts or more
--   size a          the number of darts of the land of a
-- places_once: a list whose places differ holds none twice. turns_permute: each dart is the turn of one dart. reverse_in, next_in, next_apart: the next of a dart is a dart, and of one dart only. land_of_lem: every dart has its land. land_before: a dart of a land follows a dart of it.
-- Assumes nothing.
use mathlib.Core.Path.{◌≡◌, refl, sym, ap, ◌∙◌, subst}
use mathlib.Core.Logic.{◌≢◌, ⊎_elim}
use mathlib.Core.List.{List, [], ◌∷◌, ◌++◌}
use Prim.Native.Nat.{ℕ, zero, suc, ◌-◌, ◌/◌, ◌%◌, ◌≤◌, ◌<◌}
use native.Mathlib.Nat.{not-suc-le-zero, eq-zero-or-pos}
use native.Mathlib.Omega.{arith}
use lib.ListN.{length, get_or}
use Rattle.rules.specs.Lists.{from}
use Rattle.rules.specs.Terms.{missing, reverse, next, walk}
use Rattle.laws.proofs.Counts.{is, is_self, is_cases, count, count_append, zero_of, filled_up}
use Rattle.laws.proofs.Lists.{count_from, from_lt, place_of, length_from}
use Rattle.laws.proofs.Runs.{reverse_inj, reverse_below, Run, Land}
use Rattle.laws.proofs.Orbits.{steps, orbit, Back, length_orbit, orbit_from, steps_inside, back_once, back_within, order, order_le}
use Rattle.laws.proofs.Afresh.{walk_run}

pub record Permuting (t : List ℕ) : Type 0 where
  pub even : length t % 2 ≡ 0
  -- no dart is the mark of a missing turn
  pub small : length t ≤ missing
  pub dart : (d : ℕ) → d < length t → get_or t d 0 < length t
  -- no two darts have the same turn
  pub apart : (d e : ℕ) → d < length t → e < length t → get_or t d 0 ≡ get_or t e 0 → d ≡ e
  pub away : (d : ℕ) → d < length t → next t d ≢ d

abbrev pub land_of : List ℕ → ℕ → List ℕ
land_of t a = walk t (length t) a a

-- ---- each dart is the turn of one dart

places_once : (l : List ℕ) → ((i j : ℕ) → i < length l → j < length l → get_or l i 0 ≡ get_or l j 0 → i ≡ j) → (z : ℕ) → count z l ≤ 1
unfolding count
places_once [] h z = omega arith
places_once (x ∷ l) h z =
    let rest = places_once l (λ i j a b e. suc_same i j (h (suc i) (suc j) (omega arith) (omega arith) e)) z in
    ⊎_elim
    (λ e.
    let none : count z l ≡ 0 = zero_of _ (λ k. let r = place_of l z k in no_zero r.0 (h 0 (suc r.0) (omega arith) (omega (arith, r.1)) (sym e ∙ sym r.2))) in
    omega (arith, is_self z, ap (is z) e))
    (λ m. omega arith)
    (is_cases z x)
  where
    suc_same : (i j : ℕ) → suc i ≡ suc j → i ≡ j
    suc_same i j e = omega arith

    no_zero : (i : ℕ) → 0 ≡ suc i → ⊥
    no_zero i e = omega arith

pub turns_permute : (t : List ℕ) → Permuting t → (d : ℕ) → d < length t → count d t ≡ 1
turns_permute t w d h =
    omega (
      arith,
      places_once t w.apart d,
      count_from d 0 (length t) (omega arith) (omega arith),
      filled_up (length t) t (from 0 (length t)) (λ y k. omega (arith, from_lt y 0 (length t) k)) less (omega (arith, length_from 0 (length t))) d,
    )
  where
    less : (y : ℕ) → count y t ≤ count y (from 0 (length t))
    less y =
        ⊎_elim (λ k. omega arith)
        (λ k.
        let r = place_of t y k in
        let b : y < length t = subst (λ (m : ℕ). m < length t) r.2 (w.dart r.0 r.1) in
        omega (arith, places_once t w.apart y, count_from y 0 (length t) (omega arith) (omega arith)))
        (eq-zero-or-pos (count y t))

-- ---- a walk comes back

pub record LandOf (t : List ℕ) (a : ℕ) (l : List ℕ) : Type 0 where
  pub walked : land_of t a ≡ a ∷ l
  pub run : Run t a l a
  pub once : (z : ℕ) → count z (a ∷ l) ≤ 1
  pub inside : (z : ℕ) → 1 ≤ count z (a ∷ l) → z < length t
  -- each of its darts is some steps from a
  pub from_a : (z : ℕ) → 1 ≤ count z (a ∷ l) → (i : ℕ) × (steps (next t) i a ≡ z)
  pub two : 1 ≤ length l

-- steps along the rule are a run
orbit_run : (t : List ℕ) (n d e : ℕ) → steps (next t) (suc n) d ≡ e → Run t d (orbit (next t) n (next t d)) e
unfolding orbit steps
orbit_run t zero d e h = h
orbit_run t (suc n) d e h = (refl, orbit_run t n (next t d) e h)

module _ (t : List ℕ) (w : Permuting t) where
  pub reverse_in : (d : ℕ) → d < length t → reverse d < length t
  reverse_in d h = omega (arith, w.even, reverse_below d (length t / 2) (omega (arith, w.even)))

  pub next_in : (d : ℕ) → d < length t → next t d < length t
  unfolding next
  next_in d h = w.dart (reverse d) (reverse_in d h)

  pub next_apart : (d e : ℕ) → d < length t → e < length t → next t d ≡ next t e → d ≡ e
  unfolding next
  next_apart d e h k q = reverse_inj d e (w.apart (reverse d) (reverse e) (reverse_in d h) (reverse_in e k) q)

  -- the number of darts of the land of a
  abbrev size : ℕ → ℕ
  size a = order (next t) (length t) next_in next_apart a

  comes_back : (a : ℕ) → a < length t → Back (next t) (size a) a
  comes_back a h = back_within (next t) (length t) next_in next_apart a h

  two_darts : (a : ℕ) → a < length t → 2 ≤ size a
  unfolding steps
  two_darts a h = ⊎_elim (λ e. absurd (w.away a h (subst (λ (n : ℕ). steps (next t) n a ≡ a) e (comes_back a h).here))) (λ m. omega (arith, (comes_back a h).some, not_one m)) (is_cases (size a) 1)
    where
      not_one : is (size a) 1 ≡ 0 → size a ≢ 1
      not_one m e = omega (arith, is_self (size a), ap (is (size a)) e)

  pub land_of_lem : (a : ℕ) → a < length t → (l : List ℕ) × LandOf t a l
  unfolding orbit count
  land_of_lem a h = (
    orbit (next t) (size a - 1) (next t a),
    record {
      walked = walk_run t (length t) a a (orbit (next t) (size a - 1) (next t a)) closes (omega (arith, one a, is_self a)) (omega (arith, length_orbit (next t) (size a - 1) (next t a), most, two_darts a h));
      run = closes;
      once = one;
      inside = λ z k. let r = orbit_from (next t) (suc (size a - 1)) a z k in subst (λ (y : ℕ). y < length t) r.2 (steps_inside (next t) (length t) next_in next_apart r.0 a h);
      from_a = λ z k. let r = orbit_from (next t) (suc (size a - 1)) a z k in (r.0, r.2);
      two = omega (arith, length_orbit (next t) (size a - 1) (next t a), two_darts a h);
    },
  )
    where
      most : size a ≤ length t
      most = order_le (next t) (length t) next_in next_apart a h

      more : suc (size a - 1) ≡ size a
      more = omega (arith, two_darts a h)

      back : Back (next t) (suc (size a - 1)) a
      back = subst (λ (n : ℕ). Back (next t) n a) (sym more) (comes_back a h)

      closes : Run t a (orbit (next t) (size a - 1) (next t a)) a
      closes = orbit_run t (size a - 1) a a back.here

      one : (z : ℕ) → count z (a ∷ orbit (next t) (size a - 1) (next t a)) ≤ 1
      one = back_once (next t) (suc (size a - 1)) a back

-- ---- a dart of a land follows a dart of it

run_before : (t : List ℕ) (d : ℕ) (l : List ℕ) (e y : ℕ) → Run t d l e → 1 ≤ count y (l ++ (e ∷ [])) → (x : ℕ) × (1 ≤ count x (d ∷ l)) × (next t x ≡ y)
unfolding count
run_before t d [] e y r h = ⊎_elim (λ q. (d, omega (arith, is_self d), r ∙ sym q)) (λ m. absurd (not-suc-le-zero {n = 0} (omega arith))) (is_cases y e)
run_before t d (x ∷ l) e y r h =
    ⊎_elim (λ q. (d, omega (arith, is_self d), r.0 ∙ sym q)) (λ m. let w = run_before t x l e y r.1 (omega arith) in (w.0, omega (arith, w.1), w.2)) (is_cases y x)

pub land_before : (t l : List ℕ) (y : ℕ) → Land t l → 1 ≤ count y l → (x : ℕ) × (1 ≤ count x l) × (next t x ≡ y)
unfolding count
land_before t [] y r h = absurd r
land_before t (d ∷ l) y r h = run_before t d l d y r (omega (arith, count_append y l (d ∷ [])))
