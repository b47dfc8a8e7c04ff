-- Steps of a function, one after another, and when they first come back.
--   steps g n d        what n steps of g lead to from d
--   orbit g n d        d and the n − 1 steps after it
--   Back g n d         n steps lead back to d, and no fewer do
--   order d            of a function on numbers below n: after how many steps it first comes back to d
-- steps_add, steps_suc: steps put together. orbit_from, orbit_has: what stands in an orbit. orbit_once: steps that all differ make a list without repetition. back_apart, back_once: so do the steps up to the first return.
-- steps_inside, steps_inj, order_le, back_within: on numbers below n, a function that keeps apart what is apart comes back from each within n steps.
-- Assumes nothing.
use mathlib.Core.Path.{◌≡◌, refl, sym, ap, ◌∙◌, subst}
use mathlib.Core.Logic.{◌≢◌, ⊎_elim}
use mathlib.Core.List.{List, [], ◌∷◌}
use Prim.Native.Nat.{ℕ, zero, suc, ◌+◌, ◌-◌, ◌≤◌, ◌<◌}
use native.Mathlib.Nat.{not-suc-le-zero}
use native.Mathlib.Decide.{dec_lt}
use native.Mathlib.Omega.{arith}
use lib.Dec.{eqb, eqb→eq}
use lib.ListN.{length}
use Rattle.rules.specs.Lists.{seek}
use Rattle.laws.proofs.Tests.{neqb_ne}
use Rattle.laws.proofs.Counts.{is, is_self, is_cases, count, zero_of, pigeon}
use Rattle.laws.proofs.Lists.{seek_ge, seek_first, seek_found}

unfoldable pub steps : (ℕ → ℕ) → ℕ → ℕ → ℕ
steps g zero d = d
steps g (suc n) d = steps g n (g d)

unfoldable pub orbit : (ℕ → ℕ) → ℕ → ℕ → List ℕ
orbit g zero d = []
orbit g (suc n) d = d ∷ orbit g n (g d)

pub record Back (g : ℕ → ℕ) (n d : ℕ) : Type 0 where
  pub some : 1 ≤ n
  pub here : steps g n d ≡ d
  pub never : (j : ℕ) → 1 ≤ j → j < n → steps g j d ≢ d

module _ (g : ℕ → ℕ) where
  -- ---- steps put together

  pub steps_add : (m n d : ℕ) → steps g (m + n) d ≡ steps g n (steps g m d)
  unfolding steps
  steps_add zero n d = let e : 0 + n ≡ n = omega arith in ap (λ (k : ℕ). steps g k d) e
  steps_add (suc m) n d = let e : suc m + n ≡ suc (m + n) = omega arith in ap (λ (k : ℕ). steps g k d) e ∙ steps_add m n (g d)

  pub steps_suc : (n d : ℕ) → steps g (suc n) d ≡ g (steps g n d)
  unfolding steps
  steps_suc zero d = refl
  steps_suc (suc n) d = steps_suc n (g d)

  -- what each step keeps holds of all
  pub steps_keep : (P : ℕ → Type 0) → ((d : ℕ) → P d → P (g d)) → (n d : ℕ) → P d → P (steps g n d)
  unfolding steps
  steps_keep P k zero d h = h
  steps_keep P k (suc n) d h = steps_keep P k n (g d) (k d h)

  -- ---- what stands in an orbit

  pub length_orbit : (n d : ℕ) → length (orbit g n d) ≡ n
  unfolding orbit
  length_orbit zero d = refl
  length_orbit (suc n) d = ap suc (length_orbit n (g d))

  pub orbit_from : (n d z : ℕ) → 1 ≤ count z (orbit g n d) → (i : ℕ) × (i < n) × (steps g i d ≡ z)
  unfolding orbit steps count
  orbit_from zero d z h = absurd (not-suc-le-zero h)
  orbit_from (suc n) d z h =
      ⊎_elim (λ e. (0, omega arith, sym e)) (λ m. let r = orbit_from n (g d) z (omega arith) in (suc r.0, omega (arith, r.1), r.2)) (is_cases z d)

  pub orbit_has : (n d i : ℕ) → i < n → 1 ≤ count (steps g i d) (orbit g n d)
  unfolding orbit steps count
  orbit_has zero d i h = absurd (not-suc-le-zero h)
  orbit_has (suc n) d zero h = omega (arith, is_self d)
  orbit_has (suc n) d (suc i) h = omega (arith, orbit_has n (g d) i (omega arith))

  -- ---- no number twice

  pub orbit_once : (n d : ℕ) → ((i j : ℕ) → i < j → j < n → steps g i d ≢ steps g j d) → (z : ℕ) → count z (orbit g n d) ≤ 1
  unfolding orbit steps count
  orbit_once zero d h z = omega arith
  orbit_once (suc n) d h z =
      let rest = orbit_once n (g d) (λ i j a b. h (suc i) (suc j) (omega arith) (omega arith)) z in
      ⊎_elim
      (λ e.
      let none : count z (orbit g n (g d)) ≡ 0 =
      zero_of _ (λ k. let r = orbit_from n (g d) z k in h 0 (suc r.0) (omega arith) (omega (arith, r.1)) (sym e ∙ sym r.2)) in
      omega (arith, is_self z, ap (is z) e))
      (λ m. omega arith)
      (is_cases z d)

  -- the steps up to the first return
  pub back_apart : (n d : ℕ) → Back g n d → (i j : ℕ) → i < j → j < n → steps g i d ≢ steps g j d
  back_apart n d b i j h k e =
      let far : j + (n - j) ≡ n = omega arith in
      b.never (i + (n - j)) (omega arith) (omega arith)
      (steps_add i (n - j) d ∙ ap (steps g (n - j)) e ∙ sym (steps_add j (n - j) d) ∙ ap (λ (m : ℕ). steps g m d) far ∙ b.here)

  pub back_once : (n d : ℕ) → Back g n d → (z : ℕ) → count z (orbit g n d) ≤ 1
  back_once n d b = orbit_once n d (back_apart n d b)

  -- ---- numbers below n that are kept apart

  module _ (n : ℕ) (inside : (d : ℕ) → d < n → g d < n) (inj : (d e : ℕ) → d < n → e < n → g d ≡ g e → d ≡ e) where
    pub steps_inside : (i d : ℕ) → d < n → steps g i d < n
    steps_inside i d h = steps_keep (λ k. k < n) inside i d h

    pub steps_inj : (i d e : ℕ) → d < n → e < n → steps g i d ≡ steps g i e → d ≡ e
    unfolding steps
    steps_inj zero d e a b h = h
    steps_inj (suc i) d e a b h = inj d e a b (steps_inj i (g d) (g e) (inside d a) (inside e b) h)

    -- the number of the first return
    abbrev pub order : ℕ → ℕ
    order d = seek (λ k. eqb (steps g k d) d) 1 n

    -- where none of the first n steps comes back, they and d are n + 1 numbers below n
    pub order_le : (d : ℕ) → d < n → order d ≤ n
    order_le d h = go (dec_lt n (order d))
      where
        apart : n < order d → (i j : ℕ) → i < j → j < suc n → steps g i d ≢ steps g j d
        apart far i j a b e =
            let sum : (j - i) + i ≡ j = omega arith in
            neqb_ne (steps g (j - i) d) d (seek_first (λ k. eqb (steps g k d) d) 1 n (j - i) (omega arith) (omega arith))
            (steps_inj i (steps g (j - i) d) d (steps_inside (j - i) d h) h (sym (steps_add (j - i) i d) ∙ ap (λ (m : ℕ). steps g m d) sum ∙ sym e))

        go : Dec (n < order d) → order d ≤ n
        go (yes far) =
            absurd (not-suc-le-zero {n = 0} (omega (
              arith,
              length_orbit (suc n) d,
              pigeon n (orbit g (suc n) d) (λ z k. let r = orbit_from (suc n) d z k in subst (λ (m : ℕ). m < n) r.2 (steps_inside r.0 d h)) (orbit_once (suc n) d (apart far)),
            )))
        go (no near) = omega arith

    pub back_within : (d : ℕ) → d < n → Back g (order d) d
    back_within d h =
        let le = order_le d h in
        record {
          some = seek_ge (λ k. eqb (steps g k d) d) 1 n;
          here = eqb→eq (steps g (order d) d) d (seek_found (λ k. eqb (steps g k d) d) 1 n (omega arith));
          never = λ j a b. neqb_ne (steps g j d) d (seek_first (λ k. eqb (steps g k d) d) 1 n j a b);
        }
