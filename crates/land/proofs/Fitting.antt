-- The search for the first land that visits every contact, turn by turn of its three loops; each turn says that what is left decides what the whole decides.
--   Passed ends cs ls i k    of the lands ls none from number i up to k visits every port of cs
-- visit_..: the darts of one land, none so far leaving the port. all_..: the contacts, all so far visited. pass_..: the lands.
-- Assumes nothing.
use mathlib.Core.Path.{◌≡◌, refl, sym, ap, ◌∙◌}
use mathlib.Core.Logic.{◌≢◌}
use mathlib.Core.Bool.{Bool, true, false, ◌&&◌, ◌||◌}
use mathlib.Core.List.{List, [], ◌∷◌}
use Prim.Native.Nat.{ℕ, ◌+◌, ◌-◌, ◌≤◌, ◌<◌}
use native.Mathlib.Nat.{add-zero}
use native.Mathlib.Numerals.{add-one}
use native.Mathlib.Omega.{arith}
use borrow.Author.Tests.{lt-ltb, le-ltb}
use lib.Dec.{eqb}
use lib.ListN.{length, get_or, drop, drop_of_length-le}
use lib.Seq.{drop-cons}
use Rattle.std.specs.Prelude.{Some, None}
use Rattle.rules.specs.Lists.{any, all}
use Rattle.rules.specs.Terms.{leaves, next, visits}
use Rattle.laws.proofs.Tests.{eqb_yes, eqb_no}
use Rattle.land.specs.Walks.{land_from, lands, first_fit, fitting, Walkable}
use Rattle.land.proofs.Laws.{length_lands, lands_cut}
use Rattle.land.proofs.Walking.{from_step, from_end, from_start}

-- ---- the darts of one land: k of n are passed, e is the next, and x is whether the land visits p

module _ (ends t : List ℕ) (p : ℕ) where
  pub visit_start : (n d : ℕ) → visits ends (land_from t n d) p ≡ visits ends (land_from t (n - 0) d) p
  visit_start n d = ap (λ (l : List ℕ). visits ends l p) (from_start t n d)

  pub visit_no : (n k e e' : ℕ) (x : Bool) → k < n → e' ≡ next t e → leaves ends e ≢ p
      → x ≡ visits ends (land_from t (n - k) e) p → x ≡ visits ends (land_from t (n - (k + 1)) e') p
  unfolding visits any
  visit_no n k e e' x h s o q =
      q ∙ ap (λ (l : List ℕ). visits ends l p) (from_step t n k e e' h s)
      ∙ ap (λ (b : Bool). b || any (λ d. eqb (leaves ends d) p) (land_from t (n - (k + 1)) e')) (eqb_no (leaves ends e) p o)

  pub visit_yes : (n k e : ℕ) (x : Bool) → k < n → leaves ends e ≡ p → x ≡ visits ends (land_from t (n - k) e) p → x ≡ true
  unfolding visits any
  visit_yes n k e x h o q =
      q ∙ ap (λ (l : List ℕ). visits ends l p) (from_step t n k e (next t e) h refl)
      ∙ ap (λ (b : Bool). b || any (λ d. eqb (leaves ends d) p) (land_from t (n - (k + 1)) (next t e))) (eqb_yes (leaves ends e) p o)

  pub visit_end : (n k e : ℕ) (x : Bool) → n ≤ k → x ≡ visits ends (land_from t (n - k) e) p → x ≡ false
  unfolding visits any
  visit_end n k e x h q = q ∙ ap (λ (l : List ℕ). visits ends l p) (from_end t n k e h)

-- ---- the contacts: c of them are visited

all_next : (f : ℕ → Bool) (cs : List ℕ) (c : ℕ) → c < length cs → all f (drop c cs) ≡ (f (get_or cs c 0) && all f (drop (c + 1) cs))
unfolding all
all_next f cs c h = ap (all f) (drop-cons cs c 0 h ∙ ap (λ (k : ℕ). get_or cs c 0 ∷ drop k cs) (sym (add-one c)))

pub all_yes : (f : ℕ → Bool) (cs : List ℕ) (c : ℕ) → c < length cs → f (get_or cs c 0) ≡ true → all f cs ≡ all f (drop c cs) → all f cs ≡ all f (drop (c + 1) cs)
all_yes f cs c h y e = e ∙ all_next f cs c h ∙ ap (λ (b : Bool). b && all f (drop (c + 1) cs)) y

pub all_no : (f : ℕ → Bool) (cs : List ℕ) (c : ℕ) → c < length cs → f (get_or cs c 0) ≡ false → all f cs ≡ all f (drop c cs) → all f cs ≡ false
all_no f cs c h y e = e ∙ all_next f cs c h ∙ ap (λ (b : Bool). b && all f (drop (c + 1) cs)) y

pub all_end : (f : ℕ → Bool) (cs : List ℕ) (c : ℕ) → length cs ≤ c → all f cs ≡ all f (drop c cs) → all f cs ≡ true
unfolding all
all_end f cs c h e = e ∙ ap (all f) (drop_of_length-le cs h)

-- ---- the lands

fitting_is : (n k i : ℕ) → k < n → k ≡ i → Some k ≡ fitting n i
fitting_is n k i h e = rw (← e) (rw (lt-ltb k n h))

fitting_none : (n i : ℕ) → n ≡ i → None ≡ fitting n i
fitting_none n i e = rw (← e) (rw (le-ltb n n (omega arith)))

pub record Passed (ends cs : List ℕ) (ls : List (List ℕ)) (i k : ℕ) : Type 0 where
  pub most : k ≤ length ls
  pub rest : i + first_fit ends cs (drop i ls) ≡ k + first_fit ends cs (drop k ls)

module _ (ends cs t fs ns : List ℕ) (n i : ℕ) (w : Walkable t fs ns n) where
  size : length (lands t fs ns n) ≡ n
  size = length_lands t fs ns n w.starts w.sizes

  pub pass_start : i ≤ n → Passed ends cs (lands t fs ns n) i i
  pass_start h = record { most = omega (arith, size); rest = refl }

  -- the land of number k, of `len` darts from d on
  module _ (k len d : ℕ) (h : k < n) (l : len ≡ get_or ns k 0) (f : d ≡ get_or fs k 0) where
    cut : drop k (lands t fs ns n) ≡ land_from t len d ∷ drop (k + 1) (lands t fs ns n)
    cut = lands_cut t fs ns n w k len d h l f

    pub pass_step : all (visits ends (land_from t len d)) cs ≡ false → Passed ends cs (lands t fs ns n) i k → Passed ends cs (lands t fs ns n) i (k + 1)
    unfolding first_fit
    pass_step e p = record {
      most = omega (arith, size);
      rest = p.rest ∙ ap (λ (ls : List (List ℕ)). k + first_fit ends cs ls) cut ∙ rw e (omega arith);
    }

    pub pass_found : all (visits ends (land_from t len d)) cs ≡ true → Passed ends cs (lands t fs ns n) i k → Some k ≡ fitting n (i + first_fit ends cs (drop i (lands t fs ns n)))
    unfolding first_fit
    pass_found e p = fitting_is n k (i + first_fit ends cs (drop i (lands t fs ns n))) h (sym (p.rest ∙ ap (λ (ls : List (List ℕ)). k + first_fit ends cs ls) cut ∙ rw e (add-zero k)))

  pub pass_none : (k : ℕ) → n ≤ k → Passed ends cs (lands t fs ns n) i k → None ≡ fitting n (i + first_fit ends cs (drop i (lands t fs ns n)))
  unfolding first_fit
  pass_none k h p =
      fitting_none n (i + first_fit ends cs (drop i (lands t fs ns n))) (
      let over : length (lands t fs ns n) ≤ k = omega (arith, size) in
      let none : drop k (lands t fs ns n) ≡ [] = drop_of_length-le (lands t fs ns n) over in
      let zero_left : first_fit ends cs (drop k (lands t fs ns n)) ≡ 0 = ap (first_fit ends cs) none in
      omega (arith, p.rest, p.most, size))
