-- The weight of a fragment, as two searches tell it: for the first land that visits every contact, and for the first behind it.
--   Misses ls i      land i of ls does not visit every contact
--   fits             the admissible lands
-- fit_since: the lands that a search passes do not fit. fit_past: a search may begin behind lands that do not fit. first_found, next_most, second_found, passed_again: the two searches, begun behind lands that are passed.
-- fitting_some, fitting_none, fitting_end: what a search answers. first_most: the first search ends by the last land. weigh_none, weigh_some: what the fragment weighs. none_left, second_begins, told_again, weight_told: the same, by the answers. contacts_weigh: the weight of the contacts is the fragment's.
-- Assumes nothing.
use mathlib.Core.Path.{◌≡◌, refl, sym, ap, ◌∙◌, subst}
use mathlib.Core.Logic.{◌≢◌}
use mathlib.Core.Bool.{Bool, true, false, cond, not}
use mathlib.Core.List.{List, [], ◌∷◌}
use Prim.Native.Nat.{ℕ, zero, suc, ◌+◌, ◌-◌, ◌<◌, ◌≤◌, max}
use native.Mathlib.Nat.{not-suc-le-zero}
use native.Mathlib.Decide.{dec_lt}
use native.Mathlib.Omega.{arith}
use borrow.Author.Tests.{not-true, not-false, lt-ltb, le-ltb}
use lib.Dec.{eqb}
use lib.ListN.{length, get_or, take, drop, length-drop}
use lib.Seq.{get_or-drop, drop-drop}
use Rattle.std.specs.Prelude.{Option, Some, None, is_some}
use Rattle.std.specs.Option.{unwrap_or}
use Rattle.rules.specs.Lists.{all}
use Rattle.rules.specs.Terms.{visits}
use Rattle.rules.specs.Laying.{admissible, choice_of}
use Rattle.laws.proofs.Tests.{eqb_yes, eqb_no}
use Rattle.land.specs.Walks.{first_fit, fitting}
use Rattle.land.proofs.Laws.{fit_le, fit_some, told_none, told_first, told_one, told_more}
use Rattle.fragment.specs.declared.Weight.{Weight}
use Rattle.fragment.specs.Fragments.{Contacts}
use Rattle.fragment.specs.Rounds.{weighed, Weighs}
use Rattle.fragment.specs.Bars.{Passed}
use Rattle.fragment.proofs.Choosing.{weighed_is}
use Rattle.fragment.proofs.Barring.{passed_as}

-- ---- where a search begins

module _ (ends cs : List ℕ) where
  abbrev Misses : List (List ℕ) → ℕ → Type 0
  Misses ls i = all (visits ends (get_or ls i [])) cs ≡ false

  fit_before : (ls : List (List ℕ)) (i : ℕ) → i < first_fit ends cs ls → Misses ls i
  unfolding first_fit
  fit_before [] i h = absurd (not-suc-le-zero h)
  fit_before (l ∷ ls) zero h = go (all (visits ends l) cs) h
    where
      go : (b : Bool) → 0 < cond b zero (suc (first_fit ends cs ls)) → b ≡ false
      go true k = absurd (not-suc-le-zero k)
      go false k = refl
  fit_before (l ∷ ls) (suc i) h = fit_before ls i (go (all (visits ends l) cs) h)
    where
      go : (b : Bool) → suc i < cond b zero (suc (first_fit ends cs ls)) → i < first_fit ends cs ls
      go true k = absurd (not-suc-le-zero k)
      go false k = omega arith

  fit_skip : (a : ℕ) (ls : List (List ℕ)) → a ≤ length ls → ((i : ℕ) → i < a → Misses ls i) → first_fit ends cs ls ≡ a + first_fit ends cs (drop a ls)
  unfolding first_fit
  fit_skip zero ls h p = omega arith
  fit_skip (suc a) [] h p = absurd (not-suc-le-zero h)
  fit_skip (suc a) (l ∷ ls) h p =
      let rest = fit_skip a ls (omega arith) (λ i k. p (suc i) (omega arith)) in
      ap (λ (b : Bool). cond b zero (suc (first_fit ends cs ls))) (p 0 (omega arith)) ∙ omega (arith, rest)

  fit_since : (s : ℕ) (ls : List (List ℕ)) (i : ℕ) → s ≤ i → i < s + first_fit ends cs (drop s ls) → Misses ls i
  fit_since s ls i h k =
      let e : s + (i - s) ≡ i = omega arith in
      subst (λ (l : List ℕ). all (visits ends l) cs ≡ false) (get_or-drop s ls (i - s) [] ∙ ap (λ (j : ℕ). get_or ls j []) e) (fit_before (drop s ls) (i - s) (omega arith))

  fit_past : (s e : ℕ) (ls : List (List ℕ)) → s ≤ e → e ≤ length ls → ((i : ℕ) → s ≤ i → i < e → Misses ls i)
      → s + first_fit ends cs (drop s ls) ≡ e + first_fit ends cs (drop e ls)
  fit_past s e ls h m p =
      let skip = fit_skip (e - s) (drop s ls) (omega (arith, length-drop s ls)) (λ i k. subst (λ (l : List ℕ). all (visits ends l) cs ≡ false) (sym (get_or-drop s ls i [])) (p (s + i) (omega arith) (omega arith))) in
      let to : s + (e - s) ≡ e = omega arith in
      omega (arith, skip, ap (first_fit ends cs) (drop-drop (e - s) s ls ∙ ap (λ (j : ℕ). drop j ls) to))

-- of n lands, x and y tell which are passed; a is the first found from x on
module _ (ends cs : List ℕ) (ls : List (List ℕ)) (n x y : ℕ) (size : length ls ≡ n) (p : Passed ends cs ls x y) (a : ℕ) (f : a ≡ x + first_fit ends cs (drop x ls)) where
  first_found : a ≡ 0 + first_fit ends cs (drop 0 ls)
  first_found = f ∙ sym (fit_past ends cs 0 x ls (omega arith) p.first (λ i h k. p.low i k))

  -- b is the first found from e on, the later of y and the land behind a
  module _ (h : a ≢ n) (e b : ℕ) (u : e ≡ max y (a + 1)) (g : b ≡ e + first_fit ends cs (drop e ls)) where
    next_most : e ≤ n
    next_most = omega (arith, u, p.second, first_found, fit_le ends cs ls)

    second_found : b ≡ a + 1 + first_fit ends cs (drop (a + 1) ls)
    second_found = g ∙ sym (fit_past ends cs (a + 1) e ls (omega (arith, u)) (omega (arith, next_most)) (λ i l m. p.between i (omega (arith, f)) (omega (arith, u))))

    second_most : b ≤ n
    second_most = omega (arith, g, fit_le ends cs (drop e ls), length-drop e ls, next_most)

    passed_again : Passed ends cs ls a b
    passed_again = record {
      first = omega (arith, first_found, fit_le ends cs ls);
      second = omega (arith, second_most);
      low = λ i k. fit_since ends cs 0 ls i (omega arith) (omega (arith, first_found));
      between = λ i k m. fit_since ends cs (a + 1) ls i (omega arith) (omega (arith, second_found));
    }

-- ---- the answers of the searches

none_some : (k : ℕ) → None ≡ Some k → ⊥
none_some k e = cc

module _ (n i : ℕ) where
  fitting_in : i < n → fitting n i ≡ Some i
  fitting_in h = rw (lt-ltb i n h)

  fitting_out : n ≤ i → fitting n i ≡ None
  fitting_out h = rw (le-ltb i n h)

  fitting_some : (k : ℕ) → Some k ≡ fitting n i → (k ≡ i) × (i < n)
  fitting_some k e = go (dec_lt i n)
    where
      go : Dec (i < n) → (k ≡ i) × (i < n)
      go (yes h) = (ap (λ o. unwrap_or o 0) (e ∙ fitting_in h), h)
      go (no h) = absurd (none_some k (sym (e ∙ fitting_out (omega arith))))

  fitting_none : None ≡ fitting n i → n ≤ i
  fitting_none e = go (dec_lt i n)
    where
      go : Dec (i < n) → n ≤ i
      go (yes h) = absurd (none_some i (e ∙ fitting_in h))
      go (no h) = omega arith

  fitting_end : i ≤ n → unwrap_or (fitting n i) n ≡ i
  fitting_end h = go (dec_lt i n)
    where
      go : Dec (i < n) → unwrap_or (fitting n i) n ≡ i
      go (yes l) = ap (λ o. unwrap_or o n) (fitting_in l)
      go (no l) = ap (λ o. unwrap_or o n) (fitting_out (omega arith)) ∙ omega arith

-- ---- the weight

module _ (ends cs : List ℕ) (ls : List (List ℕ)) (n a : ℕ) (size : length ls ≡ n) (f : a ≡ 0 + first_fit ends cs (drop 0 ls)) where
  abbrev fits : List ℕ
  fits = admissible ends cs 0 ls

  first_most : a ≤ n
  first_most = omega (arith, fit_le ends cs ls)

  weigh_none : (k : ℕ) → a ≡ n → None ≡ weighed k fits
  weigh_none k e = sym (ap (weighed k) (told_none ends cs ls n a size f e))

  some : a ≢ n → 1 ≤ length fits
  some h = fit_some ends cs 0 ls (omega (arith, fit_le ends cs ls))

  -- o tells whether no land behind the first is found
  module _ (b : ℕ) (h : a ≢ n) (g : b ≡ a + 1 + first_fit ends cs (drop (a + 1) ls)) (o : Bool) (told : is_some (fitting n b) ≡ not o) where
    only_is : eqb (length fits) 1 ≡ o
    only_is = go (dec_lt b n)
      where
        go : Dec (b < n) → eqb (length fits) 1 ≡ o
        go (yes l) = eqb_no (length fits) 1 (told_more ends cs ls n a size f b h g (omega arith)) ∙ sym (not-true o (sym told ∙ ap is_some (fitting_in n b l)))
        go (no l) =
            eqb_yes (length fits) 1 (told_one ends cs ls n a size f b h g (omega (arith, first_most, length-drop (a + 1) ls, fit_le ends cs (drop (a + 1) ls))))
            ∙ sym (not-false o (sym told ∙ ap is_some (fitting_out n b (omega arith))))

    weigh_some : (k : ℕ) → Some (record { choice = record { name = k; land = a }; only = o }) ≡ weighed k fits
    weigh_some k = weighed_is k fits a o (some h) (told_first ends cs ls n a size f h) only_is

-- ---- the two searches, the first from x on, and what they tell of fragment k

module _ (ends cs : List ℕ) (ls : List (List ℕ)) (n x y : ℕ) (size : length ls ≡ n) (p : Passed ends cs ls x y) (k : ℕ) where
  pub none_left : None ≡ fitting n (x + first_fit ends cs (drop x ls)) → None ≡ weighed k (admissible ends cs 0 ls)
  none_left e =
      let a = x + first_fit ends cs (drop x ls) in
      let f = first_found ends cs ls n x y size p a refl in
      weigh_none ends cs ls n a size f k (omega (arith, fitting_none n a e, first_most ends cs ls n a size f))

  -- the first finds land a, and the second begins at e and answers r
  module _ (a : ℕ) (h : Some a ≡ fitting n (x + first_fit ends cs (drop x ls))) (e : ℕ) (u : e ≡ max y (a + 1)) where
    here : a ≡ x + first_fit ends cs (drop x ls)
    here = (fitting_some n (x + first_fit ends cs (drop x ls)) a h).0

    low : a ≢ n
    low q = not-suc-le-zero {n = 0} (omega (arith, q, fitting_some n (x + first_fit ends cs (drop x ls)) a h))

    pub second_begins : e ≤ n
    second_begins = next_most ends cs ls n x y size p a here low e (e + first_fit ends cs (drop e ls)) u refl

    module _ (r : Option ℕ) (g : r ≡ fitting n (e + first_fit ends cs (drop e ls))) where
      pub told_again : (m : ℕ) → m ≡ unwrap_or r n → Passed ends cs ls a m
      told_again m q =
          let b = e + first_fit ends cs (drop e ls) in
          passed_as ends cs ls a b a m refl (q ∙ ap (λ o. unwrap_or o n) g ∙ fitting_end n b (second_most ends cs ls n x y size p a here low e b u refl))
          (passed_again ends cs ls n x y size p a here low e b u refl)

      pub weight_told : (o : Bool) → is_some r ≡ not o → Some (record { choice = record { name = k; land = a }; only = o }) ≡ weighed k (admissible ends cs 0 ls)
      weight_told o q =
          let b = e + first_fit ends cs (drop e ls) in
          weigh_some ends cs ls n a size (first_found ends cs ls n x y size p a here) b low (second_found ends cs ls n x y size p a here low e b u refl) o (ap is_some (sym g) ∙ q) k

-- the contacts of a fragment, weighed
pub contacts_weigh : (v : ℕ) (ends : List ℕ) (play lp : List Bool) (ls : List (List ℕ)) (k : ℕ) (marks marks' : List Bool) (contacts : List ℕ) (r : ℕ) (w : Option Weight)
    → Contacts v ends play lp k marks marks' contacts r → w ≡ weighed k (admissible ends (take r contacts) 0 ls) → Weighs v ends play lp ls k marks marks' w
unfolding choice_of
contacts_weigh v ends play lp ls k marks marks' contacts r w c e =
    record { weight = e ∙ ap (λ (cs : List ℕ). weighed k (admissible ends cs 0 ls)) c.list; marked = c.marked }
