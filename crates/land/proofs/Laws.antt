-- Laws for those who keep the lands ls of the turns t by first dart and length, and call this crate.
-- The walk: length_from, from_append, from_last. A run, and a land from its first dart or from another, is what walking its length gives: from_run, land_from_lem, turned_from, turned_since; so is each of many lands: lands_along_lem, lands_are.
-- The lands that first darts and lengths stand for: along_at, land_at, length_lands, lands_cut. That they can be walked: below_of, below_all, lands_of_lem, land_darts, darts_fewer.
-- The first land that fits, against the numbers of all that do (rules, `admissible`): fit_le, fit_none, none_fit, fit_first, fit_some; in the code's numbers told_none, told_first, told_one, told_more.
-- The last dart of a stretch and the first of a land that is listed: sought_last, first_listed.
-- Assumes nothing.
use mathlib.Core.Path.{◌≡◌, refl, sym, ap, ◌∙◌, subst}
use mathlib.Core.Logic.{◌≢◌, ⊎_elim}
use mathlib.Core.Bool.{Bool, true, false, cond}
use mathlib.Core.List.{List, [], ◌∷◌, ◌++◌, map}
use Prim.Native.Nat.{ℕ, zero, suc, ◌+◌, ◌-◌, ◌%◌, ◌<◌, ◌≤◌}
use native.Mathlib.Nat.{add-zero, suc-add, zero-add, suc_inj, suc-ne-zero, not-suc-le-zero}
use native.Mathlib.Decide.{dec_lt}
use native.Mathlib.Numerals.{add-one}
use native.Mathlib.Omega.{arith}
use borrow.Author.Tests.{lt-ltb}
use lib.Dec.{T, ltb}
use lib.ListN.{length, get_or, take, drop, length-append, length-drop}
use lib.Seq.{drop-cons, get_or-take, length-take-le}
use Rattle.rules.specs.Lists.{all}
use Rattle.rules.specs.Terms.{missing, next, laid, visits, least, listed}
use Rattle.rules.specs.Laying.{first, last, before, since, admissible}
use Rattle.laws.proofs.Tests.{cond_cases}
use Rattle.laws.proofs.Counts.{T_flag, is, is_self, count}
use Rattle.laws.proofs.Lists.{All}
use Rattle.laws.proofs.Runs.{Run, Land, land_turn, least_in, turn_to_first}
use Rattle.laws.proofs.Links.{laid_lt}
use Rattle.laws.proofs.Split.{before_since, since_head}
use Rattle.laws.proofs.Sound.{count_all, Sound}
use Rattle.land.specs.declared.Seen.{Seen}
use Rattle.land.specs.Walks.{land_from, next_by, lands_along, lands, first_fit, Below, BelowAll, Darts, Walkable, Sought}

-- ---- the darts of a walk

pub length_from : (t : List ℕ) (n d : ℕ) → length (land_from t n d) ≡ n
unfolding land_from
length_from t zero d = refl
length_from t (suc n) d = ap suc (length_from t n (next t d))

-- m darts and then n more, from the dart m steps on
pub from_append : (t : List ℕ) (m n d : ℕ) → land_from t (m + n) d ≡ land_from t m d ++ land_from t n (next_by t m d)
unfolding land_from next_by
from_append t zero n d = ap (λ (k : ℕ). land_from t k d) (zero-add n)
from_append t (suc m) n d = ap (λ (k : ℕ). land_from t k d) (suc-add m n) ∙ ap (λ (l : List ℕ). d ∷ l) (from_append t m n (next t d))

pub from_last : (t : List ℕ) (n d : ℕ) → last (land_from t (suc n) d) ≡ next_by t n d
unfolding land_from next_by last
from_last t zero d = refl
from_last t (suc n) d = from_last t n (next t d)

-- ---- a run and a land

pub from_run : (t : List ℕ) (d : ℕ) (l : List ℕ) (e : ℕ) → Run t d l e → land_from t (length (d ∷ l)) d ≡ d ∷ l
unfolding land_from
from_run t d [] e h = refl
from_run t d (x ∷ l) e h = ap (λ (m : List ℕ). d ∷ m) (ap (land_from t (length (x ∷ l))) h.0 ∙ from_run t x l e h.1)

pub land_from_lem : (t l : List ℕ) → Land t l → land_from t (length l) (first l) ≡ l
unfolding first
land_from_lem t [] h = absurd h
land_from_lem t (d ∷ l) h = from_run t d l d h

-- from another of its darts
pub turned_from : (t u : List ℕ) (e : ℕ) (w : List ℕ) → Land t (u ++ (e ∷ w)) → land_from t (length (u ++ (e ∷ w))) e ≡ (e ∷ w) ++ u
turned_from t u e w h = ap (λ (n : ℕ). land_from t n e) same ∙ from_run t e (w ++ u) e (land_turn t u (e ∷ w) h)
  where
    same : length (u ++ (e ∷ w)) ≡ length ((e ∷ w) ++ u)
    same = omega (arith, length-append u (e ∷ w), length-append (e ∷ w) u)

pub lands_along_lem : (t : List ℕ) (ls : List (List ℕ)) → All (Land t) ls → lands_along t (map first ls) (map length ls) ≡ ls
unfolding lands_along
lands_along_lem t [] a = refl
lands_along_lem t (l ∷ ls) a = ap (λ (m : List ℕ). m ∷ lands_along t (map first ls) (map length ls)) (land_from_lem t l a.0) ∙ ap (λ (ms : List (List ℕ)). l ∷ ms) (lands_along_lem t ls a.1)

-- ---- lands by first darts and lengths

pub along_at : (t fs ns : List ℕ) (i : ℕ) → i < length fs → i < length ns → get_or (lands_along t fs ns) i [] ≡ land_from t (get_or ns i 0) (get_or fs i 0)
unfolding lands_along
along_at t [] ns i h k = absurd (not-suc-le-zero h)
along_at t (d ∷ fs) [] i h k = absurd (not-suc-le-zero k)
along_at t (d ∷ fs) (n ∷ ns) zero h k = refl
along_at t (d ∷ fs) (n ∷ ns) (suc i) h k = along_at t fs ns i (omega arith) (omega arith)

length_along : (t fs ns : List ℕ) → length fs ≡ length ns → length (lands_along t fs ns) ≡ length fs
unfolding lands_along
length_along t [] ns e = refl
length_along t (d ∷ fs) [] e = sym e
length_along t (d ∷ fs) (n ∷ ns) e = ap suc (length_along t fs ns (omega arith))

pub length_lands : (t fs ns : List ℕ) (n : ℕ) → n ≤ length fs → n ≤ length ns → length (lands t fs ns n) ≡ n
length_lands t fs ns n h k = length_along t (take n fs) (take n ns) (length-take-le n fs h ∙ sym (length-take-le n ns k)) ∙ length-take-le n fs h

pub land_at : (t fs ns : List ℕ) (n i : ℕ) → n ≤ length fs → n ≤ length ns → i < n → get_or (lands t fs ns n) i [] ≡ land_from t (get_or ns i 0) (get_or fs i 0)
land_at t fs ns n i h k l =
    along_at t (take n fs) (take n ns) i (omega (arith, length-take-le n fs h)) (omega (arith, length-take-le n ns k))
    ∙ ap (λ (m : ℕ). land_from t m (get_or (take n fs) i 0)) (get_or-take n ns i 0 l)
    ∙ ap (land_from t (get_or ns i 0)) (get_or-take n fs i 0 l)

pub below_land : (n : ℕ) (ls : List (List ℕ)) (i : ℕ) → i < length ls → BelowAll n ls → Below n (get_or ls i [])
below_land n [] i h b = absurd (not-suc-le-zero h)
below_land n (l ∷ ls) zero h b = b.0
below_land n (l ∷ ls) (suc i) h b = below_land n ls i (omega arith) b.1

-- the land of number k, of `len` darts from d on, and that it can be walked
module _ (t fs ns : List ℕ) (n : ℕ) (w : Walkable t fs ns n) (k len d : ℕ) (h : k < n) (l : len ≡ get_or ns k 0) (f : d ≡ get_or fs k 0) where
  number : get_or (lands t fs ns n) k [] ≡ land_from t len d
  number =
      land_at t fs ns n k w.starts w.sizes h
      ∙ ap (λ (m : ℕ). land_from t m (get_or fs k 0)) (sym l)
      ∙ ap (land_from t len) (sym f)

  short : k < length (lands t fs ns n)
  short = omega (arith, length_lands t fs ns n w.starts w.sizes)

  pub land_darts : Darts t (land_from t len d)
  land_darts = record {
    even = w.even;
    few = w.few;
    inside = subst (Below (length t)) number (below_land (length t) (lands t fs ns n) k short w.inside);
  }

  pub lands_cut : drop k (lands t fs ns n) ≡ land_from t len d ∷ drop (k + 1) (lands t fs ns n)
  lands_cut =
      drop-cons (lands t fs ns n) k [] short
      ∙ ap (λ (j : ℕ). get_or (lands t fs ns n) k [] ∷ drop j (lands t fs ns n)) (sym (add-one k))
      ∙ ap (λ (m : List ℕ). m ∷ drop (k + 1) (lands t fs ns n)) number

-- ---- that lands can be walked

pub below_append : (n : ℕ) (l m : List ℕ) → Below n (l ++ m) → Below n l × Below n m
below_append n [] m b = (tt, b)
below_append n (d ∷ l) m b = let r = below_append n l m b.1 in ((b.0, r.0), r.1)

pub append_below : (n : ℕ) (l m : List ℕ) → Below n l → Below n m → Below n (l ++ m)
append_below n [] m a b = b
append_below n (d ∷ l) m a b = (a.0, append_below n l m a.1 b)

pub below_of : (n : ℕ) (l : List ℕ) → ((z : ℕ) → 1 ≤ count z l → z < n) → Below n l
unfolding count
below_of n [] h = tt
below_of n (d ∷ l) h = (h d (omega (arith, is_self d)), below_of n l (λ z k. h z (omega arith)))

pub below_all : (n : ℕ) (ls : List (List ℕ)) → ((z : ℕ) → 1 ≤ count_all z ls → z < n) → BelowAll n ls
unfolding count_all
below_all n [] h = tt
below_all n (l ∷ ls) h = (below_of n l (λ z k. h z (omega arith)), below_all n ls (λ z k. h z (omega arith)))

-- fewer darts than can be walked
pub darts_fewer : (t : List ℕ) (m n d : ℕ) → m ≤ n → Darts t (land_from t n d) → Darts t (land_from t m d)
darts_fewer t m n d h w =
    let e : n ≡ m + (n - m) = omega arith in
    let s = ap (λ (k : ℕ). land_from t k d) e ∙ from_append t m (n - m) d in
    record { even = w.even; few = w.few; inside = (below_append (length t) (land_from t m d) (land_from t (n - m) (next_by t m d)) (subst (Below (length t)) s w.inside)).0 }

-- the lands ls, kept by their first darts and their lengths
module _ (t fs ns : List ℕ) (n : ℕ) (ls : List (List ℕ)) (f : take n fs ≡ map first ls) (g : take n ns ≡ map length ls) (S : Sound t ls) where
  pub lands_are : lands t fs ns n ≡ ls
  lands_are = ap (λ (ms : List ℕ). lands_along t ms (take n ns)) f ∙ ap (lands_along t (map first ls)) g ∙ lands_along_lem t ls S.follow

  pub lands_of_lem : length t % 2 ≡ 0 → length t ≤ missing → n ≤ length fs → n ≤ length ns → Walkable t fs ns n
  lands_of_lem e h a b = record {
    even = e;
    few = h;
    starts = a;
    sizes = b;
    inside = subst (BelowAll (length t)) (sym lands_are) (below_all (length t) ls (λ z k. laid_lt t z (T_flag (laid t z) (omega (arith, S.cover z)))));
  }

-- ---- the first land that fits

module _ (ends cs : List ℕ) where
  pub fit_le : (ls : List (List ℕ)) → first_fit ends cs ls ≤ length ls
  unfolding first_fit
  fit_le [] = omega arith
  fit_le (l ∷ ls) = cond_cases (λ (k : ℕ). k ≤ suc (length ls)) (all (visits ends l) cs) (λ t. omega arith) (λ t. omega (arith, fit_le ls))

  -- it is none: no land is admissible
  pub fit_none : (i : ℕ) (ls : List (List ℕ)) → first_fit ends cs ls ≡ length ls → admissible ends cs i ls ≡ []
  unfolding first_fit admissible
  fit_none i [] e = refl
  fit_none i (l ∷ ls) e = go (all (visits ends l) cs) (λ h. fit_none (suc i) ls h) e
    where
      go : (b : Bool) → (first_fit ends cs ls ≡ length ls → admissible ends cs (suc i) ls ≡ []) → cond b zero (suc (first_fit ends cs ls)) ≡ suc (length ls)
          → cond b (i ∷ admissible ends cs (suc i) ls) (admissible ends cs (suc i) ls) ≡ []
      go true k h = absurd (suc-ne-zero (length ls) (sym h))
      go false k h = k (suc_inj h)

  -- it is one: the lowest admissible land, and behind it those that are admissible behind it
  pub fit_first : (i : ℕ) (ls : List (List ℕ)) → first_fit ends cs ls < length ls
      → admissible ends cs i ls ≡ (i + first_fit ends cs ls) ∷ admissible ends cs (suc (i + first_fit ends cs ls)) (drop (suc (first_fit ends cs ls)) ls)
  unfolding first_fit admissible
  fit_first i [] h = absurd (not-suc-le-zero h)
  fit_first i (l ∷ ls) h = go (all (visits ends l) cs) (λ k. fit_first (suc i) ls k) h
    where
      go : (b : Bool)
          → (first_fit ends cs ls < length ls → admissible ends cs (suc i) ls ≡ (suc i + first_fit ends cs ls) ∷ admissible ends cs (suc (suc i + first_fit ends cs ls)) (drop (suc (first_fit ends cs ls)) ls))
          → cond b zero (suc (first_fit ends cs ls)) < suc (length ls)
          → cond b (i ∷ admissible ends cs (suc i) ls) (admissible ends cs (suc i) ls)
          ≡ (i + cond b zero (suc (first_fit ends cs ls))) ∷ admissible ends cs (suc (i + cond b zero (suc (first_fit ends cs ls)))) (drop (suc (cond b zero (suc (first_fit ends cs ls)))) (l ∷ ls))
      go true k h = ap (λ (j : ℕ). j ∷ admissible ends cs (suc j) ls) (sym (add-zero i))
      go false k h =
          let e : suc i + first_fit ends cs ls ≡ i + suc (first_fit ends cs ls) = omega arith in
          k (omega arith) ∙ ap (λ (j : ℕ). j ∷ admissible ends cs (suc j) (drop (suc (first_fit ends cs ls)) ls)) e

  pub fit_some : (i : ℕ) (ls : List (List ℕ)) → first_fit ends cs ls < length ls → 1 ≤ length (admissible ends cs i ls)
  fit_some i ls h = omega (arith, ap length (fit_first i ls h))

  pub none_fit : (i : ℕ) (ls : List (List ℕ)) → length (admissible ends cs i ls) ≡ 0 → first_fit ends cs ls ≡ length ls
  none_fit i ls e = go (dec_lt (first_fit ends cs ls) (length ls))
    where
      go : Dec (first_fit ends cs ls < length ls) → first_fit ends cs ls ≡ length ls
      go (yes h) = absurd (not-suc-le-zero {n = 0} (omega (arith, fit_some i ls h)))
      go (no h) = omega (arith, fit_le ls)

-- ---- the same, as the code tells it: a is the first of n lands that fits, and b the first behind it

module _ (ends cs : List ℕ) (ls : List (List ℕ)) (n a : ℕ) (size : length ls ≡ n) (f : a ≡ 0 + first_fit ends cs (drop 0 ls)) where
  is_first : first_fit ends cs ls ≡ a
  is_first = omega arith

  pub told_none : a ≡ n → admissible ends cs 0 ls ≡ []
  told_none e = fit_none ends cs 0 ls (is_first ∙ e ∙ sym size)

  within : a ≢ n → first_fit ends cs ls < length ls
  within h = omega (arith, fit_le ends cs ls)

  behind : a ≢ n → admissible ends cs 0 ls ≡ a ∷ admissible ends cs (suc a) (drop (suc a) ls)
  behind h = fit_first ends cs 0 ls (within h) ∙ ap (λ (k : ℕ). k ∷ admissible ends cs (suc k) (drop (suc (first_fit ends cs ls)) ls)) (sym f) ∙ ap (λ (k : ℕ). a ∷ admissible ends cs (suc a) (drop (suc k) ls)) is_first

  pub told_first : a ≢ n → get_or (admissible ends cs 0 ls) 0 0 ≡ a
  told_first h = ap (λ (l : List ℕ). get_or l 0 0) (behind h)

  module _ (b : ℕ) (h : a ≢ n) (g : b ≡ a + 1 + first_fit ends cs (drop (a + 1) ls)) where
    rest : length (drop (suc a) ls) ≡ n - (a + 1)
    rest = length-drop (suc a) ls ∙ omega arith

    second : a + 1 + first_fit ends cs (drop (suc a) ls) ≡ b
    second = ap (λ (k : ℕ). a + 1 + first_fit ends cs (drop k ls)) (sym (add-one a)) ∙ sym g

    pub told_one : b ≡ n → length (admissible ends cs 0 ls) ≡ 1
    told_one e =
        ap length (behind h)
        ∙ ap (λ (l : List ℕ). suc (length l)) (fit_none ends cs (suc a) (drop (suc a) ls) (omega (arith, second, rest)))

    pub told_more : b ≢ n → length (admissible ends cs 0 ls) ≢ 1
    told_more k e =
        let few : length (admissible ends cs (suc a) (drop (suc a) ls)) ≡ 0 = suc_inj (sym (ap length (behind h)) ∙ e) in
        k (omega (arith, none_fit ends cs (suc a) (drop (suc a) ls) few, second, rest, within h, is_first))

-- ---- the stretches of a land, and the land listed

-- the land from the first dart that leaves x on
pub turned_since : (ends t : List ℕ) (x : ℕ) (l : List ℕ) → Land t l → T (visits ends l x) → land_from t (length l) (first (since ends x l)) ≡ since ends x l ++ before ends x l
unfolding first
turned_since ends t x l h v =
    let s = since_head ends x l v in
    let e = s.1.1 in
    let cut : l ≡ before ends x l ++ (s.0 ∷ s.1.0) = sym (before_since ends x l) ∙ ap (λ (m : List ℕ). before ends x l ++ m) e in
    ap (λ (m : List ℕ). land_from t (length l) (first m)) e
    ∙ ap (λ (m : List ℕ). land_from t (length m) s.0) cut
    ∙ turned_from t (before ends x l) s.0 s.1.0 (subst (Land t) cut h)
    ∙ ap (λ (m : List ℕ). m ++ before ends x l) (sym e)

-- the dart directly before the one that is looked for
pub sought_last : (ends : List ℕ) (p d : ℕ) (l : List ℕ) (r : Seen) → Sought ends p d l r → 1 ≤ r.steps → r.last ≡ last (before ends p l)
unfolding last
sought_last ends p d l r w h = w.last ∙ go (before ends p l) (omega (arith, w.steps))
  where
    go : (b : List ℕ) → 1 ≤ length b → last (d ∷ b) ≡ last b
    go [] k = absurd (not-suc-le-zero k)
    go (e ∷ b) k = refl

smallest_in : (d : ℕ) (l : List ℕ) → d < missing → 1 ≤ count (least missing (d ∷ l)) (d ∷ l)
unfolding least count
smallest_in d l h =
    subst (λ (z : ℕ). 1 ≤ is z d + count z l) (sym (ap (λ (m : ℕ). least m l) small))
    (⊎_elim (λ e. omega (arith, is_self d, ap (λ (z : ℕ). is z d) e)) (λ k. omega arith) (least_in d l))
  where
    small : cond (ltb d missing) d missing ≡ d
    small = rw (lt-ltb d missing h)

-- a land is listed from its smallest dart
pub first_listed : (d : ℕ) (l : List ℕ) → d < missing → first (listed (d ∷ l)) ≡ least missing (d ∷ l)
unfolding listed
first_listed d l h = turn_to_first (least missing (d ∷ l)) [] (d ∷ l) (smallest_in d l h)

-- ---- a buffer
