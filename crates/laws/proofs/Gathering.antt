-- The lands of turns that permute the darts, gathered dart by dart (rules, "Terms", `gather`).
--   Gathered t d ls     the lands ls are those of the darts below d: closed walks that share no dart, each listed from its smallest dart, in order of it
--   Lands t ls          the lands ls are all lands of the turns t: each dart is in one of them, once
-- any_has, has_any: the test whether a dart stands in lands. gather_old, gather_new, gather_over: a dart that is in a land, one that begins one, and the end. gathered_none, gathered_old, gathered_new: so with the facts.
-- gathered_room, gathered_few: they have at most as many darts as there are, and are at most half as many. gathered_lands_of: the lands of the turns. lands_..: what they are.
-- Assumes nothing.
use mathlib.Core.Path.{◌≡◌, refl, sym, ap, ◌∙◌, subst}
use mathlib.Core.Logic.{◌≢◌, ⊎_elim}
use mathlib.Core.Bool.{Bool, cond, not, ◌||◌}
use mathlib.Core.List.{List, [], ◌∷◌, ◌++◌}
use Prim.Native.Nat.{ℕ, zero, suc, ◌+◌, ◌-◌, ◌*◌, ◌≤◌, ◌<◌}
use native.Mathlib.Nat.{not-suc-le-zero, eq-zero-or-pos}
use native.Mathlib.Numerals.{add-one}
use native.Mathlib.Omega.{arith}
use lib.Dec.{T}
use lib.ListN.{length, get_or, length-append}
use Rattle.rules.specs.Lists.{from, any, has, concat}
use Rattle.rules.specs.Terms.{missing, laid, next, gather, lands_of}
use Rattle.rules.specs.Laying.{first}
use Rattle.laws.proofs.Tests.{T_is, T_isnt, or_T, T_or₁, T_or₂}
use Rattle.laws.proofs.Counts.{is, is_self, is_cases, is_apart, count, zero_of, pigeon, length_le}
use Rattle.laws.proofs.Lists.{All, all_snoc, all_weaken, from_lt, from_once, has_count, count_has, length_from}
use Rattle.laws.proofs.Runs.{Land}
use Rattle.laws.proofs.Links.{there_lt}
use Rattle.laws.proofs.Sound.{count_all, count_snoc}
use Rattle.laws.proofs.Orbits.{steps, steps_suc, steps_inside}
use Rattle.laws.proofs.InOrder.{HeadsRise}
use Rattle.laws.proofs.Counting.{count_concat}
use Rattle.laws.proofs.Permuting.{Permuting, land_of, LandOf, next_in, next_apart, land_of_lem, land_before}

-- ---- whether a dart stands in lands

pub any_has : (ls : List (List ℕ)) (x : ℕ) → 1 ≤ count_all x ls → T (any (λ l. has l x) ls)
unfolding any count_all
any_has [] x h = absurd (not-suc-le-zero h)
any_has (l ∷ ls) x h =
    ⊎_elim (λ e. T_or₂ (has l x) (any (λ m. has m x) ls) (any_has ls x (omega arith))) (λ k. T_or₁ (has l x) (any (λ m. has m x) ls) (count_has l x k)) (eq-zero-or-pos (count x l))

pub has_any : (ls : List (List ℕ)) (x : ℕ) → T (any (λ l. has l x) ls) → 1 ≤ count_all x ls
unfolding any count_all
has_any [] x h = absurd h
has_any (l ∷ ls) x h = ⊎_elim (λ k. omega (arith, has_count l x k)) (λ k. omega (arith, has_any ls x k)) (or_T (has l x) (any (λ m. has m x) ls) h)

-- ---- one dart

-- a dart of turns that lead to darts is laid
pub dart_laid : (t : List ℕ) → Permuting t → (d : ℕ) → d < length t → T (laid t d)
unfolding laid
dart_laid t w d h = there_lt (get_or t d missing) (omega (arith, w.dart d h, w.small, same t d h))
  where
    same : (l : List ℕ) (i : ℕ) → i < length l → get_or l i missing ≡ get_or l i 0
    same [] i b = absurd (not-suc-le-zero b)
    same (x ∷ l) zero b = refl
    same (x ∷ l) (suc i) b = same l i (omega arith)

module _ (t : List ℕ) (d : ℕ) (ls : List (List ℕ)) where
  old_dart : (ds : List ℕ) → 1 ≤ count_all d ls → gather t (d ∷ ds) ls ≡ gather t ds ls
  unfolding gather
  old_dart ds k =
      ap (λ (b : Bool). gather t ds (cond b ls (ls ++ (land_of t d ∷ [])))) (T_is (not (laid t d) || any (λ l. has l d) ls) (T_or₂ (not (laid t d)) (any (λ l. has l d) ls) (any_has ls d k)))

  new_dart : (ds : List ℕ) → T (laid t d) → count_all d ls ≡ 0 → gather t (d ∷ ds) ls ≡ gather t ds (ls ++ (land_of t d ∷ []))
  unfolding gather
  new_dart ds b k =
      ap (λ (a : Bool). gather t ds (cond (not a || any (λ l. has l d) ls) ls (ls ++ (land_of t d ∷ [])))) (T_is (laid t d) b)
      ∙ ap (λ (a : Bool). gather t ds (cond a ls (ls ++ (land_of t d ∷ [])))) (T_isnt (any (λ l. has l d) ls) (λ a. not-suc-le-zero {n = 0} (omega (arith, has_any ls d a))))

module _ (t : List ℕ) (d n : ℕ) (ls : List (List ℕ)) where
  one_more : d < n → from d (n - d) ≡ d ∷ from (d + 1) (n - (d + 1))
  unfolding from
  one_more h = let e : n - d ≡ suc (n - (d + 1)) = omega arith in rw (e, add-one)

  pub gather_old : d < n → 1 ≤ count_all d ls → gather t (from d (n - d)) ls ≡ gather t (from (d + 1) (n - (d + 1))) ls
  gather_old h k = ap (λ (ds : List ℕ). gather t ds ls) (one_more h) ∙ old_dart t d ls (from (d + 1) (n - (d + 1))) k

  pub gather_new : d < n → T (laid t d) → count_all d ls ≡ 0 → gather t (from d (n - d)) ls ≡ gather t (from (d + 1) (n - (d + 1))) (ls ++ (land_of t d ∷ []))
  gather_new h b k = ap (λ (ds : List ℕ). gather t ds ls) (one_more h) ∙ new_dart t d ls (from (d + 1) (n - (d + 1))) b k

  pub gather_over : n ≤ d → gather t (from d (n - d)) ls ≡ ls
  unfolding gather from
  gather_over h = let e : n - d ≡ 0 = omega arith in rw e

-- ---- the lands of the darts below d

heads_snoc : (ls : List (List ℕ)) (m : List ℕ) → HeadsRise ls → All (λ l. first l < first m) ls → HeadsRise (ls ++ (m ∷ []))
heads_snoc [] m r a = (tt, tt)
heads_snoc (l ∷ ls) m r a = (all_snoc (λ k. first l < first k) ls m r.0 a.0, heads_snoc ls m r.1 a.1)

pub record Gathered (t : List ℕ) (d : ℕ) (ls : List (List ℕ)) : Type 0 where
  pub follow : All (Land t) ls
  pub once : (z : ℕ) → count_all z ls ≤ 1
  pub inside : (z : ℕ) → 1 ≤ count_all z ls → z < length t
  pub below : (z : ℕ) → z < d → 1 ≤ count_all z ls
  pub two : All (λ l. 2 ≤ length l) ls
  pub least : All (λ l. (z : ℕ) → 1 ≤ count z l → first l ≤ z) ls
  pub heads : All (λ l. first l < d) ls
  pub rising : HeadsRise ls

pub gathered_none : (t : List ℕ) → Gathered t 0 []
unfolding count_all
gathered_none t = record {
  follow = tt;
  once = λ z. omega arith;
  inside = λ z h. absurd (not-suc-le-zero h);
  below = λ z h. absurd (not-suc-le-zero h);
  two = tt;
  least = tt;
  heads = tt;
  rising = tt;
}

-- the dart before a dart of these lands is one of theirs
lands_before : (t : List ℕ) (ls : List (List ℕ)) (y : ℕ) → All (Land t) ls → 1 ≤ count_all y ls → (x : ℕ) × (1 ≤ count_all x ls) × (next t x ≡ y)
unfolding count_all
lands_before t [] y a h = absurd (not-suc-le-zero h)
lands_before t (l ∷ ls) y a h =
    ⊎_elim (λ e. let r = lands_before t ls y a.1 (omega arith) in (r.0, omega (arith, r.1), r.2)) (λ k. let r = land_before t l y a.0 k in (r.0, omega (arith, r.1), r.2)) (eq-zero-or-pos (count y l))

module _ (t : List ℕ) (w : Permuting t) (d : ℕ) (ls : List (List ℕ)) (g : Gathered t d ls) where
  pub gathered_old : 1 ≤ count_all d ls → Gathered t (d + 1) ls
  gathered_old h = record {
    follow = g.follow;
    once = g.once;
    inside = g.inside;
    below = λ z b. ⊎_elim (λ e. subst (λ (y : ℕ). 1 ≤ count_all y ls) (sym e) h) (λ m. let ne : z ≢ d = is_apart z d m in g.below z (omega arith)) (is_cases z d);
    two = g.two;
    least = g.least;
    heads = all_weaken (λ l. first l < d) (λ l. first l < d + 1) (λ l k. omega arith) ls g.heads;
    rising = g.rising;
  }

  module _ (b : d < length t) (new : count_all d ls ≡ 0) where
    -- no step from d comes into these lands: the dart before it would be in them
    steps_apart : (i : ℕ) → count_all (steps (next t) i d) ls ≡ 0
    unfolding steps
    steps_apart zero = new
    steps_apart (suc i) =
        zero_of _ (λ k.
        let r = lands_before t ls (steps (next t) (suc i) d) g.follow k in
        let same : r.0 ≡ steps (next t) i d =
        next_apart t w r.0 (steps (next t) i d) (g.inside r.0 r.1) (steps_inside (next t) (length t) (next_in t w) (next_apart t w) i d b) (r.2 ∙ steps_suc (next t) i d) in
        not-suc-le-zero {n = 0} (omega (arith, r.1, steps_apart i, ap (λ (y : ℕ). count_all y ls) same)))

    walk_apart : (l : List ℕ) → LandOf t d l → (z : ℕ) → 1 ≤ count z (d ∷ l) → count_all z ls ≡ 0
    walk_apart l r z h = let s = r.from_a z h in ap (λ (y : ℕ). count_all y ls) (sym s.1) ∙ steps_apart s.0

    pub gathered_walk : (l : List ℕ) → LandOf t d l → Gathered t (d + 1) (ls ++ ((d ∷ l) ∷ []))
    unfolding count first
    gathered_walk l r = record {
      follow = all_snoc (Land t) ls (d ∷ l) g.follow r.run;
      once = λ z.
          ⊎_elim (λ e. omega (arith, count_snoc z ls (d ∷ l), g.once z)) (λ k. omega (arith, count_snoc z ls (d ∷ l), walk_apart l r z k, r.once z)) (eq-zero-or-pos (count z (d ∷ l)));
      inside = λ z h.
          ⊎_elim (λ e. g.inside z (omega (arith, count_snoc z ls (d ∷ l)))) (λ k. r.inside z k) (eq-zero-or-pos (count z (d ∷ l)));
      below = λ z h.
          ⊎_elim (λ e. omega (arith, count_snoc z ls (d ∷ l), is_self d, ap (λ (y : ℕ). is y d) e)) (λ m. let ne : z ≢ d = is_apart z d m in omega (arith, count_snoc z ls (d ∷ l), g.below z (omega arith))) (is_cases z d);
      two = all_snoc (λ m. 2 ≤ length m) ls (d ∷ l) g.two (omega (arith, r.two));
      least = all_snoc (λ m. (z : ℕ) → 1 ≤ count z m → first m ≤ z) ls (d ∷ l) g.least (λ z h. low z (walk_apart l r z h));
      heads = all_snoc (λ m. first m < d + 1) ls (d ∷ l) (all_weaken (λ m. first m < d) (λ m. first m < d + 1) (λ m k. omega arith) ls g.heads) (omega arith);
      rising = heads_snoc ls (d ∷ l) g.rising g.heads;
    }
      where
        -- every smaller dart is in a land already
        low : (z : ℕ) → count_all z ls ≡ 0 → d ≤ z
        low z e = ⊎_elim (λ k. omega arith) (λ k. omega (arith, bad k)) (eq-zero-or-pos (d - z))
          where
            bad : 1 ≤ d - z → ⊥
            bad k = not-suc-le-zero {n = 0} (omega (arith, g.below z (omega arith)))

    pub gathered_new : Gathered t (d + 1) (ls ++ (land_of t d ∷ []))
    gathered_new = let r = land_of_lem t w d b in subst (λ (l : List ℕ). Gathered t (d + 1) (ls ++ (l ∷ []))) (sym r.1.walked) (gathered_walk r.0 r.1)

-- ---- how many they are

length_twos : (ls : List (List ℕ)) → All (λ l. 2 ≤ length l) ls → 2 * length ls ≤ length (concat ls)
unfolding concat
length_twos [] a = omega arith
length_twos (l ∷ ls) a = omega (arith, a.0, length_twos ls a.1, length-append l (concat ls))

module _ (t : List ℕ) (d : ℕ) (ls : List (List ℕ)) (g : Gathered t d ls) where
  pub gathered_room : length (concat ls) ≤ length t
  gathered_room = pigeon (length t) (concat ls) (λ z h. g.inside z (omega (arith, count_concat z ls))) (λ z. omega (arith, count_concat z ls, g.once z))

  pub gathered_few : 2 * length ls ≤ length t
  gathered_few = omega (arith, length_twos ls g.two, gathered_room)

-- ---- all lands

pub record Lands (t : List ℕ) (ls : List (List ℕ)) : Type 0 where
  -- each is a closed walk of the rule
  pub follow : All (Land t) ls
  -- each dart is in one of them, once, and nothing else is
  pub each : (d : ℕ) → d < length t → count_all d ls ≡ 1
  pub only : (z : ℕ) → 1 ≤ count_all z ls → z < length t
  -- each is listed from its smallest dart
  pub least : All (λ l. (z : ℕ) → 1 ≤ count z l → first l ≤ z) ls
  pub rising : HeadsRise ls
  -- they hold as many darts as there are, and are at most half as many
  pub total : length (concat ls) ≡ length t
  pub few : 2 * length ls ≤ length t

module _ (t : List ℕ) (w : Permuting t) where
  gathered_all : (n d : ℕ) (ls : List (List ℕ)) → d + n ≡ length t → Gathered t d ls → Gathered t (length t) (gather t (from d n) ls)
  unfolding gather from
  gathered_all zero d ls e g = subst (λ (k : ℕ). Gathered t k ls) (omega arith) g
  gathered_all (suc n) d ls e g =
      ⊎_elim
      (λ k.
      subst (λ (ms : List (List ℕ)). Gathered t (length t) ms) (sym (new_dart t d ls (from (suc d) n) (dart_laid t w d (omega arith)) k))
      (gathered_all n (suc d) (ls ++ (land_of t d ∷ [])) (omega arith) (subst (λ (i : ℕ). Gathered t i (ls ++ (land_of t d ∷ []))) (add-one d) (gathered_new t w d ls g (omega arith) k))))
      (λ k.
      subst (λ (ms : List (List ℕ)). Gathered t (length t) ms) (sym (old_dart t d ls (from (suc d) n) k))
      (gathered_all n (suc d) ls (omega arith) (subst (λ (i : ℕ). Gathered t i ls) (add-one d) (gathered_old t w d ls g k))))
      (eq-zero-or-pos (count_all d ls))

  pub gathered_lands_of : Gathered t (length t) (lands_of t)
  unfolding lands_of
  gathered_lands_of = gathered_all (length t) 0 [] (omega arith) (gathered_none t)

pub lands_gathered : (t : List ℕ) (ls : List (List ℕ)) → Gathered t (length t) ls → Lands t ls
lands_gathered t ls g = record {
  follow = g.follow;
  each = λ d h. omega (arith, g.once d, g.below d h);
  only = g.inside;
  least = g.least;
  rising = g.rising;
  total = omega (arith, gathered_room t (length t) ls g, length_le (length t) (from 0 (length t)) (concat ls) (λ z h. g.inside z (omega (arith, count_concat z ls))) held, length_from 0 (length t));
  few = gathered_few t (length t) ls g;
}
  where
    -- every dart stands in them
    held : (z : ℕ) → count z (from 0 (length t)) ≤ count z (concat ls)
    held z =
        ⊎_elim (λ k. omega arith) (λ k. omega (arith, from_once z 0 (length t), g.below z (omega (arith, from_lt z 0 (length t) k)), count_concat z ls)) (eq-zero-or-pos (count z (from 0 (length t))))

pub lands_lands_of : (t : List ℕ) → Permuting t → Lands t (lands_of t)
lands_lands_of t w = lands_gathered t (lands_of t) (gathered_lands_of t w)
