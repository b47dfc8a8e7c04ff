-- The lands that are kept, in order of smallest dart, are the lands walked afresh from the turns (document 01, "Terms", "Laying" and "Reading a sheet").
--   Headed l            the land l begins with its smallest dart
--   insert_land l ls     the land l put in its place among lands in order of first dart
--   in_order ls          the lands ls in order of first dart
--   Ordered ls          the first darts of the lands ls do not fall;  HeadsRise ls: they rise, so that no two are the same
--   starts_below d l     the land l begins with a dart below d;  starts_at d l: it begins with d
--   Walked t l          the walk from the first dart of l, which is its smallest, is l;  met d ls: a land of ls holds d
--   IsListed l          l is a cycle listed from its smallest dart;  ListedAll s: every land of the state s is
-- listed_headed: a cycle that is listed begins with its smallest dart. listed_laying: every land of a state that laying leaves is listed. all_in_order, count_in_order, length_in_order, sound_in_order: the lands in order are the same lands; ordered_in_order: they are in order.
-- gathered, lands_of_kept: sound lands whose first darts do not fall are the lands of the turns. rising_sound: then they rise. heads_at: of two, the one before begins with the smaller dart. ..-laid_out: so it is with every plate that is read,
-- laid with at most n paths: each land begins with its smallest dart, and the lands of the turns are the lands kept, in order of first dart.
-- Assumes nothing.
use mathlib.Core.Path.{◌≡◌, refl, sym, ◌∙◌, ap, subst}
use mathlib.Core.Logic.{◌≢◌, ⊎_elim}
use mathlib.Core.Bool.{Bool, cond, not, ◌||◌}
use mathlib.Core.List.{List, [], ◌∷◌, ◌++◌, append-nil}
use Prim.Native.Nat.{ℕ, zero, suc, ◌+◌, ◌≤◌, ◌<◌}
use native.Mathlib.Nat.{not-suc-le-zero, eq-zero-or-pos}
use native.Mathlib.Decide.{dec_lt}
use native.Mathlib.Omega.{arith}
use lib.Dec.{T, eqb, ltb, ltb→lt, lt→ltb, nltb→le, T_not, not_T}
use lib.ListN.{length, get_or, set}
use Rattle.rules.specs.Lists.{from, any, keep, has}
use Rattle.rules.specs.Terms.{missing, laid, walk, least, listed, gather, lands_of}
use Rattle.rules.specs.Refusals.{given, Plate, read_plate}
use Rattle.rules.specs.Laying.{State, back, first, lay, split_lands, start, laying, laid_out, whole_plate, Choice}
use Rattle.laws.proofs.Tests.{cond_cases, T_is, T_isnt, eqb_yes, eqb_no, or_T, T_or₁, T_or₂, not_or, not_not}
use Rattle.laws.proofs.Counts.{flag, flag_T, flag_F, T_flag, flag_le, count, count_head}
use Rattle.laws.proofs.Lists.{All, all_snoc, all_weaken, has_count, count_has}
use Rattle.laws.proofs.Runs.{Land, count_listed, least_le, least_low, least_in, turn_to_first}
use Rattle.laws.proofs.Links.{laid_lt}
use Rattle.laws.proofs.Sound.{count_all, all_at, all_keep, Sound}
use Rattle.laws.proofs.Choices.{rounds_keep}
use Rattle.laws.proofs.Rounds.{Kept}
use Rattle.laws.proofs.Reading.{accepted, layable, kept_laid_out}
use Rattle.laws.proofs.Afresh.{afresh}

-- ---- a cycle listed from its smallest dart

-- Begins with its smallest dart: that is its first, and no dart of it is smaller.
abbrev pub Headed : List ℕ → Type 0
Headed l = (first l ≡ least missing l) × ((z : ℕ) → 1 ≤ count z l → first l ≤ z)

pub listed_headed : (l : List ℕ) → ((z : ℕ) → 1 ≤ count z l → z < missing) → (d : ℕ) → 1 ≤ count d l → Headed (listed l)
unfolding listed
listed_headed l small d h =
    let inside : 1 ≤ count (least missing l) l =
    ⊎_elim (λ e. absurd (not-suc-le-zero {n = 0} (omega (arith, least_low missing l d h, small d h)))) (λ k. k) (least_in missing l) in
    let e : first (listed l) ≡ least missing l = turn_to_first (least missing l) [] l inside in
    let low : (z : ℕ) → 1 ≤ count z (listed l) → first (listed l) ≤ z = (λ z k. omega (arith, least_low missing l z (omega (arith, count_listed z l)))) in
    let up : least missing (listed l) ≤ least missing l = least_low missing (listed l) (least missing l) (omega (arith, count_listed (least missing l) l)) in
    let down : least missing l ≤ least missing (listed l) =
    ⊎_elim (λ k. omega (arith, least_le missing l)) (λ k. omega (arith, low (least missing (listed l)) k)) (least_in missing (listed l)) in
    (omega arith, low)

-- ---- every land that laying leaves is listed

abbrev pub IsListed : List ℕ → Type 0
IsListed l = (m : List ℕ) × (l ≡ listed m)

abbrev pub ListedAll : State → Type 0
ListedAll s = All IsListed s.lands

all_put : {A : Type 0} (P : A → Type 0) (l : List A) (i : ℕ) (a : A) → All P l → P a → All P (set l i a)
all_put P [] i a h k = tt
all_put P (x ∷ l) zero a h k = (k, h.1)
all_put P (x ∷ l) (suc i) a h k = (h.0, all_put P l i a h.1 k)

pub listed_start : (np : ℕ) (ps : List ℕ) (on : List Bool) (c : ℕ) → ListedAll (start np ps on c)
unfolding start
listed_start np ps on c = ((_, refl), ((_, refl), tt))

pub listed_split : (i : ℕ) (a b q : List ℕ) (ls : List (List ℕ)) → All IsListed ls → All IsListed (split_lands i a b q ls)
unfolding split_lands
listed_split i a b q ls h =
    all_snoc IsListed (set ls i (listed (q ++ b))) (listed (back q ++ a))
    (all_put IsListed ls i (listed (q ++ b)) h (q ++ b, refl)) (back q ++ a, refl)

pub listed_lay : (np : ℕ) (ps : List ℕ) (on : List Bool) (s : State) → ListedAll s → (c : Choice) → ListedAll (lay np ps on s c)
unfolding lay
listed_lay np ps on s h c = listed_split _ _ _ _ s.lands h

pub listed_laying : (np : ℕ) (ps : List ℕ) (on : List Bool) (n : ℕ) → ListedAll (laying np ps on n).state
unfolding laying
listed_laying np ps on n = rounds_keep np ps on ListedAll (λ s h c k o. listed_lay np ps on s h c) n (start np ps on _) (listed_start np ps on _)

-- a land holds its first dart
pub land_first : (t l : List ℕ) → Land t l → 1 ≤ count (first l) l
unfolding first
land_first t [] k = absurd k
land_first t (d ∷ l) k = count_head d l

-- in a sound state every land begins with its smallest dart
pub headed_sound : (t : List ℕ) (ls : List (List ℕ)) → length t < missing → Sound t ls → All IsListed ls → All Headed ls
unfolding count_all
headed_sound t ls small S h = go ls S.follow (λ z. omega (arith, S.cover z)) h
  where
    one : (l m : List ℕ) → l ≡ listed m → Land t l → ((z : ℕ) → count z l ≤ flag (laid t z)) → Headed l
    one l m e k c =
        let same : (z : ℕ) → count z l ≡ count z m = (λ z. ap (count z) e ∙ count_listed z m) in
        subst Headed (sym e) (listed_headed m (λ z i. omega (arith, laid_lt t z (T_flag (laid t z) (omega (arith, c z, same z))))) (first l) (omega (arith, land_first t l k, same (first l))))

    go : (ms : List (List ℕ)) → All (Land t) ms → ((z : ℕ) → count_all z ms ≤ flag (laid t z)) → All IsListed ms → All Headed ms
    go [] f c a = tt
    go (l ∷ ms) f c a = (one l a.0.0 a.0.1 f.0 (λ z. omega (arith, c z)), go ms f.1 (λ z. omega (arith, c z)) a.1)

-- ---- the lands in order of first dart

unfoldable pub insert_land : List ℕ → List (List ℕ) → List (List ℕ)
insert_land l [] = l ∷ []
insert_land l (m ∷ ms) = cond (ltb (first l) (first m)) (l ∷ m ∷ ms) (m ∷ insert_land l ms)

unfoldable pub in_order : List (List ℕ) → List (List ℕ)
in_order [] = []
in_order (l ∷ ls) = insert_land l (in_order ls)

abbrev pub Ordered : List (List ℕ) → Type 0
Ordered [] = Unit {0}
Ordered (l ∷ ls) = All (λ m. first l ≤ first m) ls × Ordered ls

all_insert : (P : List ℕ → Type 0) (l : List ℕ) (ls : List (List ℕ)) → P l → All P ls → All P (insert_land l ls)
unfolding insert_land
all_insert P l [] p a = (p, tt)
all_insert P l (m ∷ ms) p a = cond_cases (All P) (ltb (first l) (first m)) (λ t. (p, a)) (λ t. (a.0, all_insert P l ms p a.1))

pub all_in_order : (P : List ℕ → Type 0) (ls : List (List ℕ)) → All P ls → All P (in_order ls)
unfolding in_order
all_in_order P [] a = tt
all_in_order P (l ∷ ls) a = all_insert P l (in_order ls) a.0 (all_in_order P ls a.1)

count_insert : (z : ℕ) (l : List ℕ) (ls : List (List ℕ)) → count_all z (insert_land l ls) ≡ count z l + count_all z ls
unfolding insert_land count_all
count_insert z l [] = refl
count_insert z l (m ∷ ms) =
    cond_cases (λ (k : List (List ℕ)). count_all z k ≡ count z l + (count z m + count_all z ms)) (ltb (first l) (first m))
    (λ t. refl) (λ t. omega (arith, count_insert z l ms))

-- each dart stands in them as often
pub count_in_order : (z : ℕ) (ls : List (List ℕ)) → count_all z (in_order ls) ≡ count_all z ls
unfolding in_order count_all
count_in_order z [] = refl
count_in_order z (l ∷ ls) = omega (arith, count_insert z l (in_order ls), count_in_order z ls)

pub length_in_order : (ls : List (List ℕ)) → length (in_order ls) ≡ length ls
unfolding in_order insert_land
length_in_order [] = refl
length_in_order (l ∷ ls) = go l (in_order ls) ∙ ap suc (length_in_order ls)
  where
    go : (k : List ℕ) (ms : List (List ℕ)) → length (insert_land k ms) ≡ suc (length ms)
    go k [] = refl
    go k (m ∷ ms) = cond_cases (λ (r : List (List ℕ)). length r ≡ suc (suc (length ms))) (ltb (first k) (first m)) (λ t. refl) (λ t. ap suc (go k ms))

ordered_insert : (l : List ℕ) (ls : List (List ℕ)) → Ordered ls → Ordered (insert_land l ls)
unfolding insert_land
ordered_insert l [] h = (tt, tt)
ordered_insert l (m ∷ ms) h =
    cond_cases Ordered (ltb (first l) (first m))
    (λ t. ((omega (arith, ltb→lt (first l) (first m) t), all_weaken (λ k. first m ≤ first k) (λ k. first l ≤ first k) (λ k e. omega (arith, ltb→lt (first l) (first m) t)) ms h.0), h))
    (λ t. (all_insert (λ k. first m ≤ first k) l ms (nltb→le (first l) (first m) t) h.0, ordered_insert l ms h.1))

pub ordered_in_order : (ls : List (List ℕ)) → Ordered (in_order ls)
unfolding in_order
ordered_in_order [] = tt
ordered_in_order (l ∷ ls) = ordered_insert l (in_order ls) (ordered_in_order ls)

-- they are as sound
pub sound_in_order : (t : List ℕ) (ls : List (List ℕ)) → Sound t ls → Sound t (in_order ls)
sound_in_order t ls S = record { follow = all_in_order (Land t) ls S.follow; cover = λ z. count_in_order z ls ∙ S.cover z; pair = S.pair }

-- ---- sound lands whose first darts do not fall are the lands of the turns

starts_below : ℕ → List ℕ → Bool
starts_below d l = ltb (first l) d

starts_at : ℕ → List ℕ → Bool
starts_at d l = eqb (first l) d

-- where every first dart is d or more, none begins below it
none_below : (d : ℕ) (ls : List (List ℕ)) → All (λ m. d ≤ first m) ls → keep (starts_below d) ls ≡ []
unfolding keep starts_below
none_below d [] a = refl
none_below d (l ∷ ls) a =
    cond_cases (λ (r : List (List ℕ)). r ≡ []) (ltb (first l) d) (λ t. absurd (not-suc-le-zero {n = 0} (omega (arith, ltb→lt (first l) d t, a.0)))) (λ t. none_below d ls a.1)

all_below : (d : ℕ) (ls : List (List ℕ)) → All (λ m. first m < d) ls → keep (starts_below d) ls ≡ ls
unfolding keep starts_below
all_below d [] a = refl
all_below d (l ∷ ls) a = rw (T_is (ltb (first l) d) (lt→ltb (first l) d a.0)) (ap (λ (r : List (List ℕ)). l ∷ r) (all_below d ls a.1))

-- those that begin below d + 1: those below d, then those with d
below_next : (d : ℕ) (ls : List (List ℕ)) → Ordered ls → keep (starts_below (suc d)) ls ≡ keep (starts_below d) ls ++ keep (starts_at d) ls
unfolding keep starts_below starts_at
below_next d [] h = refl
below_next d (l ∷ ls) h = go (below_next d ls h.1) (dec_lt (first l) d) (dec_lt d (first l))
  where
    go : keep (starts_below (suc d)) ls ≡ keep (starts_below d) ls ++ keep (starts_at d) ls → Dec (first l < d) → Dec (d < first l) → keep (starts_below (suc d)) (l ∷ ls) ≡ keep (starts_below d) (l ∷ ls) ++ keep (starts_at d) (l ∷ ls)
    go r (yes a) b =
        rw (T_is (ltb (first l) (suc d)) (lt→ltb (first l) (suc d) (omega arith)), T_is (ltb (first l) d) (lt→ltb (first l) d a), eqb_no (first l) d (λ e. omega arith))
        (ap (λ (m : List (List ℕ)). l ∷ m) r)
    go r (no a) (yes b) =
        rw (T_isnt (ltb (first l) (suc d)) (λ t. not-suc-le-zero {n = 0} (omega (arith, ltb→lt (first l) (suc d) t))), T_isnt (ltb (first l) d) (λ t. a (ltb→lt (first l) d t)), eqb_no (first l) d (λ e. omega arith))
        r
    go r (no a) (no b) =
        let e : first l ≡ d = omega arith in
        let none : keep (starts_below d) ls ≡ [] = none_below d ls (all_weaken (λ m. first l ≤ first m) (λ m. d ≤ first m) (λ m k. omega arith) ls h.0) in
        rw (T_is (ltb (first l) (suc d)) (lt→ltb (first l) (suc d) (omega arith)), T_isnt (ltb (first l) d) (λ t. a (ltb→lt (first l) d t)), eqb_yes (first l) d e, none)
        (ap (λ (m : List (List ℕ)). l ∷ m) (r ∙ ap (λ (m : List (List ℕ)). m ++ keep (starts_at d) ls) none))

module _ (t : List ℕ) where
  -- a land that comes out of its first dart's walk, which is its smallest
  Walked : List ℕ → Type 0
  Walked l = (walk t (length t) (first l) (first l) ≡ l) × (1 ≤ count (first l) l) × ((z : ℕ) → 1 ≤ count z l → first l ≤ z)

  module _ (d : ℕ) where
    -- a land of ls holds d
    met : List (List ℕ) → Bool
    met ls = any (λ l. has l d) ls

    met_count : (f : List ℕ → Bool) (ls : List (List ℕ)) → T (met (keep f ls)) → 1 ≤ count_all d ls
    unfolding met keep any count_all
    met_count f [] h = absurd h
    met_count f (l ∷ ls) h =
        cond_cases (λ (m : List (List ℕ)). T (met m) → 1 ≤ count d l + count_all d ls) (f l)
        (λ k s. ⊎_elim (λ u. omega (arith, has_count l d u)) (λ u. omega (arith, met_count f ls u)) (or_T (has l d) (met (keep f ls)) s))
        (λ k s. omega (arith, met_count f ls s)) h

    -- no land holds d: none begins with it
    starts_none : (ls : List (List ℕ)) → All Walked ls → count_all d ls ≡ 0 → keep (starts_at d) ls ≡ []
    unfolding Walked keep count_all starts_at
    starts_none [] a e = refl
    starts_none (l ∷ ls) a e =
        rw (eqb_no (first l) d (λ q. omega (arith, a.0.1, ap (λ (z : ℕ). count z l) q))) (starts_none ls a.1 (omega arith))

    -- one land more to look at
    met_more : (f : List ℕ → Bool) (l : List ℕ) (ls : List (List ℕ)) → T (met (keep f ls)) → T (met (keep f (l ∷ ls)))
    unfolding met keep any
    met_more f l ls h = cond_cases (λ (m : List (List ℕ)). T (met m)) (f l) (λ k. T_or₂ (has l d) (met (keep f ls)) h) (λ k. h)

    met_rest : (f : List ℕ → Bool) (l : List ℕ) (ls : List (List ℕ)) → count d l ≡ 0 → T (met (keep f (l ∷ ls))) → T (met (keep f ls))
    unfolding met keep any
    met_rest f l ls e =
        cond_cases (λ (m : List (List ℕ)). T (met m) → T (met (keep f ls))) (f l)
        (λ k h. ⊎_elim (λ u. absurd (not-suc-le-zero {n = 0} (omega (arith, has_count l d u)))) (λ u. u) (or_T (has l d) (met (keep f ls)) h)) (λ k h. h)

    met_here : (f : List ℕ → Bool) (l : List ℕ) (ls : List (List ℕ)) → T (f l) → 1 ≤ count d l → T (met (keep f (l ∷ ls)))
    unfolding met keep any
    met_here f l ls k h = rw (T_is (f l) k) (T_or₁ (has l d) (met (keep f ls)) (count_has l d h))

    -- a land that begins below d holds it: none begins with it
    starts_met : (ls : List (List ℕ)) → All Walked ls → count_all d ls ≤ 1 → T (met (keep (starts_below d) ls)) → keep (starts_at d) ls ≡ []
    unfolding Walked keep count_all starts_at starts_below
    starts_met [] a e h = refl
    starts_met (l ∷ ls) a e h =
        ⊎_elim
        (λ n. rw (eqb_no (first l) d (λ q. omega (arith, a.0.1, ap (λ (z : ℕ). count z l) q))) (starts_met ls a.1 (omega arith) (met_rest (starts_below d) l ls n h)))
        (λ k. rw (eqb_no (first l) d (λ q. absurd (not-suc-le-zero {n = 0} (omega (
          arith,
          met_count (starts_below d) ls
              (subst (λ (b : Bool). T (met (cond b (l ∷ keep (starts_below d) ls) (keep (starts_below d) ls)))) (T_isnt (ltb (first l) d) (λ u. not-suc-le-zero {n = 0} (omega (arith, ltb→lt (first l) d u)))) h),
        )))))
        (starts_none ls a.1 (omega arith)))
        (eq-zero-or-pos (count d l))

    -- one land holds d, and none that begins below d: it begins with d
    starts_new : (ls : List (List ℕ)) → All Walked ls → count_all d ls ≡ 1 → T (not (met (keep (starts_below d) ls))) → keep (starts_at d) ls ≡ walk t (length t) d d ∷ []
    unfolding Walked keep count_all starts_below starts_at
    starts_new [] a e h = absurd (not-suc-le-zero {n = 0} (omega arith))
    starts_new (l ∷ ls) a e h =
        ⊎_elim
        (λ n. rw (eqb_no (first l) d (λ q. omega (arith, a.0.1, ap (λ (z : ℕ). count z l) q)))
        (starts_new ls a.1 (omega arith) (not_T (met (keep (starts_below d) ls)) (λ k. T_not (met (keep (starts_below d) (l ∷ ls))) h (met_more (starts_below d) l ls k)))))
        (λ k. begins k (λ b. T_not (met (keep (starts_below d) (l ∷ ls))) h (met_here (starts_below d) l ls (lt→ltb (first l) d b) k)) (starts_none ls a.1 (omega arith)))
        (eq-zero-or-pos (count d l))
      where
        begins : 1 ≤ count d l → (first l < d → ⊥) → keep (starts_at d) ls ≡ [] → keep (starts_at d) (l ∷ ls) ≡ walk t (length t) d d ∷ []
        begins k nb none =
            let q : first l ≡ d = omega (arith, a.0.2 d k) in
            rw (eqb_yes (first l) d q, none) (ap (λ (m : List ℕ). m ∷ []) (sym a.0.0 ∙ ap (λ (z : ℕ). walk t (length t) z z) q))

    -- one dart of the gathering
    gather_next : (ls : List (List ℕ)) → Ordered ls → All Walked ls → count_all d ls ≡ flag (laid t d)
        → cond (not (laid t d) || met (keep (starts_below d) ls)) (keep (starts_below d) ls) (keep (starts_below d) ls ++ (walk t (length t) d d ∷ [])) ≡ keep (starts_below (suc d)) ls
    gather_next ls r a e =
        cond_cases (λ (m : List (List ℕ)). m ≡ keep (starts_below (suc d)) ls) (not (laid t d) || met (keep (starts_below d) ls))
        (λ k. ⊎_elim (λ u. old (starts_none ls a (e ∙ flag_F (laid t d) (T_not (laid t d) u)))) (λ u. old (starts_met ls a (omega (arith, flag_le (laid t d))) u))
        (or_T (not (laid t d)) (met (keep (starts_below d) ls)) k))
        (λ k. let u = not_or (not (laid t d)) (met (keep (starts_below d) ls)) k in
        sym (below_next d ls r ∙ ap (λ (m : List (List ℕ)). keep (starts_below d) ls ++ m) (starts_new ls a (e ∙ flag_T (laid t d) (not_not (laid t d) u.0)) u.1)))
      where
        old : keep (starts_at d) ls ≡ [] → keep (starts_below d) ls ≡ keep (starts_below (suc d)) ls
        old n = sym (below_next d ls r ∙ ap (λ (m : List (List ℕ)). keep (starts_below d) ls ++ m) n ∙ append-nil (keep (starts_below d) ls))

  gather_below : (ls : List (List ℕ)) → Ordered ls → All Walked ls → ((z : ℕ) → count_all z ls ≡ flag (laid t z))
      → (n d : ℕ) → gather t (from d n) (keep (starts_below d) ls) ≡ keep (starts_below (d + n)) ls
  unfolding gather from met
  gather_below ls r a e zero d = ap (λ (k : ℕ). keep (starts_below k) ls) (omega arith)
  gather_below ls r a e (suc n) d =
      ap (gather t (from (suc d) n)) (gather_next d ls r a (e d)) ∙ gather_below ls r a e n (suc d) ∙ ap (λ (k : ℕ). keep (starts_below k) ls) (omega arith)

  walked_sound : (ls : List (List ℕ)) → Sound t ls → All Headed ls → All Walked ls
  unfolding Walked
  walked_sound ls S h = go ls S.follow h (afresh t ls S)
    where
      go : (ms : List (List ℕ)) → All (Land t) ms → All Headed ms
          → ((i : ℕ) → i < length ms → walk t (length t) (first (get_or ms i [])) (first (get_or ms i [])) ≡ get_or ms i []) → All Walked ms
      go [] f a w = tt
      go (l ∷ ms) f a w = ((w 0 (omega arith), land_first t l f.0, a.0.1), go ms f.1 a.1 (λ i k. w (suc i) (omega arith)))

  -- Sound lands, each of which begins with its smallest dart, in order of first dart: the lands of the turns.
  pub gathered : (ls : List (List ℕ)) → Sound t ls → All Headed ls → Ordered ls → lands_of t ≡ ls
  unfolding lands_of Walked
  gathered ls S h r =
      ap (gather t (from 0 (length t))) (sym (none_below 0 ls (lows ls)))
      ∙ gather_below ls r (walked_sound ls S h) S.cover (length t) 0
      ∙ ap (λ (k : ℕ). keep (starts_below k) ls) (omega arith)
      ∙ all_below (length t) ls (all_keep Walked (λ m. first m < length t) ls
      (λ m c w. laid_lt t (first m) (T_flag (laid t (first m)) (omega (arith, w.1, c (first m), S.cover (first m))))) (walked_sound ls S h))
    where
      lows : (ms : List (List ℕ)) → All (λ m. 0 ≤ first m) ms
      lows [] = tt
      lows (m ∷ ms) = (omega arith, lows ms)

-- ---- no two begin with the same dart

abbrev pub HeadsRise : List (List ℕ) → Type 0
HeadsRise [] = Unit {0}
HeadsRise (l ∷ ls) = All (λ m. first l < first m) ls × HeadsRise ls

pub heads_at : (ls : List (List ℕ)) → HeadsRise ls → (i j : ℕ) → i < j → j < length ls → first (get_or ls i []) < first (get_or ls j [])
heads_at [] r i j h k = absurd (not-suc-le-zero k)
heads_at (l ∷ ls) r i zero h k = absurd (not-suc-le-zero h)
heads_at (l ∷ ls) r zero (suc j) h k = all_at (λ m. first l < first m) ls j (omega arith) r.0
heads_at (l ∷ ls) r (suc i) (suc j) h k = heads_at ls r.1 i j (omega arith) (omega arith)

pub rising_sound : (t : List ℕ) (ls : List (List ℕ)) → Sound t ls → Ordered ls → HeadsRise ls
unfolding count_all
rising_sound t ls S r = go ls S.follow (λ z. omega (arith, S.cover z, flag_le (laid t z))) r
  where
    -- the lands ms do not hold d: none begins with it
    above : (d : ℕ) (ms : List (List ℕ)) → All (Land t) ms → count_all d ms ≡ 0 → All (λ m. d ≤ first m) ms → All (λ m. d < first m) ms
    above d [] f c a = tt
    above d (m ∷ ms) f c a =
        let ne : d ≢ first m = (λ e. omega (arith, land_first t m f.0, ap (λ (z : ℕ). count z m) e)) in
        (omega (arith, a.0), above d ms f.1 (omega arith) a.1)

    go : (ms : List (List ℕ)) → All (Land t) ms → ((z : ℕ) → count_all z ms ≤ 1) → Ordered ms → HeadsRise ms
    go [] f c o = tt
    go (m ∷ ms) f c o = (above (first m) ms f.1 (omega (arith, land_first t m f.0, c (first m))) o.0, go ms f.1 (λ z. omega (arith, c z)) o.1)

-- ---- a state that is kept

module _ (ps : List ℕ) (on : List Bool) (s : State) (few : length ps < missing) (K : Kept ps on s) (L : ListedAll s) where
  pub headed_kept : All Headed s.lands
  headed_kept = headed_sound s.turns s.lands (omega (arith, K.long)) K.sound L

  -- The lands walked afresh from the turns are the lands kept, in order of first dart.
  pub lands_of_kept : lands_of s.turns ≡ in_order s.lands
  lands_of_kept = gathered s.turns (in_order s.lands) (sound_in_order s.turns s.lands K.sound) (all_in_order Headed s.lands headed_kept) (ordered_in_order s.lands)

-- ---- a plate that is read, laid with any number of paths

module _ (b : List ℕ) (p : Plate) (h : read_plate b ≡ given p) (n : ℕ) where
  listed_laid_out : ListedAll (laid_out p n).state
  unfolding laid_out
  listed_laid_out = listed_laying p.ports p.ends (whole_plate p) n

  -- Every land begins with its smallest dart.
  pub headed_laid_out : All Headed (laid_out p n).state.lands
  headed_laid_out = headed_kept p.ends (whole_plate p) (laid_out p n).state (layable p (accepted b p h)).few (kept_laid_out b p h n) listed_laid_out

  -- The lands walked afresh from the turns are the lands kept, in order of first dart.
  pub lands_of_laid_out : lands_of (laid_out p n).state.turns ≡ in_order (laid_out p n).state.lands
  lands_of_laid_out = lands_of_kept p.ends (whole_plate p) (laid_out p n).state (layable p (accepted b p h)).few (kept_laid_out b p h n) listed_laid_out

  -- They are as many.
  pub count_laid_out : length (lands_of (laid_out p n).state.turns) ≡ length (laid_out p n).state.lands
  count_laid_out = ap length lands_of_laid_out ∙ length_in_order (laid_out p n).state.lands

  -- Their first darts rise.
  pub rising_laid_out : HeadsRise (lands_of (laid_out p n).state.turns)
  rising_laid_out =
      let t = (laid_out p n).state.turns in
      let ls = (laid_out p n).state.lands in
      subst HeadsRise (sym lands_of_laid_out) (rising_sound t (in_order ls) (sound_in_order t ls (kept_laid_out b p h n).sound) (ordered_in_order ls))
