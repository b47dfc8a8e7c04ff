-- Laws of the list definitions (rules, "Lists"): what a test over a list says of the elements, and what a search finds.
--   All P l         P holds of every element of l
-- any_T, T_any, not_any, all_T, not_all, keep_T, T_keep: a test over a list of numbers against the numbers in it. count_from, from_lt, from_once: i, i + 1, .. are what they say.
-- all_.., keep_all, keep_none: what holds of every element. two: of two numbers in a list, to its first two. seek_first, seek_found, seek_finds: a search gives the lowest number that passes. has_count, count_has, place_count, place_of: what stands in a list, and where. part_length, take_replicate, drop_head, first_two: parts of a list. replicate_at: one thing again and again.
-- Assumes nothing.
use mathlib.Core.Path.{subst, sym, ap, ◌≡◌, refl, ◌∙◌}
use mathlib.Core.Logic.{⊎_elim, ◌≢◌}
use mathlib.Core.Bool.{Bool, not}
use mathlib.Core.List.{List, [], ◌∷◌, map, ◌++◌}
use Prim.Native.Nat.{ℕ, ◌≤◌, ◌+◌, ◌<◌, zero, suc}
use native.Mathlib.Nat.{not-suc-le-zero, suc-ne-zero, add-zero}
use native.Mathlib.Decide.{dec_lt}
use native.Mathlib.Omega.{arith}
use lib.Dec.{T, not_T, T_not, eqb, eqb→eq, eqb_refl}
use lib.ListN.{length, get_or, take, replicate, set, drop}
use lib.Seq.{length-take-le, get_or-drop, drop-drop}
use Rattle.rules.specs.Lists.{from, any, all, keep, seek, has}
use Rattle.laws.proofs.Tests.{cond_cases, T_is, and_T, T_and, or_T, T_or₁, T_or₂, not_either}
use Rattle.laws.proofs.Counts.{is, is_self, is_not, is_cases, is_apart, count}

-- ---- tests over numbers

pub any_T : (f : ℕ → Bool) (l : List ℕ) → T (any f l) → (d : ℕ) × (1 ≤ count d l) × T (f d)
unfolding any count
any_T f [] t = absurd t
any_T f (x ∷ l) t =
    ⊎_elim (λ k. (x, omega (arith, is_self x), k)) (λ k. let r = any_T f l k in (r.0, omega (arith, r.1), r.2)) (or_T (f x) (any f l) t)

pub T_any : (f : ℕ → Bool) (l : List ℕ) (d : ℕ) → 1 ≤ count d l → T (f d) → T (any f l)
unfolding any count
T_any f [] d h t = absurd (not-suc-le-zero h)
T_any f (x ∷ l) d h t =
    ⊎_elim (λ e. T_or₁ (f x) (any f l) (subst (λ (z : ℕ). T (f z)) e t)) (λ n. T_or₂ (f x) (any f l) (T_any f l d (omega arith) t)) (is_cases d x)

pub not_any : (f : ℕ → Bool) (l : List ℕ) (d : ℕ) → T (not (any f l)) → 1 ≤ count d l → T (not (f d))
not_any f l d t h = not_T (f d) (λ k. T_not (any f l) t (T_any f l d h k))

pub T_all : (f : ℕ → Bool) (l : List ℕ) → ((d : ℕ) → 1 ≤ count d l → T (f d)) → T (all f l)
unfolding all count
T_all f [] h = tt
T_all f (x ∷ l) h = T_and (f x) (all f l) (h x (omega (arith, is_self x))) (T_all f l (λ d k. h d (omega arith)))

pub all_T : (f : ℕ → Bool) (l : List ℕ) (d : ℕ) → T (all f l) → 1 ≤ count d l → T (f d)
unfolding all count
all_T f [] d t h = absurd (not-suc-le-zero h)
all_T f (x ∷ l) d t h =
    let a = and_T (f x) (all f l) t in
    ⊎_elim (λ e. subst (λ (z : ℕ). T (f z)) (sym e) a.0) (λ n. all_T f l d a.1 (omega arith)) (is_cases d x)

pub not_all : (f : ℕ → Bool) (l : List ℕ) → T (not (all f l)) → (d : ℕ) × (1 ≤ count d l) × T (not (f d))
unfolding all count
not_all f [] t = absurd t
not_all f (x ∷ l) t =
    ⊎_elim (λ k. (x, omega (arith, is_self x), k)) (λ k. let r = not_all f l k in (r.0, omega (arith, r.1), r.2)) (not_either (f x) (all f l) t)

pub keep_le : (f : ℕ → Bool) (l : List ℕ) (p : ℕ) → count p (keep f l) ≤ count p l
unfolding keep count
keep_le f [] p = omega arith
keep_le f (x ∷ l) p = cond_cases (λ (m : List ℕ). count p m ≤ is p x + count p l) (f x) (λ t. omega (arith, keep_le f l p)) (λ t. omega (arith, keep_le f l p))

pub keep_T : (f : ℕ → Bool) (l : List ℕ) (p : ℕ) → 1 ≤ count p (keep f l) → T (f p)
unfolding keep count
keep_T f [] p h = absurd (not-suc-le-zero h)
keep_T f (x ∷ l) p h =
    cond_cases (λ (m : List ℕ). 1 ≤ count p m → T (f p)) (f x)
    (λ t k. ⊎_elim (λ e. subst (λ (z : ℕ). T (f z)) (sym e) t) (λ n. keep_T f l p (omega arith)) (is_cases p x)) (λ t k. keep_T f l p k) h

pub T_keep : (f : ℕ → Bool) (l : List ℕ) (p : ℕ) → 1 ≤ count p l → T (f p) → 1 ≤ count p (keep f l)
unfolding keep count
T_keep f [] p h t = absurd (not-suc-le-zero h)
T_keep f (x ∷ l) p h t =
    ⊎_elim (λ e. rw (T_is (f x) (subst (λ (z : ℕ). T (f z)) e t)) (omega (arith, is_self p, ap (is p) e)))
    (λ n. cond_cases (λ (m : List ℕ). 1 ≤ count p m) (f x) (λ s. omega (arith, T_keep f l p (omega arith) t)) (λ s. T_keep f l p (omega arith) t))
    (is_cases p x)

-- ---- numbers in a row

pub count_from : (d i n : ℕ) → i ≤ d → d < i + n → 1 ≤ count d (from i n)
unfolding count from
count_from d i zero h k = absurd (not-suc-le-zero {n = 0} (omega arith))
count_from d i (suc n) h k =
    ⊎_elim (λ e. omega (arith, is_self d, ap (is d) (sym e)))
    (λ m.
    let ne : d ≢ i = (λ e. omega (arith, is_self d, ap (is d) e)) in
    omega (arith, count_from d (suc i) n (omega arith) (omega arith)))
    (is_cases d i)

pub from_lt : (d i n : ℕ) → 1 ≤ count d (from i n) → d < i + n
unfolding count from
from_lt d i zero h = absurd (not-suc-le-zero h)
from_lt d i (suc n) h = ⊎_elim (λ e. omega arith) (λ m. omega (arith, from_lt d (suc i) n (omega arith))) (is_cases d i)

pub from_below : (d i n : ℕ) → d < i → count d (from i n) ≡ 0
unfolding count from
from_below d i zero h = refl
from_below d i (suc n) h = omega (arith, is_not d i (λ e. omega arith), from_below d (suc i) n (omega arith))

pub from_once : (d i n : ℕ) → count d (from i n) ≤ 1
unfolding count from
from_once d i zero = omega arith
from_once d i (suc n) =
    ⊎_elim (λ e. omega (arith, is_self d, ap (is d) e, from_below d (suc i) n (omega arith))) (λ m. omega (arith, from_once d (suc i) n)) (is_cases d i)

-- ---- two of a list

-- two in a list that holds none twice: so are its first two
pub two : (l : List ℕ) → ((z : ℕ) → count z l ≤ 1) → (p q : ℕ) → p ≢ q → 1 ≤ count p l → 1 ≤ count q l
    → (2 ≤ length l) × (get_or l 0 0 ≢ get_or l 1 0) × (1 ≤ count (get_or l 0 0) l) × (1 ≤ count (get_or l 1 0) l)
unfolding count
two [] u p q ne hp hq = absurd (not-suc-le-zero hp)
two (a ∷ []) u p q ne hp hq =
    absurd (⊎_elim (λ e. ⊎_elim (λ f. ne (e ∙ sym f)) (λ n. not-suc-le-zero {n = 0} (omega arith)) (is_cases q a)) (λ n. not-suc-le-zero {n = 0} (omega arith)) (is_cases p a))
two (a ∷ b ∷ l) u p q ne hp hq =
    (omega arith, (λ e. omega (arith, u a, is_self a, ap (is a) e)), omega (arith, is_self a), omega (arith, is_self b))

-- ---- what holds of every element

abbrev pub All : {A : Type 0} → (A → Type 0) → List A → Type 0
All P [] = Unit {0}
All P (c ∷ cs) = P c × All P cs

-- where it holds of every number that stands in the list
pub all_of : (P : ℕ → Type 0) (l : List ℕ) → ((z : ℕ) → 1 ≤ count z l → P z) → All P l
unfolding count
all_of P [] h = tt
all_of P (d ∷ l) h = (h d (omega (arith, is_self d)), all_of P l (λ z k. h z (omega arith)))

pub all_map : {A B : Type 0} (P : A → Type 0) (Q : B → Type 0) (f : A → B) → ((a : A) → P a → Q (f a)) → (l : List A) → All P l → All Q (map f l)
all_map P Q f h [] a = tt
all_map P Q f h (x ∷ l) a = (h x a.0, all_map P Q f h l a.1)

pub all_snoc : {A : Type 0} (P : A → Type 0) (l : List A) (m : A) → All P l → P m → All P (l ++ (m ∷ []))
all_snoc P [] m a n = (n, tt)
all_snoc P (x ∷ l) m a n = (a.0, all_snoc P l m a.1 n)

pub all_weaken : {A : Type 0} (P Q : A → Type 0) → ((a : A) → P a → Q a) → (l : List A) → All P l → All Q l
all_weaken P Q h [] a = tt
all_weaken P Q h (x ∷ l) a = (h x a.0, all_weaken P Q h l a.1)

pub all_append : {A : Type 0} (P : A → Type 0) (l m : List A) → All P l → All P m → All P (l ++ m)
all_append P [] m a b = b
all_append P (x ∷ l) m a b = (a.0, all_append P l m a.1 b)

pub keep_all : {A : Type 0} (P : A → Type 0) (f : A → Bool) (l : List A) → All P l → All P (keep f l)
unfolding keep
keep_all P f [] a = tt
keep_all P f (x ∷ l) a = cond_cases (All P) (f x) (λ t. (a.0, keep_all P f l a.1)) (λ t. keep_all P f l a.1)

-- where nothing is kept, nothing passes
pub keep_none : {A : Type 0} (f : A → Bool) (l : List A) → length (keep f l) ≡ 0 → All (λ x. T (not (f x))) l
unfolding keep
keep_none {A} f [] e = tt
keep_none {A} f (x ∷ l) e =
    cond_cases (λ (m : List A). length m ≡ 0 → All (λ x. T (not (f x))) (x ∷ l)) (f x)
    (λ t h. absurd (suc-ne-zero (length (keep f l)) h)) (λ t h. (t, keep_none f l h)) e

pub any_append₁ : {A : Type 0} (f : A → Bool) (l m : List A) → T (any f l) → T (any f (l ++ m))
unfolding any
any_append₁ f [] m t = absurd t
any_append₁ f (x ∷ l) m t = ⊎_elim (T_or₁ (f x) (any f (l ++ m))) (λ k. T_or₂ (f x) (any f (l ++ m)) (any_append₁ f l m k)) (or_T (f x) (any f l) t)

pub any_append₂ : {A : Type 0} (f : A → Bool) (l m : List A) → T (any f m) → T (any f (l ++ m))
unfolding any
any_append₂ f [] m t = t
any_append₂ f (x ∷ l) m t = T_or₂ (f x) (any f (l ++ m)) (any_append₂ f l m t)

-- where one passes, there is one
pub any_some : {A : Type 0} (f : A → Bool) (l : List A) → T (any f l) → 1 ≤ length l
unfolding any
any_some f [] t = absurd t
any_some f (x ∷ l) t = omega arith

-- ---- a search

pub seek_ge : (f : ℕ → Bool) (i n : ℕ) → i ≤ seek f i n
unfolding seek
seek_ge f i zero = omega arith
seek_ge f i (suc n) = cond_cases (λ (r : ℕ). i ≤ r) (f i) (λ t. omega arith) (λ t. omega (arith, seek_ge f (suc i) n))

-- what stands before it does not pass
pub seek_first : (f : ℕ → Bool) (i n k : ℕ) → i ≤ k → k < seek f i n → T (not (f k))
unfolding seek
seek_first f i zero k a b = absurd (not-suc-le-zero {n = 0} (omega arith))
seek_first f i (suc n) k a h =
    cond_cases (λ (r : ℕ). k < r → T (not (f k))) (f i) (λ t b. absurd (not-suc-le-zero {n = 0} (omega arith)))
    (λ t b.
    ⊎_elim (λ e. subst (λ (j : ℕ). T (not (f j))) (sym e) t)
    (λ m. let ne : k ≢ i = is_apart k i m in seek_first f (suc i) n k (omega arith) b) (is_cases k i))
    h

-- where it finds nothing, nothing passes
pub seek_none : (f : ℕ → Bool) (i n : ℕ) → i + n ≤ seek f i n → (k : ℕ) → i ≤ k → k < i + n → T (not (f k))
seek_none f i n h k a b = seek_first f i n k a (omega arith)

-- where it finds one, that one passes
pub seek_found : (f : ℕ → Bool) (i n : ℕ) → seek f i n < i + n → T (f (seek f i n))
unfolding seek
seek_found f i zero h = absurd (not-suc-le-zero {n = 0} (omega arith))
seek_found f i (suc n) h =
    cond_cases (λ (r : ℕ). r < i + suc n → T (f r)) (f i) (λ t k. t) (λ t k. seek_found f (suc i) n (omega arith)) h

-- where one passes, it finds one
pub seek_finds : (f : ℕ → Bool) (i n k : ℕ) → i ≤ k → k < i + n → T (f k) → T (f (seek f i n))
seek_finds f i n k a b t = go (dec_lt (seek f i n) (i + n))
  where
    go : Dec (seek f i n < i + n) → T (f (seek f i n))
    go (yes h) = seek_found f i n h
    go (no h) = absurd (T_not (f k) (seek_none f i n (omega arith) k a b) t)

-- ---- what stands in a list, and where

pub has_count : (l : List ℕ) (d : ℕ) → T (has l d) → 1 ≤ count d l
unfolding has
has_count l d h = let r = any_T (eqb d) l h in subst (λ (z : ℕ). 1 ≤ count z l) (sym (eqb→eq d r.0 r.2)) r.1

pub count_has : (l : List ℕ) (d : ℕ) → 1 ≤ count d l → T (has l d)
unfolding has
count_has l d h = T_any (eqb d) l d h (eqb_refl d)

pub place_count : (l : List ℕ) (i : ℕ) → i < length l → 1 ≤ count (get_or l i 0) l
unfolding count
place_count [] i h = absurd (not-suc-le-zero h)
place_count (x ∷ l) zero h = omega (arith, is_self x)
place_count (x ∷ l) (suc i) h = omega (arith, place_count l i (omega arith))

pub place_of : (l : List ℕ) (z : ℕ) → 1 ≤ count z l → (i : ℕ) × (i < length l) × (get_or l i 0 ≡ z)
unfolding count
place_of [] z h = absurd (not-suc-le-zero h)
place_of (x ∷ l) z h =
    ⊎_elim (λ e. (0, omega arith, sym e)) (λ m. let r = place_of l z (omega arith) in (suc r.0, omega (arith, r.1), r.2)) (is_cases z x)

pub length_from : (i n : ℕ) → length (from i n) ≡ n
unfolding from
length_from i zero = refl
length_from i (suc n) = ap suc (length_from (suc i) n)

-- ---- the first part of a list

pub part_length : {A : Type 0} (n m : ℕ) (l : List A) → m ≡ length l → n ≤ m → n ≡ length (take n l)
part_length n m l e h = sym (length-take-le n l (omega arith))

pub take_replicate : {A : Type 0} (n m : ℕ) (a : A) → n ≤ m → take n (replicate m a) ≡ replicate n a
take_replicate zero m a h = refl
take_replicate (suc n) zero a h = absurd (not-suc-le-zero h)
take_replicate {A} (suc n) (suc m) a h = ap (λ (l : List A). a ∷ l) (take_replicate n m a (omega arith))

pub drop_head : (l : List ℕ) (k x : ℕ) (r : List ℕ) → drop k l ≡ x ∷ r → (get_or l k 0 ≡ x) × (drop (k + 1) l ≡ r)
drop_head l k x r e = (
  ap (λ (i : ℕ). get_or l i 0) (sym (add-zero k)) ∙ sym (get_or-drop k l 0 0) ∙ ap (λ (m : List ℕ). get_or m 0 0) e,
  sym (drop-drop 1 k l) ∙ ap (drop 1) e,
)

pub first_two : (l : List ℕ) (a b : ℕ) → 2 ≤ length l → take 2 (set (set l 0 a) 1 b) ≡ a ∷ b ∷ []
first_two [] a b h = absurd (not-suc-le-zero h)
first_two (x ∷ []) a b h = absurd (not-suc-le-zero {n = 0} (omega arith))
first_two (x ∷ y ∷ l) a b h = refl

pub replicate_at : {A : Type 0} (n i : ℕ) (a : A) → get_or (replicate n a) i a ≡ a
replicate_at zero i a = refl
replicate_at (suc n) zero a = refl
replicate_at (suc n) (suc i) a = replicate_at n i a
