-- How often a number stands in a list: membership, distinctness and permutation are said by counts.
--   flag b          1 where b is true, else 0
--   is x y          1 where x is y, else 0
--   count x l       how often x stands in l: it stands there where 1 ≤ count x l, and not where the count is 0
--   Distinct l      no number stands in l twice
--   sum n l         how often numbers below n stand in l
-- count_append, count_map: the counts of lists put together and mapped. distinct_of, distinct_le: distinct is counted at most once. pigeon: distinct numbers below n are at most n. length_le, length_same, filled_up: lengths by counts.
-- Assumes nothing.
use mathlib.Core.Path.{◌≡◌, refl, ap, sym, ◌∙◌}
use mathlib.Core.Logic.{◌≢◌, ◌⊎◌, inl, inr, ⊎_elim}
use mathlib.Core.Bool.{Bool, true, false}
use mathlib.Core.List.{List, [], ◌∷◌, ◌++◌, map}
use Prim.Native.Nat.{ℕ, ◌≤◌, ◌+◌, zero, suc, ◌<◌}
use native.Mathlib.Nat.{not-suc-le-zero, eq-zero-or-pos}
use native.Mathlib.Decide.{ℕ_discrete}
use native.Mathlib.Omega.{arith}
use lib.Dec.{T, eqb, eqb_refl, eqb→eq}
use lib.ListN.{length}

-- ---- flags

abbrev pub flag : Bool → ℕ
flag true = 1
flag false = 0

pub flag_T : (b : Bool) → T b → flag b ≡ 1
flag_T true t = refl
flag_T false t = absurd t

pub flag_F : (b : Bool) → (T b → ⊥) → flag b ≡ 0
flag_F true f = absurd (f tt)
flag_F false f = refl

pub T_flag : (b : Bool) → 1 ≤ flag b → T b
T_flag true h = tt
T_flag false h = absurd (not-suc-le-zero h)

pub flag_le : (b : Bool) → flag b ≤ 1
flag_le true = omega arith
flag_le false = omega arith

pub flag_inj : (b c : Bool) → flag b ≡ flag c → b ≡ c
flag_inj true true e = refl
flag_inj false false e = refl
flag_inj true false e = absurd (not-suc-le-zero {n = 0} (omega arith))
flag_inj false true e = absurd (not-suc-le-zero {n = 0} (omega arith))

-- ---- one number against another

unfoldable pub is : ℕ → ℕ → ℕ
is x y = flag (eqb x y)

pub is_self : (x : ℕ) → is x x ≡ 1
unfolding is
is_self x = flag_T (eqb x x) (eqb_refl x)

pub is_not : (x y : ℕ) → x ≢ y → is x y ≡ 0
unfolding is
is_not x y h = flag_F (eqb x y) (λ t. h (eqb→eq x y t))

pub is_cases : (x y : ℕ) → (x ≡ y) ⊎ (is x y ≡ 0)
is_cases x y = go (ℕ_discrete x y)
  where
    go : Dec (x ≡ y) → (x ≡ y) ⊎ (is x y ≡ 0)
    go (yes e) = inl e
    go (no h) = inr (is_not x y h)

pub is_apart : (p c : ℕ) → is p c ≡ 0 → p ≢ c
is_apart p c n e = omega (arith, is_self p, ap (is p) e)

pub is_le : (x y : ℕ) → is x y ≤ 1
unfolding is
is_le x y = flag_le (eqb x y)

-- ---- counts

unfoldable pub count : ℕ → List ℕ → ℕ
unfolding is
count x [] = 0
count x (y ∷ l) = is x y + count x l

pub count_head : (x : ℕ) (l : List ℕ) → 1 ≤ count x (x ∷ l)
unfolding count
count_head x l = omega (arith, is_self x)

pub count_append : (x : ℕ) (l m : List ℕ) → count x (l ++ m) ≡ count x l + count x m
unfolding count
count_append x [] m = omega arith
count_append x (y ∷ l) m = omega (arith, count_append x l m)

-- x does not stand in a list that begins with y: it is not y
pub absent_head : (x y : ℕ) (l : List ℕ) → count x (y ∷ l) ≡ 0 → x ≢ y
unfolding count
absent_head x y l h e = omega (arith, is_self x, ap (λ (z : ℕ). is x z) e)

-- nor in the rest
pub absent_rest : (x y : ℕ) (l : List ℕ) → count x (y ∷ l) ≡ 0 → count x l ≡ 0
unfolding count
absent_rest x y l h = omega arith

pub zero_of : (n : ℕ) → (1 ≤ n → ⊥) → n ≡ 0
zero_of n h = omega arith

-- what f makes of z stands in f's list at least as often
pub count_map : (f : ℕ → ℕ) (z : ℕ) (q : List ℕ) → count z q ≤ count (f z) (map f q)
unfolding count
count_map f z [] = omega arith
count_map f z (d ∷ q) =
    ⊎_elim (λ e. omega (arith, count_map f z q, ap (is z) (sym e), is_self z, ap (λ (w : ℕ). is (f z) (f w)) (sym e), is_self (f z)))
    (λ n. omega (arith, count_map f z q)) (is_cases z d)

-- what stands in f's list is what f makes of something
pub map_from : (f : ℕ → ℕ) (l : List ℕ) (p : ℕ) → 1 ≤ count p (map f l) → (z : ℕ) × (1 ≤ count z l) × (f z ≡ p)
unfolding count
map_from f [] p h = absurd (not-suc-le-zero h)
map_from f (x ∷ l) p h = ⊎_elim (λ e. (x, omega (arith, is_self x), sym e)) (λ n. let r = map_from f l p (omega arith) in (r.0, omega (arith, r.1), r.2)) (is_cases p (f x))

-- ---- no number twice

abbrev pub Distinct : List ℕ → Type 0
Distinct [] = Unit {0}
Distinct (d ∷ l) = (count d l ≡ 0) × Distinct l

pub distinct_of : (l : List ℕ) → ((z : ℕ) → count z l ≤ 1) → Distinct l
unfolding count
distinct_of [] h = tt
distinct_of (d ∷ l) h = (omega (arith, h d, is_self d), distinct_of l (λ z. omega (arith, h z)))

pub distinct_le : (l : List ℕ) → Distinct l → (z : ℕ) → count z l ≤ 1
unfolding count
distinct_le [] u z = omega arith
distinct_le (x ∷ l) u z = ⊎_elim (λ e. omega (arith, is_self z, ap (is z) (sym e), u.0, ap (λ (w : ℕ). count w l) e)) (λ n. omega (arith, distinct_le l u.1 z)) (is_cases z x)

-- ---- a list of numbers below n that holds none twice has at most n

unfoldable pub sum : ℕ → List ℕ → ℕ
sum zero l = 0
sum (suc n) l = count n l + sum n l

sum_one : (n x : ℕ) (l : List ℕ) → x < n → sum n (x ∷ l) ≡ suc (sum n l)
unfolding sum count
sum_one zero x l h = absurd (not-suc-le-zero h)
sum_one (suc n) x l h =
    ⊎_elim (λ e. omega (arith, is_self n, ap (is n) e, sum_none n x l (omega arith)))
    (λ m. let ne : n ≢ x = (λ e. omega (arith, is_self n, ap (is n) e)) in omega (arith, sum_one n x l (omega arith)))
    (is_cases n x)
  where
    sum_none : (k y : ℕ) (m : List ℕ) → k ≤ y → sum k (y ∷ m) ≡ sum k m
    sum_none zero y m b = refl
    sum_none (suc k) y m b = omega (arith, sum_none k y m (omega arith), is_not k y (λ e. omega arith))

pub length_sum : (n : ℕ) (l : List ℕ) → ((z : ℕ) → 1 ≤ count z l → z < n) → length l ≡ sum n l
unfolding count sum
length_sum n [] h = sym (none n)
  where
    none : (k : ℕ) → sum k [] ≡ 0
    none zero = refl
    none (suc k) = omega (arith, none k)
length_sum n (x ∷ l) h = ap suc (length_sum n l (λ z k. h z (omega arith))) ∙ sym (sum_one n x l (h x (omega (arith, is_self x))))

sum_le : (n : ℕ) (l : List ℕ) → ((z : ℕ) → count z l ≤ 1) → sum n l ≤ n
unfolding sum
sum_le zero l h = omega arith
sum_le (suc n) l h = omega (arith, sum_le n l h, h n)

pub pigeon : (n : ℕ) (l : List ℕ) → ((z : ℕ) → 1 ≤ count z l → z < n) → ((z : ℕ) → count z l ≤ 1) → length l ≤ n
pigeon n l h u = omega (arith, length_sum n l h, sum_le n l u)

-- ---- lengths
pub sum_less : (n : ℕ) (l m : List ℕ) → ((z : ℕ) → count z l ≤ count z m) → sum n l ≤ sum n m
unfolding sum
sum_less zero l m h = omega arith
sum_less (suc n) l m h = omega (arith, sum_less n l m h, h n)

-- no number stands in l oftener than in m: l is not longer
pub length_le : (n : ℕ) (l m : List ℕ) → ((z : ℕ) → 1 ≤ count z m → z < n) → ((z : ℕ) → count z l ≤ count z m) → length l ≤ length m
length_le n l m b h = omega (arith, length_sum n l (λ z k. b z (omega (arith, h z))), length_sum n m b, sum_less n l m h)

pub length_same : (n : ℕ) (l m : List ℕ) → ((z : ℕ) → 1 ≤ count z m → z < n) → ((z : ℕ) → count z l ≡ count z m) → length l ≡ length m
length_same n l m b h =
    omega (arith, length_le n l m b (λ z. omega (arith, h z)), length_le n m l (λ z k. b z (omega (arith, h z))) (λ z. omega (arith, h z)))

squeeze : (n : ℕ) (l m : List ℕ) → ((z : ℕ) → count z l ≤ count z m) → sum n m ≤ sum n l → (z : ℕ) → z < n → count z m ≤ count z l
unfolding sum
squeeze zero l m h e z b = absurd (not-suc-le-zero b)
squeeze (suc n) l m h e z b =
    ⊎_elim (λ q. rw q (omega (arith, sum_less n l m h)))
    (λ k. let ne : z ≢ n = (λ q. omega (arith, is_self z, ap (is z) q)) in squeeze n l m h (omega (arith, h n)) z (omega arith)) (is_cases z n)

-- no number stands in l oftener than in m, and l is as long: each stands there as often
pub filled_up : (n : ℕ) (l m : List ℕ) → ((z : ℕ) → 1 ≤ count z m → z < n) → ((z : ℕ) → count z l ≤ count z m) → length m ≤ length l → (z : ℕ) → count z m ≤ count z l
filled_up n l m b h e z =
    ⊎_elim (λ k. omega arith)
    (λ k. squeeze n l m h (omega (arith, length_sum n m b, length_sum n l (λ y i. b y (omega (arith, h y))))) z (b z k)) (eq-zero-or-pos (count z m))
