-- The digits of a number are those of its tenth and one digit more.
-- enough: any fuel above the number gives the same digits. decimal_low, decimal_high: the digits of a number below ten, and of one of ten or more.
-- decimal_few: a number below 100,000 has at most five digits. tenth_cut: the digits of the tenth, and one digit more.
-- Assumes nothing.
use mathlib.Core.Path.{◌≡◌, refl, sym, ap, ◌∙◌}
use mathlib.Core.Bool.{Bool, true, false}
use mathlib.Core.List.{List, [], ◌∷◌, ◌++◌}
use Prim.Native.Nat.{ℕ, zero, suc, ◌+◌, ◌/◌, ◌%◌, ◌<◌, ◌≤◌}
use native.Mathlib.Nat.{not-suc-le-zero}
use native.Mathlib.Omega.{arith}
use borrow.Author.Tests.{lt-ltb, le-ltb}
use lib.Dec.{ltb, ltb→lt, nltb→le}
use lib.ListN.{length, length-append}
use Rattle.rules.specs.Listing.{digits, decimal}
use Rattle.print.proofs.Putting.{Cut}

low : (m n : ℕ) → n < 10 → digits (suc m) n ≡ (48 + n % 10) ∷ []
unfolding digits
low m n h = rw (lt-ltb n 10 h)

high : (m n : ℕ) → 10 ≤ n → digits (suc m) n ≡ digits m (n / 10) ++ ((48 + n % 10) ∷ [])
unfolding digits
high m n h = rw (le-ltb n 10 h)

-- a number is below ten, or it is not
split : (P : Type 0) (n : ℕ) → (n < 10 → P) → (10 ≤ n → P) → P
split P n f g = go (ltb n 10) refl
  where
    go : (b : Bool) → ltb n 10 ≡ b → P
    go true e = f (ltb→lt n 10 (rw e tt))
    go false e = g (nltb→le n 10 (rw e tt))

pub enough : (m k n : ℕ) → n < m → n < k → digits m n ≡ digits k n
enough zero k n h j = absurd (not-suc-le-zero h)
enough (suc m) zero n h j = absurd (not-suc-le-zero j)
enough (suc m) (suc k) n h j =
    split (digits (suc m) n ≡ digits (suc k) n) n (λ l. low m n l ∙ sym (low k n l))
    (λ l. high m n l ∙ ap (λ (d : List ℕ). d ++ ((48 + n % 10) ∷ [])) (enough m k (n / 10) (omega arith) (omega arith)) ∙ sym (high k n l))

pub decimal_low : (n : ℕ) → n < 10 → decimal n ≡ (48 + n % 10) ∷ []
unfolding decimal
decimal_low n h = low n n h

decimal_high : (n : ℕ) → 10 ≤ n → decimal n ≡ decimal (n / 10) ++ ((48 + n % 10) ∷ [])
unfolding decimal
decimal_high n h = high n n h ∙ ap (λ (d : List ℕ). d ++ ((48 + n % 10) ∷ [])) (enough n (suc (n / 10)) (n / 10) (omega arith) (omega arith))

-- ---- how many digits

one_more : (n : ℕ) → 10 ≤ n → length (decimal n) ≡ length (decimal (n / 10)) + 1
one_more n h = ap length (decimal_high n h) ∙ length-append (decimal (n / 10)) ((48 + n % 10) ∷ [])

-- a number below ten times as much has at most a digit more
ten : (m k : ℕ) → ((n : ℕ) → n < m → length (decimal n) ≤ suc k) → (n : ℕ) → n / 10 < m → length (decimal n) ≤ suc (suc k)
ten m k f n h = split (length (decimal n) ≤ suc (suc k)) n (λ l. omega (arith, ap length (decimal_low n l))) (λ l. omega (arith, one_more n l, f (n / 10) h))

pub decimal_few : (n : ℕ) → n < 100000 → length (decimal n) ≤ 5
decimal_few n h = ten 10000 3 (λ n h. ten 1000 2 (λ n h. ten 100 1 (λ n h. ten 10 0 (λ n h. omega (arith, ap length (decimal_low n h))) n (omega arith)) n (omega arith)) n (omega arith)) n (omega arith)

-- the digits of the tenth apart
pub tenth_cut : (n : ℕ) → 10 ≤ n → Cut (decimal n) (decimal (n / 10)) ((48 + n % 10) ∷ [])
tenth_cut n h = record { is = decimal_high n h }
