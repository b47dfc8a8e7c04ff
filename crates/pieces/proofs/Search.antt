-- Searches among i, i + 1, .. (rules, "Lists").
-- find_here, find_on, find_over: a search below n stops where the test passes, goes on where it fails, and finds nothing at the end.
-- find_ext: tests that agree find the same. any_find: one passes where the search finds one.
-- Assumes nothing.
use mathlib.Core.Path.{◌≡◌, refl, ap}
use mathlib.Core.Bool.{Bool, true, false, cond, ◌||◌}
use mathlib.Core.List.{List, [], ◌∷◌}
use Prim.Native.Nat.{ℕ, zero, suc, ◌+◌, ◌-◌, ◌≤◌, ◌<◌}
use native.Mathlib.Numerals.{add-one}
use native.Mathlib.Omega.{arith}
use Rattle.std.specs.List.{find}
use Rattle.std.specs.Option.{is_some}
use Rattle.std.specs.declared.option.Option.{Option}
use Rattle.std.specs.declared.option.Option.TheVariants.{Some, None}
use Rattle.rules.specs.Lists.{from, any}

module _ (f : ℕ → Bool) (i n : ℕ) where
  ahead : i < n → from i (n - i) ≡ i ∷ from (suc i) (n - (i + 1))
  unfolding from
  ahead h = ap (from i) more
    where
      more : n - i ≡ suc (n - (i + 1))
      more = omega arith

  pub find_here : f i ≡ true → i < n → find f (from i (n - i)) ≡ Some i
  find_here t h = rw (ahead h, t) refl

  pub find_on : f i ≡ false → i < n → find f (from i (n - i)) ≡ find f (from (i + 1) (n - (i + 1)))
  find_on t h = rw (ahead h, t, add-one) refl

  pub find_over : n ≤ i → find f (from i (n - i)) ≡ None
  unfolding from
  find_over h = let none : n - i ≡ 0 = omega arith in rw none refl

pub find_ext : (f g : ℕ → Bool) (i n : ℕ) → ((k : ℕ) → i ≤ k → k < i + n → f k ≡ g k) → find f (from i n) ≡ find g (from i n)
unfolding from
find_ext f g i zero h = refl
find_ext f g i (suc n) h = rw (h i (omega arith) (omega arith), find_ext f g (suc i) n (λ k a b. h k (omega arith) (omega arith)))

pub any_find : (f : ℕ → Bool) (l : List ℕ) → is_some (find f l) ≡ any f l
unfolding any
any_find f [] = refl
any_find f (x ∷ l) = by_test (f x) (any_find f l)
  where
    by_test : (b : Bool) → is_some (find f l) ≡ any f l → is_some (cond {A = Option ℕ} b (Some x) (find f l)) ≡ (b || any f l)
    by_test true e = refl
    by_test false e = e
