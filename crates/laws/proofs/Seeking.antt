-- A search, and a list of what a function makes of i, i + 1, ..: one place at a time.
--   Searched f n p      the loop of a search: the search below n finds from p on what it finds from 0 on
-- seek_here, seek_on, seek_over: a search stops where the test passes, goes on where it fails, and is over at the end. get_or_map_from: what stands at a place of such a list.
-- start, step, found, none: the loop's invariant at the beginning, after one place, and what it comes to.
-- Assumes nothing.
use mathlib.Core.Path.{◌≡◌, sym, ap, ◌∙◌, subst}
use mathlib.Core.Bool.{Bool, true, false}
use mathlib.Core.List.{map}
use Prim.Native.Nat.{ℕ, zero, suc, ◌+◌, ◌-◌, ◌≤◌, ◌<◌}
use native.Mathlib.Nat.{not-suc-le-zero, add-zero}
use native.Mathlib.Numerals.{add-one}
use native.Mathlib.Omega.{arith}
use lib.ListN.{length, get_or, length-map}
use Rattle.rules.specs.Lists.{from, seek}
use Rattle.laws.proofs.Lists.{length_from}

-- ---- a search

module _ (f : ℕ → Bool) (i n : ℕ) where
  pub seek_here : f i ≡ true → i < n → seek f i (n - i) ≡ i
  unfolding seek
  seek_here t h = ap (seek f i) fuel ∙ rw t
    where
      fuel : n - i ≡ suc (n - suc i)
      fuel = omega arith

  pub seek_on : f i ≡ false → i < n → seek f i (n - i) ≡ seek f (suc i) (n - suc i)
  unfolding seek
  seek_on t h = ap (seek f i) fuel ∙ rw t
    where
      fuel : n - i ≡ suc (n - suc i)
      fuel = omega arith

  pub seek_over : n ≤ i → seek f i (n - i) ≡ i
  unfolding seek
  seek_over h = ap (seek f i) none
    where
      none : n - i ≡ 0
      none = omega arith

-- ---- a list of what f makes of i, i + 1, ..

pub length_map_from : {A : Type 0} (f : ℕ → A) (i n : ℕ) → length (map f (from i n)) ≡ n
length_map_from f i n = length-map (from i n) f ∙ length_from i n

pub get_or_map_from : {A : Type 0} (f : ℕ → A) (i n k : ℕ) (a : A) → k < n → get_or (map f (from i n)) k a ≡ f (i + k)
unfolding from
get_or_map_from f i zero k a h = absurd (not-suc-le-zero h)
get_or_map_from f i (suc n) zero a h = ap f (sym (add-zero i))
get_or_map_from f i (suc n) (suc k) a h = get_or_map_from f (suc i) n k a (omega arith) ∙ ap f (omega arith)

-- ---- the loop of a search: nothing before p passes

pub record Searched (f : ℕ → Bool) (n p : ℕ) : Type 0 where
  pub most : p ≤ n
  pub rest : seek f 0 n ≡ seek f p (n - p)

pub start : (f : ℕ → Bool) (n : ℕ) → Searched f n 0
start f n = record { most = omega arith; rest = ap (seek f 0) (omega arith) }

pub step : (f : ℕ → Bool) (n p : ℕ) → Searched f n p → p < n → f p ≡ false → Searched f n (p + 1)
step f n p s h e =
    subst (Searched f n) (sym (add-one p)) (record { most = omega arith; rest = s.rest ∙ seek_on f p n e h })

pub found : (f : ℕ → Bool) (n p : ℕ) → Searched f n p → p < n → f p ≡ true → p ≡ seek f 0 n
found f n p s h e = sym (s.rest ∙ seek_here f p n e h)

pub none : (f : ℕ → Bool) (n p : ℕ) → Searched f n p → n ≤ p → p ≡ seek f 0 n
none f n p s h = sym (s.rest ∙ seek_over f p n h)
