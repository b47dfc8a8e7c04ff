-- Loops over numbers in a row: i, i + 1, .. up to n are i and those from i + 1 on; and a slice of flags that is written place by place.
--   Written f n s i      the flags of s before place i are what f says, s having n places
-- from_cut, from_over, from_whole: one number at a time. written_..: the invariant of each loop that writes flags. map_at: marks that are copied so.
-- Assumes nothing.
use mathlib.Core.Path.{◌≡◌, sym, ap, ◌∙◌}
use mathlib.Core.Logic.{◌≢◌, ⊎_elim}
use mathlib.Core.Bool.{Bool, false}
use mathlib.Core.List.{List, [], ◌∷◌, map}
use Prim.Native.Nat.{ℕ, suc, ◌+◌, ◌-◌, ◌≤◌, ◌<◌}
use native.Mathlib.Nat.{not-suc-le-zero, zero-add, sub-zero}
use native.Mathlib.Omega.{arith}
use lib.ListN.{length, get_or, set, length-set}
use lib.Seq.{get_or-set_same, get_or-set_other, ext_get_or}
use Rattle.rules.specs.Lists.{from, at}
use Rattle.laws.proofs.Counts.{is_cases, is_apart}
use Rattle.laws.proofs.Seeking.{length_map_from, get_or_map_from}

-- ---- numbers in a row

pub from_cut : (k n : ℕ) → k < n → from k (n - k) ≡ k ∷ from (k + 1) (n - (k + 1))
unfolding from
from_cut k n h = ap (from k) fuel ∙ ap (λ (i : ℕ). k ∷ from i (n - (k + 1))) one
  where
    fuel : n - k ≡ suc (n - (k + 1))
    fuel = omega arith

    one : suc k ≡ k + 1
    one = omega arith

pub from_over : (k n : ℕ) → n ≤ k → from k (n - k) ≡ []
unfolding from
from_over k n h = ap (from k) none
  where
    none : n - k ≡ 0
    none = omega arith

pub from_whole : (n : ℕ) → from 0 (n - 0) ≡ from 0 n
from_whole n = ap (from 0) (sub-zero n)

-- ---- flags that are written

pub record Written (f : ℕ → Bool) (n : ℕ) (s : List Bool) (i : ℕ) : Type 0 where
  pub size : length s ≡ n
  pub most : i ≤ n
  pub done : (k : ℕ) → k < i → at s k ≡ f k

pub written_start : (f : ℕ → Bool) (n : ℕ) (s : List Bool) → length s ≡ n → Written f n s 0
written_start f n s e = record { size = e; most = omega arith; done = λ k h. absurd (not-suc-le-zero h) }

pub written_step : (f : ℕ → Bool) (n : ℕ) (s : List Bool) (i : ℕ) (x : Bool) → Written f n s i → i < n → x ≡ f i → Written f n (set s i x) (i + 1)
unfolding at
written_step f n s i x w h e = record {
  size = length-set s i x ∙ w.size;
  most = omega arith;
  done = λ k b.
      ⊎_elim (λ q. ap (λ (j : ℕ). get_or (set s i x) j false) q ∙ get_or-set_same s i x false (omega (arith, w.size)) ∙ e ∙ ap f (sym q))
      (λ m. let ne : k ≢ i = is_apart k i m in get_or-set_other s i k x false ne ∙ w.done k (omega arith)) (is_cases k i);
}

pub written_end : (f : ℕ → Bool) (n : ℕ) (s : List Bool) (i : ℕ) → Written f n s i → n ≤ i → s ≡ map f (from 0 n)
unfolding at
written_end f n s i w h =
    ext_get_or false s (map f (from 0 n)) (w.size ∙ sym (length_map_from f 0 n))
    (λ k b. w.done k (omega (arith, w.size)) ∙ ap f (sym (zero-add k)) ∙ sym (get_or_map_from f 0 n k false (omega (arith, w.size))))

pub map_at : (s : List Bool) → map (at s) (from 0 (length s)) ≡ s
unfolding at
map_at s =
    ext_get_or false (map (at s) (from 0 (length s))) s (length_map_from (at s) 0 (length s))
    (λ k b. get_or_map_from (at s) 0 (length s) k false (omega (arith, length_map_from (at s) 0 (length s))) ∙ ap (at s) (zero-add k))
