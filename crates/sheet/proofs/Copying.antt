-- The turns of a file, copied (the loop of `copy_turns`).
-- get_or_numbers: a number of a file by its index. numbers_more: one number more. turn_more: two bytes more of a file are one turn more.
-- Assumes nothing.
use mathlib.Core.Path.{◌≡◌, sym, ap, ◌∙◌}
use mathlib.Core.List.{List, [], ◌∷◌, ◌++◌}
use Prim.Native.Nat.{ℕ, zero, suc, ◌+◌, ◌*◌, ◌<◌}
use native.Mathlib.Nat.{not-suc-le-zero}
use native.Mathlib.Numerals.{add-one}
use native.Mathlib.Omega.{arith}
use lib.ListN.{length, get_or, take, set}
use Rattle.std.proofs.lemmas.List.{take_more_set}
use Rattle.rules.specs.Lists.{number, numbers}
use Rattle.plate.proofs.Laws.{number_two}

-- where the number behind the first k + 1 stands
next_at : (w i k : ℕ) → i + w + w * k ≡ i + w * suc k
next_at w i k = grind arith

pub get_or_numbers : (w n i : ℕ) (b : List ℕ) (k : ℕ) → k < n → get_or (numbers w n i b) k 0 ≡ number w (i + w * k) b
unfolding numbers
get_or_numbers w zero i b k h = absurd (not-suc-le-zero h)
get_or_numbers w (suc n) i b zero h = let e : i ≡ i + w * 0 = omega arith in ap (λ (j : ℕ). number w j b) e
get_or_numbers w (suc n) i b (suc k) h = get_or_numbers w n (i + w) b k (omega arith) ∙ ap (λ (j : ℕ). number w j b) (next_at w i k)

numbers_more : (w n i : ℕ) (b : List ℕ) → numbers w (suc n) i b ≡ numbers w n i b ++ number w (i + w * n) b ∷ []
unfolding numbers
numbers_more w zero i b = let e : i ≡ i + w * 0 = omega arith in ap (λ (j : ℕ). number w j b ∷ []) e
numbers_more w (suc n) i b =
    ap (λ (l : List ℕ). number w i b ∷ l) (numbers_more w n (i + w) b ∙ ap (λ (j : ℕ). numbers w n (i + w) b ++ number w j b ∷ []) (next_at w i n))

pub turn_more : (b turns : List ℕ) (start i x : ℕ) → i < length turns → take i turns ≡ numbers 2 i start b → x ≡ get_or b (start + 2 * i) 0 + get_or b (start + 2 * i + 1) 0 * 256
    → take (i + 1) (set turns i x) ≡ numbers 2 (i + 1) start b
turn_more b turns start i x h e p =
    let n : x ≡ number 2 (start + 2 * i) b = omega (arith, number_two (start + 2 * i) b) in
    take_more_set turns i x h ∙ rw (e, n, add-one) (sym (numbers_more 2 i start b))
