-- Lists of numbers and of flags, as the other files use them.
--   from i n             i, i + 1, .. : n numbers
--   any f l, all f l     some, every element of l passes the test f
--   keep f l             the elements of l that pass
--   has l x              x stands in l
--   seek f i n           the lowest of i, .., i + n − 1 that passes; i + n where none does
--   at s p               the flag of p in s; no flag past the end
--   concat ls            the lists of ls, one after another
--   text s               the bytes of an ASCII text
--   bytes w n            n in w bytes, little-endian
--   number w i b         the number in the w bytes of b from i on, little-endian
--   numbers w n i b      n such numbers, one after another
-- Assumes nothing.
use Rattle.std.specs.Prelude.{Bool, true, false, cond, ◌&&◌, ◌||◌, List, [], ◌∷◌, ◌++◌, ℕ, zero, suc, ◌+◌, ◌*◌, ◌/◌, ◌%◌, eqb, get_or}
use Prim.Native.Char.{code}
use Prim.Native.String.{String}

unfoldable pub from : ℕ → ℕ → List ℕ
from i zero = []
from i (suc n) = i ∷ from (suc i) n

unfoldable pub any : {A : Type 0} → (A → Bool) → List A → Bool
any f [] = false
any f (x ∷ xs) = f x || any f xs

unfoldable pub all : {A : Type 0} → (A → Bool) → List A → Bool
all f [] = true
all f (x ∷ xs) = f x && all f xs

unfoldable pub keep : {A : Type 0} → (A → Bool) → List A → List A
keep f [] = []
keep f (x ∷ xs) = cond (f x) (x ∷ keep f xs) (keep f xs)

unfoldable pub has : List ℕ → ℕ → Bool
has l x = any (eqb x) l

unfoldable pub seek : (ℕ → Bool) → ℕ → ℕ → ℕ
seek f i zero = i
seek f i (suc n) =
    let r = seek f (suc i) n in
    cond (f i) i r

unfoldable pub at : List Bool → ℕ → Bool
at s p = get_or s p false

unfoldable pub concat : {A : Type 0} → List (List A) → List A
concat [] = []
concat (l ∷ ls) = l ++ concat ls

unfoldable pub text : String → List ℕ
text String.[] = []
text (String.◌∷◌ c s) = code c ∷ text s

unfoldable pub bytes : ℕ → ℕ → List ℕ
bytes zero n = []
bytes (suc w) n = n % 256 ∷ bytes w (n / 256)

unfoldable pub number : ℕ → ℕ → List ℕ → ℕ
number zero i b = 0
number (suc w) i b = get_or b i 0 + 256 * number w (suc i) b

unfoldable pub numbers : ℕ → ℕ → ℕ → List ℕ → List ℕ
numbers w zero i b = []
numbers w (suc n) i b = number w i b ∷ numbers w n (i + w) b
