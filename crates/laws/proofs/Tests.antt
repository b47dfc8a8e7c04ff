-- Tests: a Boolean is true where T holds of it.
-- cond_cases proves a thing of `cond b x y` by the two cases of b, and stands for every case split on a test. The others take a test apart
-- (and_T, or_T, not_and, not_either, not_or, not_not) and put it together (T_and, T_or₁, T_or₂), or turn it into an equation (T_is, T_isnt, eq_eqb, eqb_yes, eqb_no, neqb_ne, ne_neqb, same_flag, or_false, and_true, or_neither).
-- Assumes nothing.
use mathlib.Core.Path.{◌≡◌, refl, subst, sym}
use mathlib.Core.Logic.{◌≢◌, ◌⊎◌, inl, inr}
use mathlib.Core.Bool.{Bool, not, cond, true, false, ◌&&◌, ◌||◌}
use Prim.Native.Nat.{ℕ}
use lib.Dec.{T, eqb, eqb_refl, eqb→eq, T_not, not_T}

-- by the two cases of a test
pub cond_cases : {A : Type 0} (P : A → Type 0) (b : Bool) {x y : A} → (T b → P x) → (T (not b) → P y) → P (cond b x y)
cond_cases P true f g = f tt
cond_cases P false f g = g tt

-- ---- a test as an equation

pub T_is : (b : Bool) → T b → b ≡ true
T_is true t = refl
T_is false t = absurd t

pub T_isnt : (b : Bool) → (T b → ⊥) → b ≡ false
T_isnt true f = absurd (f tt)
T_isnt false f = refl

pub eq_eqb : (x y : ℕ) → x ≡ y → T (eqb x y)
eq_eqb x y e = subst (λ (z : ℕ). T (eqb x z)) e (eqb_refl x)

pub eqb_yes : (x y : ℕ) → x ≡ y → eqb x y ≡ true
eqb_yes x y e = T_is (eqb x y) (eq_eqb x y e)

pub eqb_no : (x y : ℕ) → x ≢ y → eqb x y ≡ false
eqb_no x y h = T_isnt (eqb x y) (λ t. h (eqb→eq x y t))

pub neqb_ne : (x y : ℕ) → T (not (eqb x y)) → x ≢ y
neqb_ne x y h e = T_not (eqb x y) h (eq_eqb x y e)

pub ne_neqb : (x y : ℕ) → x ≢ y → T (not (eqb x y))
ne_neqb x y h = not_T (eqb x y) (λ t. h (eqb→eq x y t))

-- two flags that imply each other
pub same_flag : (a b : Bool) → (T a → T b) → (T b → T a) → a ≡ b
same_flag true b f g = sym (T_is b (f tt))
same_flag false b f g = sym (T_isnt b g)

-- ---- both, either, neither

pub and_T : (a b : Bool) → T (a && b) → T a × T b
and_T true b t = (tt, t)
and_T false b t = absurd t

pub T_and : (a b : Bool) → T a → T b → T (a && b)
T_and true b s t = t
T_and false b s t = absurd s

pub or_T : (a b : Bool) → T (a || b) → T a ⊎ T b
or_T true b t = inl tt
or_T false b t = inr t

pub T_or₁ : (a b : Bool) → T a → T (a || b)
T_or₁ true b t = tt
T_or₁ false b t = absurd t

pub T_or₂ : (a b : Bool) → T b → T (a || b)
T_or₂ true b t = tt
T_or₂ false b t = t

pub not_and : (a b : Bool) → T (not (a && b)) → T a → T (not b)
not_and true b t s = t
not_and false b t s = absurd s

pub not_either : (a b : Bool) → T (not (a && b)) → T (not a) ⊎ T (not b)
not_either true b t = inr t
not_either false b t = inl tt

pub not_or : (a b : Bool) → T (not (a || b)) → T (not a) × T (not b)
not_or true b t = absurd t
not_or false b t = (tt, t)

pub not_not : (a : Bool) → T (not (not a)) → T a
not_not true t = tt
not_not false t = absurd t

pub or_false : (a : Bool) → (a || false) ≡ a
or_false true = refl
or_false false = refl

pub and_true : (a : Bool) → a && true ≡ a
and_true true = refl
and_true false = refl

pub or_neither : (a b : Bool) → (a || b) ≡ false → (a ≡ false) × (b ≡ false)
or_neither true b e = (e, cc)
or_neither false b e = (refl, e)
