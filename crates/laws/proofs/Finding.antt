-- What `find` and `position` answer where the closure computes a test: the first number of a range, the first place of a slice, that passes.
--   find_from, any_from, all_from       over a range i .. e: the first of i, i + 1, .. below e that passes; whether any, whether all pass
--   find_below, any_below, all_below    the same over 0 .. n
--   seek_find, seek_some, seek_none     the search of a range finds what `find` finds, and its end where that finds nothing
-- Assumes nothing.
use mathlib.Core.Path.{◌≡◌, refl, sym, ap, ◌∙◌}
use mathlib.Core.Bool.{Bool, true, false, cond, ◌&&◌, ◌||◌}
use mathlib.Core.List.{List, [], ◌∷◌}
use Prim.Native.Nat.{ℕ, zero, suc, ◌+◌, ◌-◌, ◌<◌}
use native.Mathlib.Numerals.{add-one}
use native.Mathlib.Omega.{arith}
use denote.Param.Members.{Mut}
use denote.Ref.{Bor}
use Rattle.std.specs.Bool.{⊤}
use Rattle.std.specs.Fn.{Called, CalledAt}
use Rattle.std.specs.Iterator.{YieldsThen}
use Rattle.std.specs.List.{FoldsTo, find, list_any, list_all, range_with_len}
use Rattle.std.specs.Option.{MatchOption, option_map, unwrap_or}
use Rattle.std.proofs.iter.Yields.{nat_range_steps}
use Rattle.std.proofs.lemmas.Iterator.{YieldsList-from_range}
use Rattle.std.proofs.lemmas.Iterator.Search.{find_from_yields_List, any_from_yields_List, all_from_yields_List}
use Rattle.std.specs.declared.ops.Range.{Range}
use Rattle.std.specs.declared.option.Option.{Option}
use Rattle.std.specs.declared.option.Option.TheVariants.{Some, None}
use Rattle.rules.specs.Lists.{from, seek, any, all}

range_from : (i n : ℕ) → range_with_len i n ≡ from i n
unfolding from
range_from i zero = refl
range_from i (suc n) = ap (◌∷◌ i) (ap (λ k. range_with_len k n) (add-one i) ∙ range_from (suc i) n)

same : (r : Option ℕ) → option_map (λ x. x) r ≡ r
same None = refl
same (Some x) = refl

any_same : (f : ℕ → Bool) (l : List ℕ) → list_any f l ≡ any f l
unfolding any
any_same f [] = refl
any_same f (x ∷ l) = ap (f x ||◌) (any_same f l)

all_same : (f : ℕ → Bool) (l : List ℕ) → list_all f l ≡ all f l
unfolding all
all_same f [] = refl
all_same f (x ∷ l) = ap (f x &&◌) (all_same f l)

pub find_from : {F : Type 0} {g : Mut F (Bor ℕ × Unit {0}) Bool} (test : ℕ → Bool) (i e : ℕ) (u : Range ℕ) (f : F) (r : Option ℕ) → (xs : List ℕ) × (j : F) × YieldsThen nat_range_steps (record { start = i; end = e }) xs r u × FoldsTo (λ p x q. CalledAt g p x false q) f xs j × MatchOption r ⊤ (λ x. (h : F) × CalledAt g j x true h) → ((x : ℕ) (b : Bool) (q : F) → CalledAt g f x b q → (q ≡ f) × (b ≡ test x)) → r ≡ find test (from i (e - i))
find_from test i e u f r ran closure = sym (same r) ∙ find_from_yields_List test u f r ran (YieldsList-from_range i e (e - i) refl refl) closure ∙ ap (find test) (range_from i (e - i))

pub any_from : {F : Type 0} {g : Mut F (ℕ × Unit {0}) Bool} (test : ℕ → Bool) (i e : ℕ) (u : Range ℕ) (f : F) (r : Bool) → (xs : List ℕ) × (o : Option ℕ) × (j : F) × YieldsThen nat_range_steps (record { start = i; end = e }) xs o u × FoldsTo (λ p x q. Called g p (x, tt) false q) f xs j × MatchOption o (r ≡ false) (λ x. (r ≡ true) × ((h : F) × Called g j (x, tt) true h)) → ((x : ℕ) (b : Bool) (q : F) → Called g f (x, tt) b q → (q ≡ f) × (b ≡ test x)) → r ≡ any test (from i (e - i))
any_from test i e u f r ran closure = any_from_yields_List test u f r ran (YieldsList-from_range i e (e - i) refl refl) closure ∙ ap (list_any test) (range_from i (e - i)) ∙ any_same test (from i (e - i))

pub all_from : {F : Type 0} {g : Mut F (ℕ × Unit {0}) Bool} (test : ℕ → Bool) (i e : ℕ) (u : Range ℕ) (f : F) (r : Bool) → (xs : List ℕ) × (o : Option ℕ) × (j : F) × YieldsThen nat_range_steps (record { start = i; end = e }) xs o u × FoldsTo (λ p x q. Called g p (x, tt) true q) f xs j × MatchOption o (r ≡ true) (λ x. (r ≡ false) × ((h : F) × Called g j (x, tt) false h)) → ((x : ℕ) (b : Bool) (q : F) → Called g f (x, tt) b q → (q ≡ f) × (b ≡ test x)) → r ≡ all test (from i (e - i))
all_from test i e u f r ran closure = all_from_yields_List test u f r ran (YieldsList-from_range i e (e - i) refl refl) closure ∙ ap (list_all test) (range_from i (e - i)) ∙ all_same test (from i (e - i))

-- ---- the same over 0 .. n

pub find_below : {F : Type 0} {g : Mut F (Bor ℕ × Unit {0}) Bool} (test : ℕ → Bool) (n : ℕ) (u : Range ℕ) (f : F) (r : Option ℕ) → (xs : List ℕ) × (j : F) × YieldsThen nat_range_steps (record { start = 0; end = n }) xs r u × FoldsTo (λ p x q. CalledAt g p x false q) f xs j × MatchOption r ⊤ (λ x. (h : F) × CalledAt g j x true h) → ((x : ℕ) (b : Bool) (q : F) → CalledAt g f x b q → (q ≡ f) × (b ≡ test x)) → r ≡ find test (from 0 n)
find_below test n u f r ran closure = sym (same r) ∙ find_from_yields_List test u f r ran (YieldsList-from_range 0 n n refl (omega arith)) closure ∙ ap (find test) (range_from 0 n)

pub any_below : {F : Type 0} {g : Mut F (ℕ × Unit {0}) Bool} (test : ℕ → Bool) (n : ℕ) (u : Range ℕ) (f : F) (r : Bool) → (xs : List ℕ) × (o : Option ℕ) × (j : F) × YieldsThen nat_range_steps (record { start = 0; end = n }) xs o u × FoldsTo (λ p x q. Called g p (x, tt) false q) f xs j × MatchOption o (r ≡ false) (λ x. (r ≡ true) × ((h : F) × Called g j (x, tt) true h)) → ((x : ℕ) (b : Bool) (q : F) → Called g f (x, tt) b q → (q ≡ f) × (b ≡ test x)) → r ≡ any test (from 0 n)
any_below test n u f r ran closure = any_from_yields_List test u f r ran (YieldsList-from_range 0 n n refl (omega arith)) closure ∙ ap (list_any test) (range_from 0 n) ∙ any_same test (from 0 n)

pub all_below : {F : Type 0} {g : Mut F (ℕ × Unit {0}) Bool} (test : ℕ → Bool) (n : ℕ) (u : Range ℕ) (f : F) (r : Bool) → (xs : List ℕ) × (o : Option ℕ) × (j : F) × YieldsThen nat_range_steps (record { start = 0; end = n }) xs o u × FoldsTo (λ p x q. Called g p (x, tt) true q) f xs j × MatchOption o (r ≡ true) (λ x. (r ≡ false) × ((h : F) × Called g j (x, tt) false h)) → ((x : ℕ) (b : Bool) (q : F) → Called g f (x, tt) b q → (q ≡ f) × (b ≡ test x)) → r ≡ all test (from 0 n)
all_below test n u f r ran closure = all_from_yields_List test u f r ran (YieldsList-from_range 0 n n refl (omega arith)) closure ∙ ap (list_all test) (range_from 0 n) ∙ all_same test (from 0 n)

-- ---- the search of a range

pub seek_find : (f : ℕ → Bool) (i n : ℕ) → seek f i n ≡ unwrap_or (find f (from i n)) (i + n)
unfolding from seek
seek_find f i zero = omega arith
seek_find f i (suc n) = by_test (f i) (seek_find f (suc i) n ∙ ap (unwrap_or (find f (from (suc i) n))) (omega arith))
  where
    by_test : (b : Bool) → seek f (suc i) n ≡ unwrap_or (find f (from (suc i) n)) (i + suc n) → cond b i (seek f (suc i) n) ≡ unwrap_or (cond {A = Option ℕ} b (Some i) (find f (from (suc i) n))) (i + suc n)
    by_test true e = refl
    by_test false e = e

-- what is found stands below the end, and passes
none_some : (k : ℕ) → None ≡ Some k → ⊥
none_some k e = cc

pub find_most : (f : ℕ → Bool) (i n k : ℕ) → find f (from i n) ≡ Some k → k < i + n
unfolding from
find_most f i zero k e = absurd (none_some k e)
find_most f i (suc n) k e = by_test (f i) (find_most f (suc i) n k) e
  where
    by_test : (b : Bool) → (find f (from (suc i) n) ≡ Some k → k < suc i + n) → cond {A = Option ℕ} b (Some i) (find f (from (suc i) n)) ≡ Some k → k < i + suc n
    by_test true h e = omega (arith, ap (λ o. unwrap_or o 0) e)
    by_test false h e = omega (arith, h e)

pub seek_some : (f : ℕ → Bool) (n k : ℕ) → find f (from 0 n) ≡ Some k → seek f 0 n ≡ k
seek_some f n k e = seek_find f 0 n ∙ ap (λ o. unwrap_or o (0 + n)) e

pub seek_none : (f : ℕ → Bool) (n : ℕ) → find f (from 0 n) ≡ None → seek f 0 n ≡ n
seek_none f n e = seek_find f 0 n ∙ ap (λ o. unwrap_or o (0 + n)) e ∙ omega arith
