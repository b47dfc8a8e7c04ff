-- One step of a walk along the turns: the darts that are left are the dart at hand and those after it.
--   Left t n k e              k of n darts are walked and e is the next: those that are left can be walked
--   Seeking ends p d l r a k  k darts of l are passed, a being the last (d where none is), none leaves p, and r is left, in which some dart does
-- from_step, from_end, left_..: the walk. by_.., low_.., seek_..: a turn of the loops of `along`, `smallest` and `seek_port`, each of the form "what is left says what the whole says".
-- Assumes nothing.
use mathlib.Core.Path.{◌≡◌, refl, sym, ap, ◌∙◌, subst}
use mathlib.Core.Logic.{◌≢◌}
use mathlib.Core.Bool.{Bool, true, false, cond, ◌||◌}
use mathlib.Core.List.{List, [], ◌∷◌}
use Prim.Native.Nat.{ℕ, min, suc, ◌+◌, ◌-◌, ◌%◌, ◌<◌, ◌≤◌}
use native.Mathlib.Omega.{arith}
use borrow.Author.Tests.{lt-ltb}
use Rattle.std.proofs.lemmas.Bool.Decides.{nat_tests}
use lib.Dec.{T, eqb, ltb}
use lib.ListN.{length}
use Rattle.rules.specs.Lists.{any}
use Rattle.rules.specs.Terms.{reverse, missing, leaves, next, least, visits}
use Rattle.rules.specs.Laying.{first, last, before, since}
use Rattle.laws.proofs.Tests.{eqb_yes, eqb_no}
use Rattle.land.specs.Walks.{land_from, next_by, Darts, Sought}

pub reverse_inside : (n d : ℕ) → n % 2 ≡ 0 → d < n → reverse d < n
unfolding reverse
reverse_inside n d e h = omega arith

-- ---- what is left

pub from_step : (t : List ℕ) (n k e e' : ℕ) → k < n → e' ≡ next t e → land_from t (n - k) e ≡ e ∷ land_from t (n - (k + 1)) e'
unfolding land_from
from_step t n k e e' h s = ap (λ (m : ℕ). land_from t m e) fuel ∙ ap (λ (x : ℕ). e ∷ land_from t (n - (k + 1)) x) (sym s)
  where
    fuel : n - k ≡ suc (n - (k + 1))
    fuel = omega arith

pub from_end : (t : List ℕ) (n k e : ℕ) → n ≤ k → land_from t (n - k) e ≡ []
unfolding land_from
from_end t n k e h = ap (λ (m : ℕ). land_from t m e) none
  where
    none : n - k ≡ 0
    none = omega arith

pub from_start : (t : List ℕ) (n d : ℕ) → land_from t n d ≡ land_from t (n - 0) d
from_start t n d = ap (λ (m : ℕ). land_from t m d) (omega arith)

pub record Left (t : List ℕ) (n k e : ℕ) : Type 0 where
  pub most : k ≤ n
  pub darts : Darts t (land_from t (n - k) e)

pub left_start : (t : List ℕ) (n d : ℕ) → Darts t (land_from t n d) → Left t n 0 d
left_start t n d h = record { most = omega arith; darts = subst (Darts t) (from_start t n d) h }

-- the darts left, the next one apart
parted : (t : List ℕ) (n k e e' : ℕ) → k < n → e' ≡ next t e → Left t n k e → Darts t (e ∷ land_from t (n - (k + 1)) e')
parted t n k e e' h s w = subst (Darts t) (from_step t n k e e' h s) w.darts

pub left_dart : (t : List ℕ) (n k e : ℕ) → k < n → Left t n k e → Darts t (e ∷ [])
left_dart t n k e h w =
    let p = parted t n k e (next t e) h refl w in
    record { even = p.even; few = p.few; inside = (p.inside.0, tt) }

pub left_step : (t : List ℕ) (n k e e' : ℕ) → k < n → e' ≡ next t e → Left t n k e → Left t n (k + 1) e'
left_step t n k e e' h s w =
    let p = parted t n k e e' h s w in
    record { most = omega arith; darts = record { even = p.even; few = p.few; inside = p.inside.1 } }

-- ---- `along`

pub by_start : (t : List ℕ) (n d : ℕ) → next_by t n d ≡ next_by t (n - 0) d
by_start t n d = ap (λ (m : ℕ). next_by t m d) (omega arith)

pub by_step : (t : List ℕ) (n k e e' x : ℕ) → k < n → e' ≡ next t e → x ≡ next_by t (n - k) e → x ≡ next_by t (n - (k + 1)) e'
unfolding next_by
by_step t n k e e' x h s q = q ∙ ap (λ (m : ℕ). next_by t m e) fuel ∙ ap (next_by t (n - (k + 1))) (sym s)
  where
    fuel : n - k ≡ suc (n - (k + 1))
    fuel = omega arith

pub by_end : (t : List ℕ) (n k e x : ℕ) → n ≤ k → x ≡ next_by t (n - k) e → e ≡ x
unfolding next_by
by_end t n k e x h q = sym (q ∙ ap (λ (m : ℕ). next_by t m e) none)
  where
    none : n - k ≡ 0
    none = omega arith

-- ---- `smallest`

both : (b : Bool) (x : ℕ) → cond b x x ≡ x
both true x = refl
both false x = refl

pub low_start : (t : List ℕ) (n d : ℕ) → 0 < n → Darts t (land_from t n d) → least missing (land_from t n d) ≡ least d (land_from t (n - 0) d)
unfolding least
low_start t n d h w =
    let s = from_start t n d ∙ from_step t n 0 d (next t d) h refl in
    let r = land_from t (n - (0 + 1)) (next t d) in
    let p : Darts t (d ∷ r) = subst (Darts t) s w in
    let small : d < missing = omega (arith, p.few, p.inside.0) in
    ap (least missing) s ∙ ap (λ (m : ℕ). least m r) (low small ∙ sym (both (ltb d d) d)) ∙ ap (least d) (sym (from_step t n 0 d (next t d) h refl))
  where
    low : d < missing → cond (ltb d missing) d missing ≡ d
    low k = rw (lt-ltb d missing k)

pub low_step : (t : List ℕ) (n k e e' low low' x : ℕ) → k < n → e' ≡ next t e → low' ≡ min e low
    → x ≡ least low (land_from t (n - k) e) → x ≡ least low' (land_from t (n - (k + 1)) e')
unfolding least
low_step t n k e e' low low' x h s c q =
    q ∙ ap (least low) (from_step t n k e e' h s) ∙ ap (λ (m : ℕ). least m (land_from t (n - (k + 1)) e')) (sym (c ∙ lower e low))
  where
    lower : (a b : ℕ) → min a b ≡ cond (ltb a b) a b
    lower a b = grind (arith, nat_tests)

pub low_end : (t : List ℕ) (n k e low x : ℕ) → n ≤ k → x ≡ least low (land_from t (n - k) e) → low ≡ x
unfolding least
low_end t n k e low x h q = sym (q ∙ ap (least low) (from_end t n k e h))

-- ---- `seek_port`

pub record Seeking (ends : List ℕ) (p d : ℕ) (l r : List ℕ) (a k : ℕ) : Type 0 where
  pub dart : first (since ends p l) ≡ first (since ends p r)
  pub steps : length (before ends p l) ≡ k + length (before ends p r)
  pub behind : last (d ∷ before ends p l) ≡ last (a ∷ before ends p r)
  pub some : T (visits ends r p)

pub seek_start : (ends t : List ℕ) (p n d : ℕ) → T (visits ends (land_from t n d) p) → Seeking ends p d (land_from t n d) (land_from t (n - 0) d) d 0
seek_start ends t p n d v =
    subst (λ (r : List ℕ). Seeking ends p d (land_from t n d) r d 0) (from_start t n d)
    (record { dart = refl; steps = omega arith; behind = refl; some = v })

module _ (ends : List ℕ) (p d : ℕ) (l : List ℕ) (e : ℕ) (r : List ℕ) (a k : ℕ) where
  passes : leaves ends e ≢ p → Seeking ends p d l (e ∷ r) a k → Seeking ends p d l r e (k + 1)
  unfolding since before visits any last
  passes h w =
      let no = eqb_no (leaves ends e) p h in
      let b : before ends p (e ∷ r) ≡ e ∷ before ends p r = rw no in
      record {
        dart = w.dart ∙ ap first (rw no);
        steps = omega (arith, w.steps, ap length b);
        behind = w.behind ∙ ap (λ (m : List ℕ). last (a ∷ m)) b;
        some = subst (λ (y : Bool). T (y || any (λ z. eqb (leaves ends z) p) r)) no w.some;
      }

  finds : leaves ends e ≡ p → Seeking ends p d l (e ∷ r) a k → Sought ends p d l (record { dart = e; last = a; steps = k })
  unfolding since before first last
  finds h w =
      let yes = eqb_yes (leaves ends e) p h in
      let b : before ends p (e ∷ r) ≡ [] = rw yes in
      let s : since ends p (e ∷ r) ≡ e ∷ r = rw yes in
      record {
        dart = sym (w.dart ∙ ap first s);
        steps = sym (w.steps ∙ ap (λ (m : List ℕ). k + length m) b ∙ omega arith);
        last = sym (w.behind ∙ ap (λ (m : List ℕ). last (a ∷ m)) b);
      }

pub seek_no : (ends t : List ℕ) (p d n e e' a k : ℕ) (l : List ℕ) → k < n → e' ≡ next t e → leaves ends e ≢ p
    → Seeking ends p d l (land_from t (n - k) e) a k → Seeking ends p d l (land_from t (n - (k + 1)) e') e (k + 1)
seek_no ends t p d n e e' a k l h s q w =
    passes ends p d l e (land_from t (n - (k + 1)) e') a k q (subst (λ (r : List ℕ). Seeking ends p d l r a k) (from_step t n k e e' h s) w)

pub seek_yes : (ends t : List ℕ) (p d n e a k : ℕ) (l : List ℕ) → k < n → leaves ends e ≡ p
    → Seeking ends p d l (land_from t (n - k) e) a k → Sought ends p d l (record { dart = e; last = a; steps = k })
seek_yes ends t p d n e a k l h q w =
    finds ends p d l e (land_from t (n - (k + 1)) (next t e)) a k q (subst (λ (r : List ℕ). Seeking ends p d l r a k) (from_step t n k e (next t e) h refl) w)

pub seek_none : (ends t : List ℕ) (p d n e a k : ℕ) (l : List ℕ) → n ≤ k → Seeking ends p d l (land_from t (n - k) e) a k → ⊥
unfolding visits any
seek_none ends t p d n e a k l h w = subst (λ (r : List ℕ). T (visits ends r p)) (from_end t n k e h) w.some
