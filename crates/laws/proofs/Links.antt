-- Linking: turns changed so that a run goes through given darts.
--   Inside t l      the reverse of each dart of l has its place in t
--   AllThere l      no number of l is the mark of a missing turn
-- link_run, laid_link: the darts are then a run, and their reverses laid. link_other, laid_link_other: nothing else changes.
-- Assumes nothing.
use mathlib.Core.Path.{◌≡◌, subst, ◌∙◌, ap, sym}
use mathlib.Core.Logic.{⊎_elim}
use mathlib.Core.List.{List, ◌∷◌, []}
use Prim.Native.Nat.{ℕ, ◌<◌, ◌≤◌}
use native.Mathlib.Nat.{not-suc-le-zero, eq-zero-or-pos}
use native.Mathlib.Decide.{dec_lt}
use native.Mathlib.Omega.{arith}
use lib.Dec.{T}
use lib.ListN.{length, get_or-eq_default, length-set, set, get_or}
use lib.Seq.{get_or-set_other, get_or-set_same}
use Rattle.rules.specs.Terms.{reverse, missing, there, laid, next}
use Rattle.rules.specs.Laying.{last, link}
use Rattle.laws.proofs.Tests.{eqb_no}
use Rattle.laws.proofs.Counts.{is_cases, count, absent_head, absent_rest, Distinct}
use Rattle.laws.proofs.Lists.{All, all_weaken}
use Rattle.laws.proofs.Runs.{reverse_reverse, reverse_inj, Run}

-- ---- darts that have a place

abbrev pub Inside : List ℕ → List ℕ → Type 0
Inside t l = All (λ d. reverse d < length t) l

pub inside_as : (t u : List ℕ) → length u ≡ length t → (l : List ℕ) → Inside t l → Inside u l
inside_as t u e l h = all_weaken (λ d. reverse d < length t) (λ d. reverse d < length u) (λ d k. rw e k) l h

pub inside_last : (t : List ℕ) (d : ℕ) (l : List ℕ) → Inside t (d ∷ l) → reverse (last (d ∷ l)) < length t
unfolding last
inside_last t d [] i = i.0
inside_last t d (e ∷ l) i = inside_last t e l i.1

abbrev pub AllThere : List ℕ → Type 0
AllThere l = All (λ d. T (there d)) l

pub there_lt : (z : ℕ) → z < missing → T (there z)
unfolding there
there_lt z h = rw (eqb_no z missing (λ e. omega arith)) tt

pub laid_lt : (t : List ℕ) (z : ℕ) → T (laid t z) → z < length t
unfolding laid there
laid_lt t z h = go (dec_lt z (length t))
  where
    go : Dec (z < length t) → z < length t
    go (yes p) = p
    go (no n) = absurd (subst (λ (d : ℕ). T (there d)) (get_or-eq_default t missing (omega arith)) h)

-- ---- the turns

pub length_link : (d : ℕ) (l : List ℕ) (e : ℕ) (t : List ℕ) → length (link d l e t) ≡ length t
unfolding link
length_link d [] e t = length-set t (reverse d) e
length_link d (x ∷ l) e t = length_link x l e (set t (reverse d) x) ∙ length-set t (reverse d) x

-- it changes the turns of the reverses of d and of l's darts, and no other
pub link_other : (d : ℕ) (l : List ℕ) (e : ℕ) (t : List ℕ) (z : ℕ) → count z (d ∷ l) ≡ 0 → next (link d l e t) z ≡ next t z
unfolding link next
link_other d [] e t z h = get_or-set_other t (reverse d) (reverse z) e 0 (λ k. absent_head z d [] h (reverse_inj z d k))
link_other d (x ∷ l) e t z h =
    link_other x l e (set t (reverse d) x) z (absent_rest z d (x ∷ l) h)
    ∙ get_or-set_other t (reverse d) (reverse z) x 0 (λ k. absent_head z d (x ∷ l) h (reverse_inj z d k))

pub link_run : (d : ℕ) (l : List ℕ) (e : ℕ) (t : List ℕ) → Inside t (d ∷ l) → Distinct (d ∷ l) → Run (link d l e t) d l e
unfolding link next
link_run d [] e t i u = get_or-set_same t (reverse d) e 0 i.0
link_run d (x ∷ l) e t i u = (
  link_other x l e (set t (reverse d) x) d u.0 ∙ get_or-set_same t (reverse d) x 0 i.0,
  link_run x l e (set t (reverse d) x) (inside_as t (set t (reverse d) x) (length-set t (reverse d) x) (x ∷ l) i.1) u.1,
)

-- ---- the laid darts

pub link_get : (d : ℕ) (l : List ℕ) (e : ℕ) (t : List ℕ) (i m : ℕ) → count (reverse i) (d ∷ l) ≡ 0 → get_or (link d l e t) i m ≡ get_or t i m
unfolding link
link_get d [] e t i m h = get_or-set_other t (reverse d) i e m (λ k. absent_head (reverse i) d [] h (ap reverse k ∙ reverse_reverse d))
link_get d (x ∷ l) e t i m h =
    link_get x l e (set t (reverse d) x) i m (absent_rest (reverse i) d (x ∷ l) h)
    ∙ get_or-set_other t (reverse d) i x m (λ k. absent_head (reverse i) d (x ∷ l) h (ap reverse k ∙ reverse_reverse d))

set_laid : (t : List ℕ) (d x z : ℕ) → reverse d < length t → T (there x) → reverse z ≡ d → T (there (get_or (set t (reverse d) x) z missing))
set_laid t d x z b v q =
    let here : T (there (get_or (set t (reverse d) x) (reverse d) missing)) = rw (get_or-set_same t (reverse d) x missing b) v in
    let e : reverse d ≡ z = ap reverse (sym q) ∙ reverse_reverse z in
    subst (λ (j : ℕ). T (there (get_or (set t (reverse d) x) j missing))) e here

pub laid_link : (d : ℕ) (l : List ℕ) (e : ℕ) (t : List ℕ) (z : ℕ) → Inside t (d ∷ l) → AllThere l → T (there e) → 1 ≤ count (reverse z) (d ∷ l)
    → T (laid (link d l e t) z)
unfolding link laid count
laid_link d [] e t z i v k h =
    ⊎_elim (λ q. set_laid t d e z i.0 k q) (λ n. absurd (not-suc-le-zero {n = 0} (omega arith))) (is_cases (reverse z) d)
laid_link d (x ∷ l) e t z i v k h =
    ⊎_elim
    (λ n.
    ⊎_elim (λ q. rw (link_get x l e (set t (reverse d) x) z missing n) (set_laid t d x z i.0 v.0 q))
    (λ m. absurd (not-suc-le-zero {n = 0} (omega arith))) (is_cases (reverse z) d))
    (λ p. laid_link x l e (set t (reverse d) x) z (inside_as t (set t (reverse d) x) (length-set t (reverse d) x) (x ∷ l) i.1) v.1 k p)
    (eq-zero-or-pos (count (reverse z) (x ∷ l)))

pub laid_link_other : (d : ℕ) (l : List ℕ) (e : ℕ) (t : List ℕ) (z : ℕ) → count (reverse z) (d ∷ l) ≡ 0 → laid (link d l e t) z ≡ laid t z
unfolding laid
laid_link_other d l e t z h = ap there (link_get d l e t z missing h)
