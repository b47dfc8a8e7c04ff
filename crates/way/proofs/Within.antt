-- Laws of marks: what lowering one mark does to the sets of ports marked j or less.
-- at_within: a port is within j where its mark is at most j. least_lowered: what a lowered mark is. lowered_above, lowered_under: a mark lowered to j puts the port into each set from j on, and leaves the smaller sets as they were. begun_within: at the start only y is within any mark.
-- below_same: the sets below k are those within the marks under k.
-- Assumes nothing.
use mathlib.Core.Path.{◌≡◌, refl, sym, ap, ◌∙◌}
use mathlib.Core.Bool.{Bool, true, false}
use mathlib.Core.List.{List, ◌∷◌, map}
use Prim.Native.Nat.{ℕ, zero, suc, min, ◌≤◌, ◌<◌}
use native.Mathlib.Omega.{arith}
use borrow.Author.Tests.{le-leb, lt-leb}
use lib.Dec.{leb, ltb, ltb→lt, nltb→le}
use lib.ListN.{length, get_or, set, length-set, replicate}
use lib.Seq.{set-get_or, map-set_same}
use Rattle.std.proofs.lemmas.List.{map-set, get_or-map}
use Rattle.rules.specs.Lists.{at}
use Rattle.rules.specs.Terms.{missing}
use Rattle.rules.specs.Ways.{only}
use Rattle.laws.proofs.Tests.{cond_cases}
use Rattle.way.specs.Marks.{begun, lowered, within, below}

map_replicate : {A B : Type 0} (f : A → B) (n : ℕ) (a : A) → map f (replicate n a) ≡ replicate n (f a)
map_replicate f zero a = refl
map_replicate f (suc n) a = ap (λ m. f a ∷ m) (map_replicate f n a)

pub at_within : (far : List ℕ) (j p : ℕ) → p < length far → at (within far j) p ≡ leb (get_or far p 0) j
unfolding at within
at_within far j p h = get_or-map (λ n. leb n j) far p 0 false h

pub in_within : (far : List ℕ) (j p : ℕ) → p < length far → get_or far p 0 ≤ j → at (within far j) p ≡ true
in_within far j p h k = at_within far j p h ∙ le-leb (get_or far p 0) j k

pub out_within : (far : List ℕ) (j p : ℕ) → p < length far → j < get_or far p 0 → at (within far j) p ≡ false
out_within far j p h k = at_within far j p h ∙ lt-leb (get_or far p 0) j k

-- ---- a mark lowered

pub length_lowered : (far : List ℕ) (p j : ℕ) → length (lowered far p j) ≡ length far
unfolding lowered
length_lowered far p j = cond_cases (λ (m : List ℕ). length m ≡ length far) (ltb j (get_or far p 0)) (λ t. length-set far p j) (λ t. refl)

-- a port that is in the set joins it again
set_in : (s : List Bool) (p : ℕ) → at s p ≡ true → set s p true ≡ s
unfolding at
set_in s p e = ap (set s p) (sym e) ∙ set-get_or s p false

pub lowered_above : (far : List ℕ) (p j i : ℕ) → p < length far → j ≤ i → within (lowered far p j) i ≡ set (within far i) p true
unfolding lowered within
lowered_above far p j i h k =
    cond_cases (λ (m : List ℕ). within m i ≡ set (within far i) p true) (ltb j (get_or far p 0))
    (λ t. map-set (λ n. leb n i) far p j ∙ ap (set (within far i) p) (le-leb j i k))
    (λ t. sym (set_in (within far i) p (in_within far i p h (omega (arith, nltb→le j (get_or far p 0) t)))))

-- the smaller of the two numbers is the mark
pub least_lowered : (far : List ℕ) (p j : ℕ) → set far p (min (get_or far p 0) j) ≡ lowered far p j
unfolding lowered
least_lowered far p j =
    cond_cases (λ (m : List ℕ). set far p (min (get_or far p 0) j) ≡ m) (ltb j (get_or far p 0))
    (λ t. ap (set far p) (omega (arith, ltb→lt j (get_or far p 0) t)))
    (λ t. ap (set far p) (omega (arith, nltb→le j (get_or far p 0) t)) ∙ set-get_or far p 0)

pub lowered_under : (far : List ℕ) (p j i : ℕ) → i < j → within (lowered far p j) i ≡ within far i
unfolding lowered within
lowered_under far p j i k =
    cond_cases (λ (m : List ℕ). within m i ≡ within far i) (ltb j (get_or far p 0))
    (λ t. map-set_same (λ n. leb n i) far p j 0 (lt-leb j i k ∙ sym (lt-leb (get_or far p 0) i (omega (arith, ltb→lt j (get_or far p 0) t))))) (λ t. refl)

-- ---- the start, and the sets below a mark

pub begun_within : (v y i : ℕ) → i < missing → within (begun v y) i ≡ only v y
unfolding within
begun_within v y i h =
    map-set (λ n. leb n i) (replicate v missing) y 0
    ∙ ap (λ (s : List Bool). set s y (leb 0 i)) (map_replicate (λ n. leb n i) v missing ∙ ap (replicate v) (lt-leb missing i h))
    ∙ ap (set (replicate v false) y) (le-leb 0 i (omega arith))

pub below_same : (far far' : List ℕ) (k : ℕ) → ((i : ℕ) → i < k → within far' i ≡ within far i) → below far' k ≡ below far k
unfolding below
below_same far far' zero h = refl
below_same far far' (suc k) h =
    ap (λ (s : List Bool). s ∷ below far' k) (h k (omega arith)) ∙ ap (λ (ss : List (List Bool)). within far k ∷ ss) (below_same far far' k (λ i b. h i (omega arith)))

pub length_below : (far : List ℕ) (k : ℕ) → length (below far k) ≡ k
unfolding below
length_below far zero = refl
length_below far (suc k) = ap suc (length_below far k)
