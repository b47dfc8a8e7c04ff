-- Ports, channels and lands are counted: twice the laid ports and twice the lands are the laid darts and 4 (V − E + lands = 2), and a split does not change that.
--   length_all ls        how many darts the lands ls have together
--   Counted n ls        2 * n + 2 * length ls ≡ length_all ls + 4, n being the number of laid ports
--   Ports ps t P        P lists each laid port, once, and no other
-- counted_split: a split adds as many ports as the path has between its ends, and a land. ports_split: the laid ports afterwards are those before and the ports between.
-- Assumes nothing.
use mathlib.Core.Path.{◌≡◌, ap, sym, ◌∙◌, subst}
use mathlib.Core.Logic.{◌⊎◌, inl, ⊎_elim, inr}
use mathlib.Core.List.{List, [], ◌∷◌, ◌++◌}
use Prim.Native.Nat.{ℕ, ◌+◌, ◌<◌, zero, suc, ◌*◌, ◌≤◌}
use native.Mathlib.Nat.{not-suc-le-zero, eq-zero-or-pos}
use native.Mathlib.Omega.{arith}
use lib.Dec.{T}
use lib.ListN.{length, set, get_or, length-append, length-set}
use Rattle.rules.specs.Terms.{leaves, reverse, laid, listed}
use Rattle.rules.specs.Laying.{back, split_lands}
use Rattle.laws.proofs.Counts.{flag, flag_T, T_flag, count, count_append}
use Rattle.laws.proofs.Runs.{reverse_reverse, count_back, length_back, length_listed}
use Rattle.laws.proofs.Trails.{leaves_reverse, enters_reverse, Trail, inner, trail_leaves, trail_enters, inner_enters}

-- ---- the count

unfoldable pub length_all : List (List ℕ) → ℕ
length_all [] = 0
length_all (l ∷ ls) = length l + length_all ls

pub length_all_set : (ls : List (List ℕ)) (i : ℕ) (m : List ℕ) → i < length ls → length_all (set ls i m) + length (get_or ls i []) ≡ length_all ls + length m
unfolding length_all
length_all_set [] i m h = absurd (not-suc-le-zero h)
length_all_set (l ∷ ls) zero m h = omega arith
length_all_set (l ∷ ls) (suc i) m h = omega (arith, length_all_set ls i m (omega arith))

pub length_all_snoc : (ls : List (List ℕ)) (m : List ℕ) → length_all (ls ++ (m ∷ [])) ≡ length_all ls + length m
unfolding length_all
length_all_snoc [] m = omega arith
length_all_snoc (l ∷ ls) m = omega (arith, length_all_snoc ls m)

abbrev pub Counted : ℕ → List (List ℕ) → Type 0
Counted ports ls = 2 * ports + 2 * length ls ≡ length_all ls + 4

pub counted_split : (ports : ℕ) (ls : List (List ℕ)) (i : ℕ) (a b q : List ℕ) (new : ℕ) → Counted ports ls → i < length ls → length (get_or ls i []) ≡ length a + length b
    → new + 1 ≡ length q → Counted (ports + new) (split_lands i a b q ls)
unfolding split_lands
counted_split ports ls i a b q new h hi e k =
    omega (
      arith,
      length_all_snoc (set ls i (listed (q ++ b))) (listed (back q ++ a)),
      length_all_set ls i (listed (q ++ b)) hi,
      length_listed (q ++ b),
      length_listed (back q ++ a),
      length-append q b,
      length-append (back q) a,
      length_back q,
      length-append (set ls i (listed (q ++ b))) (listed (back q ++ a) ∷ []),
      length-set ls i (listed (q ++ b)),
    )

-- ---- the laid ports

pub record Ports (ps t P : List ℕ) : Type 0 where
  pub some : (z : ℕ) → T (laid t z) → count (leaves ps z) P ≡ 1
  pub only : (p : ℕ) → 1 ≤ count p P → (z : ℕ) × T (laid t z) × (leaves ps z ≡ p)

module _ (ps t u P : List ℕ) (R : Ports ps t P) (p d : ℕ) (q : List ℕ) (y : ℕ) (way : Trail ps p (d ∷ q) y)
    (after : (z : ℕ) → flag (laid u z) ≡ flag (laid t z) + (count z (d ∷ q) + count z (back (d ∷ q))))
    (at_start : count p P ≡ 1) (atEnd : count y P ≡ 1)
    (new : (r : ℕ) → 1 ≤ count r (inner ps (d ∷ q)) → (count r (inner ps (d ∷ q)) ≡ 1) × (count r P ≡ 0)) where
  -- a port that stands in one of the two lists stands in the two together once
  both : (r : ℕ) → (count r P ≡ 1) ⊎ (1 ≤ count r (inner ps (d ∷ q))) → count r (inner ps (d ∷ q) ++ P) ≡ 1
  both r (inl e) = ⊎_elim (λ n. omega (arith, count_append r (inner ps (d ∷ q)) P)) (λ k. omega (arith, (new r k).1)) (eq-zero-or-pos (count r (inner ps (d ∷ q))))
  both r (inr k) = omega (arith, count_append r (inner ps (d ∷ q)) P, (new r k).0, (new r k).1)

  some_of : (z : ℕ) → T (laid u z) → (count (leaves ps z) P ≡ 1) ⊎ (1 ≤ count (leaves ps z) (inner ps (d ∷ q)))
  some_of z h =
      ⊎_elim
      (λ e.
      ⊎_elim (λ f. inl (R.some z (T_flag (laid t z) (omega (arith, after z, flag_T (laid u z) h)))))
      (λ k. ⊎_elim (λ n. inl (ap (λ (w : ℕ). count w P) (sym (enters_reverse ps z) ∙ n) ∙ atEnd)) (λ n. inr (subst (λ (w : ℕ). 1 ≤ count w (inner ps (d ∷ q))) (enters_reverse ps z) n))
      (trail_enters ps p d q y (reverse z) way (omega (arith, count_back z (d ∷ q)))))
      (eq-zero-or-pos (count z (back (d ∷ q)))))
      (λ k. ⊎_elim (λ n. inl (ap (λ (w : ℕ). count w P) n ∙ at_start)) inr (trail_leaves ps p d q y z way k))
      (eq-zero-or-pos (count z (d ∷ q)))

  only_of : (r : ℕ) → 1 ≤ count r (inner ps (d ∷ q) ++ P) → (z : ℕ) × T (laid u z) × (leaves ps z ≡ r)
  only_of r h =
      ⊎_elim
      (λ e. let w = R.only r (omega (arith, count_append r (inner ps (d ∷ q)) P)) in (w.0, T_flag (laid u w.0) (omega (arith, after w.0, flag_T (laid t w.0) w.1)), w.2))
      (λ k. let w = inner_enters ps d q r k in
      (reverse w.0, T_flag (laid u (reverse w.0)) (omega (arith, after (reverse w.0), count_back (reverse w.0) (d ∷ q), ap (λ (v : ℕ). count v (d ∷ q)) (reverse_reverse w.0), w.1)), leaves_reverse ps w.0 ∙ w.2))
      (eq-zero-or-pos (count r (inner ps (d ∷ q))))

  pub ports_split : Ports ps u (inner ps (d ∷ q) ++ P)
  ports_split = record {
    some = λ z h. both (leaves ps z) (some_of z h);
    only = only_of;
  }
