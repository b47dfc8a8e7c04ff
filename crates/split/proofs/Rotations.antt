-- A land of sound turns, walked from whichever of its darts: the darts come in another order, and the smallest of them, with which the land is listed, is the same.
-- least_le, least_low, least_in, least_same: the smallest number of a list depends only on what stands in it. least_first: it is a dart. cut_at: a list is cut at any of its numbers. round_..: a land walked from any of its darts.
-- walked_..: a land of sound turns, listed, and walked from any of its darts: it can be walked, its smallest dart is the one that it is listed from, and it has no more darts than there are.
-- Assumes nothing.
use mathlib.Core.Path.{◌≡◌, refl, sym, ap, ◌∙◌, subst}
use mathlib.Core.Logic.{⊎_elim}
use mathlib.Core.List.{List, [], ◌∷◌, ◌++◌}
use Prim.Native.Nat.{ℕ, zero, suc, ◌%◌, ◌<◌, ◌≤◌}
use native.Mathlib.Nat.{not-suc-le-zero}
use native.Mathlib.Omega.{arith}
use lib.ListN.{length, get_or}
use Rattle.rules.specs.Terms.{missing, laid, next, least, listed}
use Rattle.rules.specs.Laying.{first}
use Rattle.laws.proofs.Counts.{T_flag, flag_le, is_self, is_cases, count, count_head, count_append, pigeon}
use Rattle.laws.proofs.Runs.{Land, count_listed, length_listed, least_le, least_low, least_in}
use Rattle.laws.proofs.Links.{laid_lt}
use Rattle.laws.proofs.Sound.{all_at, count_at, Sound}
use Rattle.land.specs.Walks.{land_from, Darts}
use Rattle.land.proofs.Laws.{turned_from, below_of, first_listed}

-- ---- the smallest number of a list

least_at_most : (m : ℕ) (l r : List ℕ) → ((z : ℕ) → count z l ≡ count z r) → least m l ≤ least m r
least_at_most m l r same =
    ⊎_elim (λ e. omega (arith, least_le m l)) (λ k. least_low m l (least m r) (omega (arith, same (least m r)))) (least_in m r)

pub least_same : (m : ℕ) (l r : List ℕ) → ((z : ℕ) → count z l ≡ count z r) → least m l ≡ least m r
least_same m l r same = omega (arith, least_at_most m l r same, least_at_most m r l (λ z. sym (same z)))

-- the smallest dart of a walk is at most the first, which is no mark
pub least_first : (t : List ℕ) (n d : ℕ) → 0 < n → Darts t (land_from t n d) → (least missing (land_from t n d) ≤ d) × (d < missing)
unfolding land_from
least_first t zero d h p = absurd (not-suc-le-zero h)
least_first t (suc n) d h p = (least_low missing (d ∷ land_from t n (next t d)) d (count_head d (land_from t n (next t d))), omega (arith, p.few, p.inside.0))

-- ---- a land walked from any of its darts

pub cut_at : (d : ℕ) (l : List ℕ) → 1 ≤ count d l → (u : List ℕ) × ((w : List ℕ) × (l ≡ u ++ (d ∷ w)))
unfolding count
cut_at d [] h = absurd (not-suc-le-zero h)
cut_at d (e ∷ l) h =
    ⊎_elim (λ q. ([], (l, ap (λ (z : ℕ). z ∷ l) (sym q))))
    (λ n. let r = cut_at d l (omega arith) in (e ∷ r.0, (r.1.0, ap (λ (m : List ℕ). e ∷ m) r.1.1)))
    (is_cases d e)

pub round_count : (t l : List ℕ) (d : ℕ) → Land t l → 1 ≤ count d l → (z : ℕ) → count z (land_from t (length l) d) ≡ count z l
round_count t l d h k z =
    let r = cut_at d l k in
    subst (λ (m : List ℕ). count z (land_from t (length m) d) ≡ count z m) (sym r.1.1)
    (ap (count z) (turned_from t r.0 d r.1.0 (subst (Land t) r.1.1 h))
    ∙ omega (arith, count_append z r.0 (d ∷ r.1.0), count_append z (d ∷ r.1.0) r.0))

-- ---- a land of sound turns, listed and walked

module _ (t : List ℕ) (ls : List (List ℕ)) (S : Sound t ls) (even : length t % 2 ≡ 0) (few : length t < missing)
    (i : ℕ) (hi : i < length ls) (m : List ℕ) (is_m : get_or ls i [] ≡ listed m) where
  counted : (z : ℕ) → count z m ≡ count z (get_or ls i [])
  counted z = sym (count_listed z m) ∙ ap (count z) (sym is_m)

  dart : (z : ℕ) → 1 ≤ count z m → z < length t
  dart z k = laid_lt t z (T_flag (laid t z) (omega (arith, counted z, count_at z ls i, S.cover z)))

  follows : Land t (listed m)
  follows = subst (Land t) is_m (all_at (Land t) ls i hi S.follow)

  pub walked_short : length m ≤ length t
  walked_short = pigeon (length t) m dart (λ z. omega (arith, counted z, count_at z ls i, S.cover z, flag_le (laid t z)))

  module _ (d : ℕ) (k : 1 ≤ count d m) where
    -- the same darts
    again : (z : ℕ) → count z (land_from t (length m) d) ≡ count z m
    again z =
        ap (λ (n : ℕ). count z (land_from t n d)) (sym (length_listed m))
        ∙ round_count t (listed m) d follows (omega (arith, count_listed d m)) z ∙ count_listed z m

    pub walked_darts : Darts t (land_from t (length m) d)
    walked_darts = record { even = even; few = omega arith; inside = below_of (length t) (land_from t (length m) d) (λ z h. dart z (omega (arith, again z))) }

    pub walked_first : least missing (land_from t (length m) d) ≡ first (listed m)
    unfolding count
    walked_first = least_same missing (land_from t (length m) d) m again ∙ sym (go m refl)
      where
        go : (r : List ℕ) → m ≡ r → first (listed r) ≡ least missing r
        go [] e = absurd (not-suc-le-zero {n = 0} (omega (arith, ap (count d) e)))
        go (e ∷ r) q = first_listed e r (omega (arith, dart e (omega (arith, is_self e, ap (count e) q))))
