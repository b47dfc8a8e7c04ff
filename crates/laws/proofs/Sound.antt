-- Sound turns and lands: the lands follow the turns, and every laid dart stands in one land, once.
--   count_all z ls       how often dart z stands in the lands ls
--   Sound t ls          the lands ls follow the turns t and cover the laid darts, each once; a dart is laid where its reverse is
-- all_at, count_at, all_set, count_set: one land of many. sound_split: a split by a path of unlaid darts keeps turns and lands sound. sound_laid: the darts laid afterwards.
-- Assumes nothing.
use mathlib.Core.Path.{◌≡◌, sym, ◌∙◌, ap, subst}
use mathlib.Core.Logic.{⊎_elim}
use mathlib.Core.Bool.{false}
use mathlib.Core.List.{List, [], ◌∷◌, ◌++◌}
use Prim.Native.Nat.{ℕ, ◌+◌, ◌<◌, zero, suc, ◌≤◌}
use native.Mathlib.Nat.{not-suc-le-zero, eq-zero-or-pos}
use native.Mathlib.Omega.{arith}
use lib.Dec.{T}
use lib.ListN.{length, get_or, set}
use Rattle.rules.specs.Terms.{reverse, missing, there, laid, listed}
use Rattle.rules.specs.Laying.{back, last, split_turns, split_lands}
use Rattle.laws.proofs.Counts.{flag, T_flag, flag_le, flag_inj, count, count_head, count_append}
use Rattle.laws.proofs.Lists.{All, all_of, all_snoc}
use Rattle.laws.proofs.Runs.{reverse_reverse, count_back, Land, run_cut, land_listed, last_in_lem}
use Rattle.laws.proofs.Links.{Inside, AllThere, there_lt, laid_lt}
use Rattle.laws.proofs.Split.{split_kept, split_made, split_others, count_split, laid_split}

-- ---- the lands together

unfoldable pub count_all : ℕ → List (List ℕ) → ℕ
count_all z [] = 0
count_all z (l ∷ ls) = count z l + count_all z ls

pub all_at : (P : List ℕ → Type 0) (ls : List (List ℕ)) (i : ℕ) → i < length ls → All P ls → P (get_or ls i [])
all_at P [] i h a = absurd (not-suc-le-zero h)
all_at P (l ∷ ls) zero h a = a.0
all_at P (l ∷ ls) (suc i) h a = all_at P ls i (omega arith) a.1

pub count_at : (z : ℕ) (ls : List (List ℕ)) (i : ℕ) → count z (get_or ls i []) ≤ count_all z ls
unfolding count_all count
count_at z [] i = omega arith
count_at z (l ∷ ls) zero = omega arith
count_at z (l ∷ ls) (suc i) = omega (arith, count_at z ls i)

pub all_keep : (P Q : List ℕ → Type 0) (ls : List (List ℕ)) → ((l : List ℕ) → ((z : ℕ) → count z l ≤ count_all z ls) → P l → Q l) → All P ls → All Q ls
unfolding count_all
all_keep P Q [] f a = tt
all_keep P Q (l ∷ ls) f a = (f l (λ z. omega arith) a.0, all_keep P Q ls (λ m h. f m (λ z. omega (arith, h z))) a.1)

-- one land is replaced, and the others, which share no dart with it, keep what they have
pub all_set : (P Q : List ℕ → Type 0) (ls : List (List ℕ)) (i : ℕ) (m : List ℕ) → ((z : ℕ) → count_all z ls ≤ 1)
    → ((l : List ℕ) → ((z : ℕ) → count z l + count z (get_or ls i []) ≤ count_all z ls) → P l → Q l) → Q m → All P ls → All Q (set ls i m)
unfolding count_all
all_set P Q [] i m u f n a = tt
all_set P Q (l ∷ ls) zero m u f n a = (n, all_keep P Q ls (λ k h. f k (λ z. omega (arith, h z))) a.1)
all_set P Q (l ∷ ls) (suc i) m u f n a = (
  f l (λ z. omega (arith, count_at z ls i)) a.0,
  all_set P Q ls i m (λ z. omega (arith, u z)) (λ k h. f k (λ z. omega (arith, h z))) n a.1,
)

pub count_set : (z : ℕ) (ls : List (List ℕ)) (i : ℕ) (m : List ℕ) → i < length ls → count_all z (set ls i m) + count z (get_or ls i []) ≡ count_all z ls + count z m
unfolding count_all
count_set z [] i m h = absurd (not-suc-le-zero h)
count_set z (l ∷ ls) zero m h = omega arith
count_set z (l ∷ ls) (suc i) m h = omega (arith, count_set z ls i m (omega arith))

pub count_snoc : (z : ℕ) (ls : List (List ℕ)) (m : List ℕ) → count_all z (ls ++ (m ∷ [])) ≡ count_all z ls + count z m
unfolding count_all
count_snoc z [] m = omega arith
count_snoc z (l ∷ ls) m = omega (arith, count_snoc z ls m)

-- ---- sound

pub record Sound (t : List ℕ) (ls : List (List ℕ)) : Type 0 where
  pub follow : All (Land t) ls
  pub cover : (z : ℕ) → count_all z ls ≡ flag (laid t z)
  pub pair : (z : ℕ) → laid t (reverse z) ≡ laid t z

-- ---- a split keeps them sound

module _ (t : List ℕ) (ls : List (List ℕ)) (S : Sound t ls) (small : length t < missing) (even : (z : ℕ) → z < length t → reverse z < length t)
    (i : ℕ) (hi : i < length ls) (x : ℕ) (a : List ℕ) (y : ℕ) (b q : List ℕ)
    (whole : Land t ((x ∷ a) ++ (y ∷ b))) (same : (z : ℕ) → count z ((x ∷ a) ++ (y ∷ b)) ≡ count z (get_or ls i []))
    (fresh : (z : ℕ) → 1 ≤ count z q → (laid t z ≡ false) × (z < length t)) (once : (z : ℕ) → count z q + count (reverse z) q ≤ 1) where
  old : (z : ℕ) → count z (x ∷ a) + count z (y ∷ b) ≤ flag (laid t z)
  old z = omega (arith, count_append z (x ∷ a) (y ∷ b), same z, count_at z ls i, S.cover z)

  new : (z : ℕ) → 1 ≤ count z q + count z (back q) → laid t z ≡ false
  new z h =
      ⊎_elim (λ e. sym (S.pair z) ∙ (fresh (reverse z) (omega (arith, count_back z q))).0) (λ p. (fresh z p).0) (eq-zero-or-pos (count z q))

  one_q : (z : ℕ) → count z q + count z (back q) ≤ 1
  one_q z = omega (arith, once z, count_back z q)

  at_most : (z : ℕ) → count z (x ∷ a) + count z (y ∷ b) + (count z q + count z (back q)) ≤ 1
  at_most z =
      ⊎_elim (λ e. omega (arith, old z, flag_le (laid t z))) (λ p. omega (arith, old z, one_q z, ap flag (new z p))) (eq-zero-or-pos (count z q + count z (back q)))

  dart : (z : ℕ) → 1 ≤ count z (x ∷ a) + count z (y ∷ b) + (count z q + count z (back q)) → z < length t
  dart z h =
      ⊎_elim
      (λ e. laid_lt t z (T_flag (laid t z) (omega (arith, old z))))
      (λ p. ⊎_elim (λ e. subst (λ (w : ℕ). w < length t) (reverse_reverse z) (even (reverse z) (fresh (reverse z) (omega (arith, count_back z q))).1)) (λ k. (fresh z k).1) (eq-zero-or-pos (count z q)))
      (eq-zero-or-pos (count z q + count z (back q)))

  inside_of : (l : List ℕ) → ((z : ℕ) → count z l ≤ count z (x ∷ a) + count z (y ∷ b) + (count z q + count z (back q))) → Inside t l
  inside_of l h = all_of (λ d. reverse d < length t) l (λ z k. even z (dart z (omega (arith, h z))))

  there_of : (l : List ℕ) → ((z : ℕ) → count z l ≤ count z (x ∷ a) + count z (y ∷ b) + (count z q + count z (back q))) → AllThere l
  there_of l h = all_of (λ d. T (there d)) l (λ z k. there_lt z (omega (arith, dart z (omega (arith, h z)))))

  there_one : (z : ℕ) → 1 ≤ count z (x ∷ a) + count z (y ∷ b) → T (there z)
  there_one z h = there_lt z (omega (arith, dart z (omega arith)))

  in_q : Inside t q
  in_q = inside_of q (λ z. omega arith)

  in_r : Inside t (back q)
  in_r = inside_of (back q) (λ z. omega arith)

  in_a : Inside t (x ∷ a)
  in_a = inside_of (x ∷ a) (λ z. omega arith)

  in_b : Inside t (y ∷ b)
  in_b = inside_of (y ∷ b) (λ z. omega arith)

  last_in : (d : ℕ) (l : List ℕ) → ((z : ℕ) → count z (d ∷ l) ≤ count z (x ∷ a) + count z (y ∷ b)) → T (laid t (last (d ∷ l)))
  last_in d l h = T_flag (laid t (last (d ∷ l))) (omega (arith, old (last (d ∷ l)), h (last (d ∷ l)), last_in_lem d l))

  pub sound_laid : (z : ℕ) → flag (laid (split_turns (x ∷ a) (y ∷ b) q t) z) ≡ flag (laid t z) + (count z q + count z (back q))
  sound_laid =
      laid_split t x a y b q
      (even _ (laid_lt t _ (last_in x a (λ z. omega arith))), in_r) (even _ (laid_lt t _ (last_in y b (λ z. omega arith))), in_q)
      (there_of (back q) (λ z. omega arith)) (there_of q (λ z. omega arith))
      (there_one x (omega (arith, count_head x a))) (there_one y (omega (arith, count_head y b)))
      S.pair (last_in x a (λ z. omega arith)) (last_in y b (λ z. omega arith)) new one_q

  apart_q : (z : ℕ) → 1 ≤ flag (laid t z) → count z q + count z (back q) ≡ 0
  apart_q z h = ⊎_elim (λ e. e) (λ p. omega (arith, ap flag (new z p))) (eq-zero-or-pos (count z q + count z (back q)))

  stays : (l : List ℕ) → ((z : ℕ) → count z l + count z (get_or ls i []) ≤ count_all z ls) → Land t l → Land (split_turns (x ∷ a) (y ∷ b) q t) l
  stays [] h k = k
  stays (d ∷ l) h k =
      split_others t x a y b q at_most in_a in_b in_q in_r d l
      (λ z c. omega (arith, h z, S.cover z, flag_le (laid t z), same z, count_append z (x ∷ a) (y ∷ b), apart_q z (omega (arith, h z, S.cover z))))
      k

  pub sound_split : Sound (split_turns (x ∷ a) (y ∷ b) q t) (split_lands i (x ∷ a) (y ∷ b) q ls)
  unfolding split_lands
  sound_split = record {
    follow =
        all_snoc (Land (split_turns (x ∷ a) (y ∷ b) q t)) (set ls i (listed (q ++ y ∷ b))) (listed (back q ++ x ∷ a))
        (all_set (Land t) (Land (split_turns (x ∷ a) (y ∷ b) q t)) ls i (listed (q ++ y ∷ b)) (λ z. omega (arith, S.cover z, flag_le (laid t z))) stays
        (land_listed (split_turns (x ∷ a) (y ∷ b) q t) (q ++ y ∷ b) (split_kept t x a y b q at_most in_a in_b in_q in_r (run_cut t x a y b x whole).1)) S.follow)
        (land_listed (split_turns (x ∷ a) (y ∷ b) q t) (back q ++ x ∷ a) (split_made t x a y b q at_most in_a in_b in_q in_r (run_cut t x a y b x whole).0));
    cover = λ z. omega (arith, count_snoc z (set ls i (listed (q ++ y ∷ b))) (listed (back q ++ x ∷ a)), count_set z ls i (listed (q ++ y ∷ b)) hi, count_split z (x ∷ a) (y ∷ b) q, same z, S.cover z, sound_laid z);
    pair = λ z. flag_inj (laid (split_turns (x ∷ a) (y ∷ b) q t) (reverse z)) (laid (split_turns (x ∷ a) (y ∷ b) q t) z)
        (omega (arith, sound_laid z, sound_laid (reverse z), ap flag (S.pair z), count_back z q, count_back (reverse z) q, ap (λ (w : ℕ). count w q) (reverse_reverse z)));
  }
