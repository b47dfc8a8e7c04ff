-- A land that is divided by a path: the new turns and lands are sound, so each of the two new lands is walked from the first dart of its stretch, and its smallest dart and its length are those of the land as it is listed.
--   ls, l, a, b         the lands, the one that is divided, its stretches A and B
--   t', ls'             the turns and the lands of the split
--   t₁                  the turns that `turn` leaves
-- firsts_are, lens_are: the first darts and lengths of lands are those that they are walked by. store_two, store_other, store_length: one land replaced and one added. darts_as: turns of the same length. first_in, last_of: the ends of a stretch are in it.
-- kept, made: the path and then B keeps the land's number; the path reversed and then A is the next land. divide_land, divide_corners, divide_ends, divide_kept, divide_made: what `divide` asks of the functions that it calls. divided: what it leaves.
-- Assumes nothing.
use mathlib.Core.Path.{◌≡◌, refl, sym, ap, ◌∙◌, subst}
use mathlib.Core.List.{List, [], ◌∷◌, ◌++◌, map}
use Prim.Native.Nat.{ℕ, zero, suc, ◌+◌, ◌%◌, ◌<◌, ◌≤◌}
use native.Mathlib.Nat.{not-suc-le-zero}
use native.Mathlib.Numerals.{add-one}
use native.Mathlib.Omega.{arith}
use lib.ListN.{length, get_or, set, take, drop, length-append, length-set, get_or-append}
use lib.Seq.{length-take-le, get_or-set_same, get_or_at, take-suc-set, take-set-lt, drop-set-lt}
use Rattle.rules.specs.Terms.{missing, laid, least, listed}
use Rattle.rules.specs.Laying.{back, first, last, link, split_turns, split_lands}
use Rattle.laws.proofs.Counts.{T_flag, count, count_head, count_append}
use Rattle.laws.proofs.Lists.{All}
use Rattle.laws.proofs.Runs.{Land, length_back, length_listed, last_in_lem}
use Rattle.laws.proofs.Links.{laid_lt}
use Rattle.laws.proofs.Split.{before_since, length_split}
use Rattle.laws.proofs.Sound.{all_at, count_at, Sound, sound_split}
use Rattle.land.specs.Walks.{land_from, lands_along, lands, Darts}
use Rattle.land.proofs.Walking.{reverse_inside}
use Rattle.land.proofs.Laws.{length_from, length_lands, land_at, below_of, lands_are}
use Rattle.split.specs.declared.Stretch.{Stretch}
use Rattle.split.specs.Halves.{from_port, stretch_a, stretch_b, IsStretch, Renewed, Divisible, new_turns, new_lands, Divided}
use Rattle.split.proofs.Rotations.{walked_short, walked_darts, walked_first}
use Rattle.split.proofs.Stretching.{Corners, stretch_same, stretch_land, stretch_a_lem, stretch_b_lem, stretch_cut, some_a, some_b}

-- ---- lands by first darts and lengths

pub firsts_are : (t fs ns : List ℕ) → length fs ≡ length ns → All (Land t) (lands_along t fs ns) → map first (lands_along t fs ns) ≡ fs
unfolding lands_along land_from first
firsts_are t [] ns e a = refl
firsts_are t (d ∷ fs) [] e a = absurd (not-suc-le-zero {n = 0} (omega arith))
firsts_are t (d ∷ fs) (n ∷ ns) e a = ap (λ (z : ℕ). z ∷ map first (lands_along t fs ns)) (go n a.0) ∙ ap (λ (m : List ℕ). d ∷ m) (firsts_are t fs ns (omega arith) a.1)
  where
    go : (k : ℕ) → Land t (land_from t k d) → first (land_from t k d) ≡ d
    go zero h = absurd h
    go (suc k) h = refl

pub lens_are : (t fs ns : List ℕ) → length fs ≡ length ns → map length (lands_along t fs ns) ≡ ns
unfolding lands_along
lens_are t [] [] e = refl
lens_are t [] (n ∷ ns) e = absurd (not-suc-le-zero {n = 0} (omega arith))
lens_are t (d ∷ fs) [] e = absurd (not-suc-le-zero {n = 0} (omega arith))
lens_are t (d ∷ fs) (n ∷ ns) e = ap (λ (z : ℕ). z ∷ map length (lands_along t fs ns)) (length_from t n d) ∙ ap (λ (m : List ℕ). n ∷ m) (lens_are t fs ns (omega arith))

map_set : (f : List ℕ → ℕ) (ls : List (List ℕ)) (i : ℕ) (u : List ℕ) → map f (set ls i u) ≡ set (map f ls) i (f u)
map_set f [] i u = refl
map_set f (l ∷ ls) zero u = refl
map_set f (l ∷ ls) (suc i) u = ap (λ (m : List ℕ). f l ∷ m) (map_set f ls i u)

map_snoc : (f : List ℕ → ℕ) (ls : List (List ℕ)) (v : List ℕ) → map f (ls ++ (v ∷ [])) ≡ map f ls ++ (f v ∷ [])
map_snoc f [] v = refl
map_snoc f (l ∷ ls) v = ap (λ (m : List ℕ). f l ∷ m) (map_snoc f ls v)

-- one land is replaced and one is added
pub store_two : (f : List ℕ → ℕ) (ls : List (List ℕ)) (fs : List ℕ) (n i : ℕ) (u v : List ℕ) → take n fs ≡ map f ls → i < n → n < length fs
    → take (n + 1) (set (set fs i (f u)) n (f v)) ≡ map f (set ls i u ++ (v ∷ []))
store_two f ls fs n i u v e h k =
    ap (λ (j : ℕ). take j (set (set fs i (f u)) n (f v))) (add-one n)
    ∙ take-suc-set (set fs i (f u)) n (f v) (omega (arith, length-set fs i (f u)))
    ∙ ap (λ (m : List ℕ). m ++ (f v ∷ [])) (take-set-lt n fs i (f u) h ∙ ap (λ (m : List ℕ). set m i (f u)) e ∙ sym (map_set f ls i u))
    ∙ sym (map_snoc f (set ls i u) v)

pub store_other : (fs : List ℕ) (n i u v : ℕ) → i < n → drop (n + 1) (set (set fs i u) n v) ≡ drop (n + 1) fs
store_other fs n i u v h = drop-set-lt (n + 1) (set fs i u) n v (omega arith) ∙ drop-set-lt (n + 1) fs i u (omega arith)

pub store_length : (fs : List ℕ) (n i u v : ℕ) → length (set (set fs i u) n v) ≡ length fs
store_length fs n i u v = length-set (set fs i u) n v ∙ length-set fs i u

-- turns of the same length
pub darts_as : (t u l : List ℕ) → length u ≡ length t → Darts t l → Darts u l
darts_as t u l e p = record { even = rw e p.even; few = omega (arith, p.few); inside = rw e p.inside }

-- the first dart of a stretch is one of its darts, and so is the last
pub first_in : (m : List ℕ) → 1 ≤ length m → 1 ≤ count (first m) m
unfolding first
first_in [] h = absurd (not-suc-le-zero h)
first_in (d ∷ m) h = count_head d m

pub last_of : (m : List ℕ) → 1 ≤ length m → 1 ≤ count (last m) m
last_of [] h = absurd (not-suc-le-zero h)
last_of (d ∷ m) h = last_in_lem d m

-- ---- the land that is divided

module _ (ends t fs ns : List ℕ) (n i x y : ℕ) (q : List ℕ) (D : Divisible ends t fs ns n i x y q) where
  abbrev ls : List (List ℕ)
  ls = lands t fs ns n

  abbrev l : List ℕ
  l = get_or ls i []

  abbrev a : List ℕ
  a = stretch_a ends x y l

  abbrev b : List ℕ
  b = stretch_b ends x y l

  abbrev t' : List ℕ
  t' = new_turns ends t fs ns n i x y q

  abbrev ls' : List (List ℕ)
  ls' = new_lands ends t fs ns n i x y q

  starts : n ≤ length fs
  starts = omega (arith, D.starts)

  sizes : n ≤ length ns
  sizes = omega (arith, D.sizes)

  many : length ls ≡ n
  many = length_lands t fs ns n starts sizes

  number : i < length ls
  number = omega (arith, many, D.land)

  corners : Corners ends t l x y
  corners = record { land = all_at (Land t) ls i number D.sound.follow; apart = D.apart; visits_x = D.visits_x; visits_y = D.visits_y }

  dart : (z : ℕ) → 1 ≤ count z l → z < length t
  dart z k = laid_lt t z (T_flag (laid t z) (omega (arith, count_at z ls i, D.sound.cover z)))

  -- the land as it is walked
  pub divide_land : (d m : ℕ) → d ≡ get_or fs i 0 → m ≡ get_or ns i 0 → l ≡ land_from t m d
  divide_land d m f g = land_at t fs ns n i starts sizes D.land ∙ ap (λ (k : ℕ). land_from t k (get_or fs i 0)) (sym g) ∙ ap (land_from t m) (sym f)

  pub divide_corners : (d m : ℕ) → d ≡ get_or fs i 0 → m ≡ get_or ns i 0 → Corners ends t (land_from t m d) x y × Darts t (land_from t m d)
  divide_corners d m f g =
      subst (λ (k : List ℕ). Corners ends t k x y × Darts t k) (divide_land d m f g)
      (corners, record { even = D.even; few = omega (arith, D.few); inside = below_of (length t) l dart })

  -- the turns and lands afterwards
  sound : Sound t' ls'
  sound =
      let A = stretch_a_lem ends t l x y corners in
      let B = stretch_b_lem ends t l x y corners in
      let cut = stretch_cut ends t l x y corners in
      rw (A.1.1, B.1.1)
      (sound_split t ls D.sound D.few (λ z h. reverse_inside (length t) z D.even h) i number A.0 A.1.0 B.0 B.1.0 q
      (subst (Land t) cut (stretch_land ends t l x y corners)) (λ z. sym (ap (count z) cut) ∙ sym (stretch_same ends t l x y corners z)) D.fresh D.once)

  long : length t' ≡ length t
  long = length_split a b q t

  lands' : ls' ≡ set ls i (listed (q ++ b)) ++ (listed (back q ++ a) ∷ [])
  unfolding split_lands
  lands' = refl

  many' : length ls' ≡ n + 1
  many' = ap length lands' ∙ omega (arith, length-append (set ls i (listed (q ++ b))) (listed (back q ++ a) ∷ []), length-set ls i (listed (q ++ b)), many)

  kept : get_or ls' i [] ≡ listed (q ++ b)
  kept =
      ap (λ (m : List (List ℕ)). get_or m i []) lands'
      ∙ get_or-append (set ls i (listed (q ++ b))) (listed (back q ++ a) ∷ []) [] i (omega (arith, length-set ls i (listed (q ++ b)), number))
      ∙ get_or-set_same ls i (listed (q ++ b)) [] number

  made : get_or ls' n [] ≡ listed (back q ++ a)
  made =
      ap (λ (m : List (List ℕ)). get_or m n []) lands'
      ∙ get_or_at (set ls i (listed (q ++ b))) (listed (back q ++ a)) [] [] n (length-set ls i (listed (q ++ b)) ∙ many)

  module _ (r s : Stretch) (R : IsStretch a r) (S : IsStretch b s) where
    abbrev t₁ : List ℕ
    t₁ = link s.last q s.first (link r.last (back q) r.first t)

    turns : t₁ ≡ t'
    unfolding split_turns
    turns = rw (R.first, R.last, S.first, S.last)

    -- `turn`
    pub divide_ends : (Darts t (r.last ∷ q) × (r.first < 65536)) × (Darts t (s.last ∷ q) × (s.first < 65536))
    divide_ends = (end_darts a r R (some_a ends t l x y corners) (λ z. omega (arith, in_land z)), end_darts b s S (some_b ends t l x y corners) (λ z. omega (arith, in_land z)))
      where
        in_land : (z : ℕ) → count z l ≡ count z a + count z b
        in_land z = stretch_same ends t l x y corners z ∙ sym (ap (count z) (before_since ends y (from_port ends x l))) ∙ count_append z a b

        end_darts : (m : List ℕ) (e : Stretch) → IsStretch m e → 1 ≤ length m → ((z : ℕ) → count z m ≤ count z l) → Darts t (e.last ∷ q) × (e.first < 65536)
        end_darts m e E k h = (
          record {
            even = D.even;
            few = omega (arith, D.few);
            inside = (omega (arith, E.last, dart (last m) (omega (arith, h (last m), last_of m k))), below_of (length t) q (λ z w. (D.fresh z w).1));
          },
          omega (arith, E.first, D.few, dart (first m) (omega (arith, h (first m), first_in m k))),
        )

    size_kept : length q + s.size ≡ length (q ++ b)
    size_kept = omega (arith, length-append q b, S.size)

    in_kept : 1 ≤ count s.first (q ++ b)
    in_kept = rw S.first (omega (arith, count_append (first b) q b, first_in b (some_b ends t l x y corners)))

    size_made : length q + r.size ≡ length (back q ++ a)
    size_made = omega (arith, length-append (back q) a, length_back q, R.size)

    in_made : 1 ≤ count r.first (back q ++ a)
    in_made = rw R.first (omega (arith, count_append (first a) (back q) a, first_in a (some_a ends t l x y corners)))

    -- `renew`: the turns u are now the new ones
    module _ (u : List ℕ) (g : u ≡ t₁) where
      even' : length t' % 2 ≡ 0
      even' = rw long D.even

      few' : length t' < missing
      few' = omega (arith, long, D.few)

      new : u ≡ t'
      new = g ∙ turns

      at_kept : i < length ls'
      at_kept = omega (arith, many', D.land)

      at_made : n < length ls'
      at_made = omega (arith, many')

      pub divide_kept : Darts u (land_from u (length q + s.size) s.first) × (0 < length q + s.size) × (length q + s.size < 65536)
      divide_kept = (
        rw (new, size_kept) (walked_darts t' ls' sound even' few' i at_kept (q ++ b) kept s.first in_kept),
        omega (arith, D.some),
        omega (arith, size_kept, walked_short t' ls' sound even' few' i at_kept (q ++ b) kept, few'),
      )

      pub divide_made : Darts u (land_from u (length q + r.size) r.first) × (0 < length q + r.size) × (length q + r.size < 65536)
      divide_made = (
        rw (new, size_made) (walked_darts t' ls' sound even' few' n at_made (back q ++ a) made r.first in_made),
        omega (arith, D.some),
        omega (arith, size_made, walked_short t' ls' sound even' few' n at_made (back q ++ a) made, few'),
      )

      first_kept : least missing (land_from u (length q + s.size) s.first) ≡ first (listed (q ++ b))
      first_kept = rw (new, size_kept) (walked_first t' ls' sound even' few' i at_kept (q ++ b) kept s.first in_kept)

      first_made : least missing (land_from u (length q + r.size) r.first) ≡ first (listed (back q ++ a))
      first_made = rw (new, size_made) (walked_first t' ls' sound even' few' n at_made (back q ++ a) made r.first in_made)

      -- the first darts and lengths as they were
      same_long : length (take n fs) ≡ length (take n ns)
      same_long = length-take-le n fs starts ∙ sym (length-take-le n ns sizes)

      old_firsts : take n fs ≡ map first ls
      old_firsts = sym (firsts_are t (take n fs) (take n ns) same_long D.sound.follow)

      old_lens : take n ns ≡ map length ls
      old_lens = sym (lens_are t (take n fs) (take n ns) same_long)

      module _ (fs₁ ns₁ fs' ns' : List ℕ)
          (f₁ : fs₁ ≡ set fs i (least missing (land_from u (length q + s.size) s.first))) (g₁ : ns₁ ≡ set ns i (length q + s.size))
          (f₂ : fs' ≡ set fs₁ n (least missing (land_from u (length q + r.size) r.first))) (g₂ : ns' ≡ set ns₁ n (length q + r.size)) where
        all_firsts : fs' ≡ set (set fs i (first (listed (q ++ b)))) n (first (listed (back q ++ a)))
        all_firsts = f₂ ∙ rw (f₁, first_kept, first_made)

        all_lens : ns' ≡ set (set ns i (length (listed (q ++ b)))) n (length (listed (back q ++ a)))
        all_lens = g₂ ∙ rw (g₁, size_kept ∙ sym (length_listed (q ++ b)), size_made ∙ sym (length_listed (back q ++ a)))

        renewed : Renewed ls' (n + 1) fs ns fs' ns'
        unfolding split_lands
        renewed = record {
          firsts = ap (take (n + 1)) all_firsts ∙ store_two first ls fs n i (listed (q ++ b)) (listed (back q ++ a)) old_firsts D.land D.starts;
          lens = ap (take (n + 1)) all_lens ∙ store_two length ls ns n i (listed (q ++ b)) (listed (back q ++ a)) old_lens D.land D.sizes;
          other_firsts = ap (drop (n + 1)) all_firsts ∙ store_other fs n i _ _ D.land;
          other_lens = ap (drop (n + 1)) all_lens ∙ store_other ns n i _ _ D.land;
          starts = ap length all_firsts ∙ store_length fs n i _ _;
          sizes = ap length all_lens ∙ store_length ns n i _ _;
        }

        pub divided : Divided ends t fs ns n i x y q u fs' ns'
        divided = record {
          turns = new;
          lands = ap (λ (v : List ℕ). lands v fs' ns' (n + 1)) new ∙ lands_are t' fs' ns' (n + 1) ls' renewed.firsts renewed.lens sound;
          renewed = renewed;
        }
