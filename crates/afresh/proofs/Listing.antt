-- The loop of `gather_lands`.
--   Listed t o lo m darts lengths seen lands n d ls     the darts below d are in the lands ls; these stand in `darts`, `lengths` and the marks, the rest of the buffers is as it was, and to gather on from here gives all lands;
--       o, lo: the darts and the lengths at the start;  m: the number of marks;  lands, n: how many lands and how many darts stand in the buffers
-- length_marked, flag_marked: what marks are set. start: the invariant at the beginning. old: after a dart that is in a land. new: after one that begins one, which new_room has place for. end: what it comes to.
-- Assumes nothing.
use mathlib.Core.Path.{◌≡◌, refl, sym, ap, ◌∙◌, subst}
use mathlib.Core.Bool.{Bool, true, false, not}
use mathlib.Core.List.{List, [], ◌∷◌, ◌++◌, map, append_assoc, append-nil}
use Prim.Native.Nat.{ℕ, suc, ◌+◌, ◌-◌, ◌*◌, ◌≤◌, ◌<◌}
use native.Mathlib.Numerals.{add-one}
use native.Mathlib.Nat.{not-suc-le-zero}
use native.Mathlib.Omega.{arith}
use lib.Dec.{T, not_T}
use lib.ListN.{length, get_or, take, drop, set, length-append, length-set, length-map, length-drop}
use lib.Seq.{take_at, drop-append-add, drop-drop, drop-cons, set_at, append_snoc}
use Rattle.rules.specs.Lists.{from, at, concat}
use Rattle.rules.specs.Terms.{gather, lands_of}
use Rattle.laws.proofs.Counts.{flag, flag_T, is_self, count}
use Rattle.laws.proofs.Sound.{count_all, count_snoc}
use Rattle.laws.proofs.Permuting.{Permuting, land_of}
use Rattle.laws.proofs.Gathering.{Gathered, gathered_none, gathered_old, gathered_new, gathered_room, gathered_few, lands_gathered, gather_old, gather_new, gather_over, dart_laid}
use Rattle.reach.proofs.Meeting.{flag_set}
use Rattle.afresh.specs.Marks.{marked}

-- ---- marks

pub length_marked : (l : List ℕ) (s : List Bool) → length (marked l s) ≡ length s
unfolding marked
length_marked [] s = refl
length_marked (d ∷ l) s = length_marked l (set s d true) ∙ length-set s d true

pub flag_marked : (l : List ℕ) (s : List Bool) → ((z : ℕ) → 1 ≤ count z l → z < length s) → ((z : ℕ) → flag (at s z) + count z l ≤ 1)
    → (z : ℕ) → flag (at (marked l s) z) ≡ flag (at s z) + count z l
unfolding marked count
flag_marked [] s h k z = omega arith
flag_marked (d ∷ l) s h k z =
    let b : d < length s = h d (omega (arith, is_self d)) in
    let free : T (not (at s d)) = not_T (at s d) (λ t. not-suc-le-zero {n = 0} (omega (arith, flag_T (at s d) t, k d, is_self d))) in
    omega (
      arith,
      flag_set s d z b free,
      flag_marked l (set s d true) (λ y i. omega (arith, length-set s d true, h y (omega arith))) (λ y. omega (arith, flag_set s d y b free, k y)) z,
    )

-- ---- lists put together

concat_snoc : (ls : List (List ℕ)) (l : List ℕ) → concat (ls ++ (l ∷ [])) ≡ concat ls ++ l
unfolding concat
concat_snoc [] l = append-nil l
concat_snoc (m ∷ ls) l = ap (λ (r : List ℕ). m ++ r) (concat_snoc ls l) ∙ sym (append_assoc m (concat ls) l)

map_snoc : (ls : List (List ℕ)) (l : List ℕ) → map length (ls ++ (l ∷ [])) ≡ map length ls ++ (length l ∷ [])
map_snoc [] l = refl
map_snoc (m ∷ ls) l = ap (λ (r : List ℕ). length m ∷ r) (map_snoc ls l)

length_snoc : (ls : List (List ℕ)) (l : List ℕ) → length (ls ++ (l ∷ [])) ≡ length ls + 1
length_snoc ls l = length-append ls (l ∷ [])

-- the darts of one land more
put_more : (c o w : List ℕ) → take (length c) (c ++ drop (length c) o) ++ w ++ drop (length c + length w) (c ++ drop (length c) o) ≡ (c ++ w) ++ drop (length (c ++ w)) o
put_more c o w =
    rw (take_at c (drop (length c) o) (length c) refl, drop-append-add c (drop (length c) o) (length w), drop-drop (length w) (length c) o, length-append c w)

-- one length more
size_more : (ms lo : List ℕ) (x : ℕ) → length ms < length lo → set (ms ++ drop (length ms) lo) (length ms) x ≡ (ms ++ (x ∷ [])) ++ drop (length ms + 1) lo
size_more ms lo x h =
    rw (drop-cons lo (length ms) 0 h, set_at ms (get_or lo (length ms) 0) (drop (suc (length ms)) lo) x (length ms) refl, add-one) (sym (append_snoc ms x (drop (suc (length ms)) lo)))

-- ---- the loop

pub record Listed (t o lo : List ℕ) (m : ℕ) (darts lengths : List ℕ) (seen : List Bool) (lands n d : ℕ) (ls : List (List ℕ)) : Type 0 where
  pub most : d ≤ length t
  pub rest : gather t (from d (length t - d)) ls ≡ lands_of t
  pub gathered : Gathered t d ls
  pub number : lands ≡ length ls
  pub end_at : n ≡ length (concat ls)
  pub put : darts ≡ concat ls ++ drop (length (concat ls)) o
  pub sizes : lengths ≡ map length ls ++ drop (length ls) lo
  pub marks : (z : ℕ) → flag (at seen z) ≡ count_all z ls
  pub darts_long : length darts ≡ length o
  pub lengths_long : length lengths ≡ length lo
  pub seen_long : length seen ≡ m

module _ (t o lo : List ℕ) (m : ℕ) where
  pub start : (seen : List Bool) → length seen ≡ m → ((z : ℕ) → at seen z ≡ false) → Listed t o lo m o lo seen 0 0 0 []
  unfolding lands_of concat count_all
  start seen e h = record {
    most = omega arith;
    rest = let z : length t - 0 ≡ length t = omega arith in ap (λ (k : ℕ). gather t (from 0 k) []) z;
    gathered = gathered_none t;
    number = refl;
    end_at = refl;
    put = refl;
    sizes = refl;
    marks = λ z. ap flag (h z);
    darts_long = refl;
    lengths_long = refl;
    seen_long = e;
  }

  module _ (w : Permuting t) (darts lengths : List ℕ) (seen : List Bool) (lands n d : ℕ) (ls : List (List ℕ)) (g : Listed t o lo m darts lengths seen lands n d ls) (b : d < length t) where
    pub old : at seen d ≡ true → Listed t o lo m darts lengths seen lands n (d + 1) ls
    old e =
        let h : 1 ≤ count_all d ls = omega (arith, g.marks d, ap flag e) in
        record {
          most = omega arith;
          rest = sym (gather_old t d (length t) ls b h) ∙ g.rest;
          gathered = gathered_old t w d ls g.gathered h;
          number = g.number;
          end_at = g.end_at;
          put = g.put;
          sizes = g.sizes;
          marks = g.marks;
          darts_long = g.darts_long;
          lengths_long = g.lengths_long;
          seen_long = g.seen_long;
        }

    module _ (e : at seen d ≡ false) where
      none : count_all d ls ≡ 0
      none = sym (g.marks d) ∙ ap flag e

      more : Gathered t (d + 1) (ls ++ (land_of t d ∷ []))
      more = gathered_new t w d ls g.gathered b none

      -- there is place for the land, and for its length
      pub new_room : n + length (land_of t d) ≤ length t
      new_room = omega (arith, g.end_at, gathered_room t (d + 1) (ls ++ (land_of t d ∷ [])) more, ap length (concat_snoc ls (land_of t d)), length-append (concat ls) (land_of t d))

      pub new_few : 2 * (lands + 1) ≤ length t
      new_few = omega (arith, g.number, gathered_few t (d + 1) (ls ++ (land_of t d ∷ [])) more, length_snoc ls (land_of t d))

      pub new : length t ≤ length o → length t ≤ 2 * length lo → length t ≤ m
          → (end x : ℕ) (darts' : List ℕ) (seen' : List Bool) → end ≡ n + length (land_of t d) → darts' ≡ take n darts ++ land_of t d ++ drop (n + length (land_of t d)) darts → seen' ≡ marked (land_of t d) seen → x ≡ end - n
          → Listed t o lo m darts' (set lengths lands x) seen' (lands + 1) end (d + 1) (ls ++ (land_of t d ∷ []))
      new ho hl hm end x darts' seen' pe pd ps px =
          let l = land_of t d in
          record {
            most = omega arith;
            rest = sym (gather_new t d (length t) ls b (dart_laid t w d b) none) ∙ g.rest;
            gathered = more;
            number = omega (arith, g.number, length_snoc ls l);
            end_at = omega (arith, g.end_at, ap length (concat_snoc ls l), length-append (concat ls) l);
            put = put;
            sizes =
                ap (λ (k : List ℕ). set k lands x) g.sizes
                ∙ ap (λ (k : ℕ). set (map length ls ++ drop (length ls) lo) k x) g.number
                ∙ ap (λ (k : ℕ). set (map length ls ++ drop k lo) k x) (sym (length-map ls length))
                ∙ size_more (map length ls) lo x (omega (arith, length-map ls length, new_few, g.number))
                ∙ ap (λ (k : ℕ). (map length ls ++ (k ∷ [])) ++ drop (length (map length ls) + 1) lo) size
                ∙ ap (λ (k : ℕ). (map length ls ++ (length l ∷ [])) ++ drop k lo) longer
                ∙ ap (λ (k : List ℕ). k ++ drop (length (ls ++ (l ∷ []))) lo) (sym (map_snoc ls l));
            marks = λ z. ap (λ (s : List Bool). flag (at s z)) ps ∙ flag_marked l seen (λ y k. omega (arith, g.seen_long, inside y k)) once z ∙ omega (arith, g.marks z, count_snoc z ls l);
            darts_long = ap length put ∙ room;
            lengths_long = length-set lengths lands x ∙ g.lengths_long;
            seen_long = ap length ps ∙ length_marked l seen ∙ g.seen_long;
          }
        where
          longer : length (map length ls) + 1 ≡ length (ls ++ (land_of t d ∷ []))
          longer = omega (arith, length-map ls length, length_snoc ls (land_of t d))

          size : x ≡ length (land_of t d)
          size = omega arith

          put : darts' ≡ concat (ls ++ (land_of t d ∷ [])) ++ drop (length (concat (ls ++ (land_of t d ∷ [])))) o
          put =
              pd
              ∙ ap (λ (k : List ℕ). take n k ++ land_of t d ++ drop (n + length (land_of t d)) k) g.put
              ∙ ap (λ (k : ℕ). take k (concat ls ++ drop (length (concat ls)) o) ++ land_of t d ++ drop (k + length (land_of t d)) (concat ls ++ drop (length (concat ls)) o)) g.end_at
              ∙ put_more (concat ls) o (land_of t d)
              ∙ ap (λ (k : List ℕ). k ++ drop (length k) o) (sym (concat_snoc ls (land_of t d)))

          room : length (concat (ls ++ (land_of t d ∷ [])) ++ drop (length (concat (ls ++ (land_of t d ∷ [])))) o) ≡ length o
          room = simp (length-append, length-drop) (omega (arith, gathered_room t (d + 1) (ls ++ (land_of t d ∷ [])) more))

          once : (z : ℕ) → flag (at seen z) + count z (land_of t d) ≤ 1
          once z = omega (arith, g.marks z, count_snoc z ls (land_of t d), more.once z)

          inside : (z : ℕ) → 1 ≤ count z (land_of t d) → z < m
          inside z k = omega (arith, more.inside z (omega (arith, count_snoc z ls (land_of t d))))

  module _ (darts lengths : List ℕ) (seen : List Bool) (lands n d : ℕ) (ls : List (List ℕ)) (g : Listed t o lo m darts lengths seen lands n d ls) (b : length t ≤ d) where
    all : ls ≡ lands_of t
    all = sym (gather_over t d (length t) ls b) ∙ g.rest

    pub end : (lands ≡ length (lands_of t)) × (darts ≡ concat (lands_of t) ++ drop (length t) o) × (lengths ≡ map length (lands_of t) ++ drop (length (lands_of t)) lo)
    end = (
      g.number ∙ ap length all,
      g.put ∙ ap (λ (k : ℕ). concat ls ++ drop k o) total ∙ ap (λ (k : List (List ℕ)). concat k ++ drop (length t) o) all,
      g.sizes ∙ ap (λ (k : List (List ℕ)). map length k ++ drop (length k) lo) all,
    )
      where
        total : length (concat ls) ≡ length t
        total = (lands_gathered t ls (subst (λ (k : ℕ). Gathered t k ls) (omega (arith, g.most)) g.gathered)).total
