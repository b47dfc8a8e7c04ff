-- The first cycle l: the turns lead round it and round its reverse, which are two sound lands. Each is walked from a dart of the cycle's first channel, and its smallest dart and length are those of the land as it is listed.
--   front, rest         of the cycle: all but its last dart, all but its first
--   blank               as many turns as t has, all missing
--   t', ls              the turns and the lands after the first cycle
-- from_first, to_last, back_last: the cycle from its first dart on, up to its last, and its reverse. close_front, close_rest, closed: what `close` asks of the functions that it calls, and what it leaves.
-- first_two: the first two lands. begin_darts, begin_cycle, begin_back, begun: what `begin` asks of the functions that it calls, and what it leaves.
-- Assumes nothing.
use mathlib.Core.Path.{◌≡◌, refl, sym, ap, ◌∙◌, subst}
use mathlib.Core.List.{List, [], ◌∷◌, ◌++◌}
use Prim.Native.Nat.{ℕ, suc, ◌+◌, ◌-◌, ◌%◌, ◌<◌, ◌≤◌}
use native.Mathlib.Nat.{not-suc-le-zero}
use native.Mathlib.Omega.{arith}
use lib.ListN.{length, get_or, set, take, drop, replicate, length-drop, length-replicate}
use lib.Seq.{take_all, take-length, take-suc}
use Rattle.rules.specs.Terms.{reverse, missing, least, listed}
use Rattle.rules.specs.Laying.{back, first, link, around}
use Rattle.laws.proofs.Counts.{count, count_head}
use Rattle.laws.proofs.Runs.{reverse_reverse, count_back, length_back, length_listed}
use Rattle.laws.proofs.Links.{length_link}
use Rattle.laws.proofs.Sound.{Sound}
use Rattle.laws.proofs.FirstCycle.{back_head, sound_cycle}
use Rattle.laws.proofs.Lists.{first_two}
use Rattle.land.specs.Walks.{land_from, lands, Below, Darts}
use Rattle.land.proofs.Walking.{reverse_inside}
use Rattle.land.proofs.Linking.{below_at, back_snoc}
use Rattle.land.proofs.Laws.{below_append, below_of, lands_are}
use Rattle.split.specs.Halves.{Renewed, Cyclic, Begun}
use Rattle.split.proofs.Rotations.{walked_short, walked_darts, walked_first}
use Rattle.split.proofs.Dividing.{darts_as, store_other, store_length}

-- ---- `close`

-- d is the first dart of the cycle l, e the reverse of its last
module _ (l : List ℕ) (h : 0 < length l) (d e : ℕ) (f : d ≡ get_or l 0 0) (g : e ≡ reverse (get_or l (length l - 1) 0)) where
  abbrev front : List ℕ
  front = take (length l - 1) l

  abbrev rest : List ℕ
  rest = take (length l - 1) (drop 1 l)

  from_first : l ≡ d ∷ rest
  from_first = go l h ∙ ap (λ (k : ℕ). k ∷ drop 1 l) (sym f) ∙ ap (λ (m : List ℕ). d ∷ m) (sym (take_all (length l - 1) (drop 1 l) (omega (arith, length-drop 1 l))))
    where
      go : (m : List ℕ) → 0 < length m → m ≡ get_or m 0 0 ∷ drop 1 m
      go [] k = absurd (not-suc-le-zero k)
      go (z ∷ m) k = refl

  to_last : l ≡ front ++ (get_or l (length l - 1) 0 ∷ [])
  to_last =
      let k : length l ≡ suc (length l - 1) = omega arith in
      sym (take-length l) ∙ ap (λ (n : ℕ). take n l) k ∙ take-suc l (length l - 1) 0 (omega arith)

  back_last : back l ≡ e ∷ back front
  back_last = ap back to_last ∙ back_snoc front (get_or l (length l - 1) 0) ∙ ap (λ (k : ℕ). k ∷ back front) (sym g)

  module _ (t : List ℕ) (p : Darts t l) where
    pub close_front : Darts t (e ∷ front) × (e < 65536)
    close_front =
        let k : e < length t = subst (λ (z : ℕ). z < length t) (sym g) (reverse_inside (length t) (get_or l (length l - 1) 0) p.even (below_at (length t) l (length l - 1) (omega arith) p.inside)) in (
          record { even = p.even; few = p.few; inside = (k, (below_append (length t) front (get_or l (length l - 1) 0 ∷ []) (subst (Below (length t)) to_last p.inside)).0) },
          omega (arith, p.few),
        )

    pub close_rest : (u : List ℕ) → length u ≡ length t → Darts u (d ∷ rest) × (d < 65536)
    close_rest u same =
        let r : Darts t (d ∷ rest) = subst (Darts t) from_first p in
        (darts_as t u (d ∷ rest) same r, omega (arith, r.inside.0, p.few))

    pub closed : (u v : List ℕ) → u ≡ link e (back front) e t → v ≡ link d rest d u → v ≡ around l (around (back l) t)
    unfolding around
    closed u v a b =
        b ∙ ap (link d rest d) (a ∙ sym (ap (λ (m : List ℕ). around m t) back_last)) ∙ sym (ap (λ (m : List ℕ). around m (around (back l) t)) from_first)

-- ---- `begin`

module _ (t fs ns l : List ℕ) (C : Cyclic t fs ns l) where
  -- every turn is missing
  abbrev blank : List ℕ
  blank = replicate (length t) missing

  abbrev t' : List ℕ
  t' = around l (around (back l) blank)

  abbrev ls : List (List ℕ)
  ls = listed l ∷ listed (back l) ∷ []

  pub begin_darts : (u : List ℕ) → u ≡ blank → Darts u l
  begin_darts u e = record {
    even = rw (ap length e ∙ length-replicate (length t) missing) C.even;
    few = omega (arith, ap length e, length-replicate (length t) missing, C.few);
    inside = rw (ap length e ∙ length-replicate (length t) missing) (below_of (length t) l C.darts);
  }

  sound : Sound t' ls × (length t' ≡ length t)
  unfolding around
  sound = go l C.some C.darts C.once
    where
      go : (m : List ℕ) → 1 ≤ length m → ((z : ℕ) → 1 ≤ count z m → z < length t) → ((z : ℕ) → count z m + count (reverse z) m ≤ 1)
          → Sound (around m (around (back m) blank)) (listed m ∷ listed (back m) ∷ []) × (length (around m (around (back m) blank)) ≡ length t)
      go [] k a b = absurd (not-suc-le-zero k)
      go (d ∷ q) k a b =
          let h = back_head d q in
          rw h.1.1 (
            sound_cycle (length t) C.few (λ z w. reverse_inside (length t) z C.even w) d q h.0 h.1.0 h.1.1 a b,
            length_link d q d _ ∙ length_link h.0 h.1.0 h.0 _ ∙ length-replicate (length t) missing,
          )

  even' : length t' % 2 ≡ 0
  even' = rw sound.1 C.even

  few' : length t' < missing
  few' = omega (arith, sound.1, C.few)

  -- d is the cycle's first dart, and the turns u are now the new ones
  module _ (d : ℕ) (f : d ≡ get_or l 0 0) (u : List ℕ) (new : u ≡ t') where
    in_cycle : 1 ≤ count d l
    in_cycle = rw f (go l C.some)
      where
        go : (m : List ℕ) → 1 ≤ length m → 1 ≤ count (get_or m 0 0) m
        go [] h = absurd (not-suc-le-zero h)
        go (e ∷ m) h = count_head e m

    in_back : 1 ≤ count (reverse d) (back l)
    in_back = omega (arith, count_back (reverse d) l, ap (λ (z : ℕ). count z l) (reverse_reverse d), in_cycle)

    pub begin_cycle : Darts u (land_from u (length l) d) × (0 < length l) × (length l < 65536)
    begin_cycle = (
      rw new (walked_darts t' ls sound.0 even' few' 0 (omega arith) l refl d in_cycle),
      omega (arith, C.some),
      omega (arith, walked_short t' ls sound.0 even' few' 0 (omega arith) l refl, few'),
    )

    pub begin_back : (e : ℕ) → e ≡ reverse d → Darts u (land_from u (length l) e)
    begin_back e g = rw (new, g, sym (length_back l)) (walked_darts t' ls sound.0 even' few' 1 (omega arith) (back l) refl (reverse d) in_back)

    first_cycle_lem : least missing (land_from u (length l) d) ≡ first (listed l)
    first_cycle_lem = rw new (walked_first t' ls sound.0 even' few' 0 (omega arith) l refl d in_cycle)

    first_back : (e : ℕ) → e ≡ reverse d → least missing (land_from u (length l) e) ≡ first (listed (back l))
    first_back e g = rw (new, g, sym (length_back l)) (walked_first t' ls sound.0 even' few' 1 (omega arith) (back l) refl (reverse d) in_back)

    module _ (e : ℕ) (g : e ≡ reverse d) (fs₁ ns₁ fs' ns' : List ℕ)
        (f₁ : fs₁ ≡ set fs 0 (least missing (land_from u (length l) d))) (g₁ : ns₁ ≡ set ns 0 (length l))
        (f₂ : fs' ≡ set fs₁ 1 (least missing (land_from u (length l) e))) (g₂ : ns' ≡ set ns₁ 1 (length l)) where
      all_firsts : fs' ≡ set (set fs 0 (first (listed l))) 1 (first (listed (back l)))
      all_firsts = f₂ ∙ rw (f₁, first_cycle_lem, first_back e g)

      all_lens : ns' ≡ set (set ns 0 (length (listed l))) 1 (length (listed (back l)))
      all_lens = g₂ ∙ ap (λ (m : List ℕ). set m 1 (length l)) (g₁ ∙ ap (set ns 0) (sym (length_listed l))) ∙ ap (set (set ns 0 (length (listed l))) 1) (sym (length_listed (back l) ∙ length_back l))

      renewed : Renewed ls 2 fs ns fs' ns'
      renewed = record {
        firsts = ap (take 2) all_firsts ∙ first_two fs (first (listed l)) (first (listed (back l))) C.starts;
        lens = ap (take 2) all_lens ∙ first_two ns (length (listed l)) (length (listed (back l))) C.sizes;
        other_firsts = ap (drop 2) all_firsts ∙ store_other fs 1 0 _ _ (omega arith);
        other_lens = ap (drop 2) all_lens ∙ store_other ns 1 0 _ _ (omega arith);
        starts = ap length all_firsts ∙ store_length fs 1 0 _ _;
        sizes = ap length all_lens ∙ store_length ns 1 0 _ _;
      }

      pub begun : Begun t fs ns l u fs' ns'
      begun = record {
        turns = new;
        lands = ap (λ (v : List ℕ). lands v fs' ns' 2) new ∙ lands_are t' fs' ns' 2 ls renewed.firsts renewed.lens sound.0;
        renewed = renewed;
      }
