-- How much of a file its listing depends on: a file that is longer than any plate's is refused by its first bytes as by all.
--   enough         a byte more than the longest plate file has
--   head_tests b    tests 2 to 5, and then 6
-- long_refused: a file with so many bytes is refused by these tests alone. listing_enough: the listing of a file is that of its first so many bytes.
-- Assumes nothing.
use mathlib.Core.Path.{◌≡◌, refl, sym, ap, ◌∙◌, subst}
use mathlib.Core.Bool.{Bool, true, false, not}
use mathlib.Core.List.{List}
use Prim.Native.Nat.{ℕ, ◌+◌, ◌*◌, ◌<◌, ◌≤◌}
use native.Mathlib.Omega.{arith}
use native.Mathlib.Decide.{dec_lt}
use lib.Dec.{T}
use lib.ListN.{length, get_or, take}
use lib.Seq.{get_or-take, length-take-le, take_all}
use borrow.Author.Tests.{le-ltb}
use Rattle.rules.specs.Lists.{from, all, number}
use Rattle.rules.specs.Files.{limits1, plate_file, ports_in, channels_in, pairs_at, file_length}
use Rattle.rules.specs.Refusals.{Answer, refused, Test, ◌>>◌, refuse, short, other_mark, other_version, mark_tests, outside, other_length, count_tests, file_tests, Plate, read_plate}
use Rattle.rules.specs.Listing.{listing_of, listing}
use Rattle.laws.proofs.Tests.{eqb_no}
use Rattle.laws.proofs.Refusals.{outside_not}
use Rattle.plate.proofs.Laws.{number_one, number_two, length_plate}

abbrev pub enough : ℕ
enough = 8 + 2 * limits1.most_channels + 1

-- ---- a file with so many bytes

abbrev pub head_tests : List ℕ → Answer Plate
head_tests b = refuse 2 (other_mark plate_file b) >> refuse 3 (other_version plate_file b) >> refuse 4 (outside 3 200 (ports_in plate_file b)) >> refuse 5 (outside 3 600 (channels_in plate_file b)) >> refused 6 0

-- where test 1 passes, and test 6 refuses what test 5 passes, no later test counts
stops : (s m w p q l : Bool) → s ≡ false → (q ≡ false → l ≡ true) → (more : Test) (rest : Answer Plate)
    → (((refuse 1 s >> refuse 2 m >> refuse 3 w) >> (refuse 4 p >> refuse 5 q >> refuse 6 l) >> more) >> rest) ≡ (refuse 2 m >> refuse 3 w >> refuse 4 p >> refuse 5 q >> refused 6 0)
unfolding refuse
stops s true w p q l e h more rest = rw e refl
stops s false true p q l e h more rest = rw e refl
stops s false false true q l e h more rest = rw e refl
stops s false false false true l e h more rest = rw e refl
stops s false false false false l e h more rest = rw (e, h refl) refl

other_length_lem : (b : List ℕ) → enough ≤ length b → outside 3 600 (channels_in plate_file b) ≡ false → other_length plate_file b ≡ true
unfolding other_length
other_length_lem b h e =
    let few = outside_not 3 600 (channels_in plate_file b) (subst (λ (x : Bool). T (not x)) (sym e) tt) in
    ap not (eqb_no (length b) (file_length plate_file (channels_in plate_file b)) (λ z. absurd (omega (arith, z, length_plate (channels_in plate_file b), few.1))))

not_short : (b : List ℕ) → enough ≤ length b → short plate_file b ≡ false
unfolding short pairs_at
not_short b h = le-ltb (length b) 8 (omega arith)

pub long_refused : (b : List ℕ) → enough ≤ length b → read_plate b ≡ head_tests b
unfolding read_plate file_tests mark_tests count_tests
long_refused b h = stops (short plate_file b) (other_mark plate_file b) (other_version plate_file b) (outside 3 200 (ports_in plate_file b)) (outside 3 600 (channels_in plate_file b)) (other_length plate_file b) (not_short b h) (other_length_lem b h) _ _

-- ---- the first bytes

module _ (b : List ℕ) where
  abbrev front : List ℕ
  front = take enough b

  byte : (i : ℕ) → i < enough → get_or front i 0 ≡ get_or b i 0
  byte i h = get_or-take enough b i 0 h

  mark_same : other_mark plate_file front ≡ other_mark plate_file b
  unfolding other_mark all from
  mark_same = rw (byte 0 (omega arith), byte 1 (omega arith), byte 2 (omega arith)) refl

  two_same : (i : ℕ) → i < 1208 → number 2 i front ≡ number 2 i b
  two_same i h = number_two i front ∙ ap (λ (x : ℕ). x + 256 * get_or front (i + 1) 0) (byte i (omega arith)) ∙ ap (λ (x : ℕ). get_or b i 0 + 256 * x) (byte (i + 1) (omega arith)) ∙ sym (number_two i b)

  version_same : other_version plate_file front ≡ other_version plate_file b
  unfolding other_version
  version_same = rw (two_same 3 (omega arith)) refl

  ports_same : ports_in plate_file front ≡ ports_in plate_file b
  unfolding ports_in
  ports_same = number_one 5 front ∙ byte 5 (omega arith) ∙ sym (number_one 5 b)

  channels_same : channels_in plate_file front ≡ channels_in plate_file b
  unfolding channels_in
  channels_same = two_same 6 (omega arith)

  head_same : head_tests front ≡ head_tests b
  head_same = rw (mark_same, version_same, ports_same, channels_same) refl

  read_enough : read_plate front ≡ read_plate b
  read_enough = go (dec_lt enough (length b))
    where
      go : Dec (enough < length b) → read_plate front ≡ read_plate b
      go (yes l) = long_refused front (omega (arith, length-take-le enough b (omega arith))) ∙ head_same ∙ sym (long_refused b (omega arith))
      go (no l) = ap read_plate (take_all enough b (omega arith))

  pub listing_enough : listing (take enough b) ≡ listing b
  unfolding listing
  listing_enough = ap listing_of read_enough
