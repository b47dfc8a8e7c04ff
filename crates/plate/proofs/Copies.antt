-- The ports of a file's pairs, copied into the front of an array (specs, `copied`).
-- copy_on: a loop that copies takes one port more.
-- had_all, ends_front: the pairs that a file has, copied, and the front of the copy. pair_tests_as, piece_tests_as: the tests of that front.
-- tested_pairs, tested_whole: what passing tests 1 to 9 guarantees for it. sheet_pairs, sheet_front: the same of a turn sheet that passed them, and the front of the copy of its pairs.
-- Assumes nothing.
use mathlib.Core.Path.{◌≡◌, refl, sym, ap, ◌∙◌}
use mathlib.Core.Bool.{true}
use mathlib.Core.List.{List, ◌++◌}
use Prim.Native.Nat.{ℕ, suc, ◌+◌, ◌-◌, ◌*◌, ◌/◌, ◌<◌, ◌≤◌}
use native.Mathlib.Numerals.{add-one}
use native.Mathlib.Omega.{arith}
use lib.ListN.{length, take, drop, get_or, set, replicate}
use lib.Seq.{drop-cons, set_at, length-take-le, take-suc, append_snoc}
use Rattle.rules.specs.Files.{plate_file, sheet_file, ports_in, channels_in, ends_in, pairs_at, turns_at}
use Rattle.rules.specs.Refusals.{passed, pair_tests, file_tests, piece_tests}
use Rattle.laws.proofs.Refusals.{file_tests_passed, length_ends}
use Rattle.plate.specs.State.{most_darts, no_ends, copied, ends_had, Whole}
use Rattle.plate.proofs.Laws.{length_plate, length_sheet, sheet_channels, sheet_ends, ends_part, copied_front, length_no_ends}

pub copy_on : (from old to : List ℕ) (i : ℕ) → i < length from → i < length old → to ≡ take i from ++ drop i old
    → set to i (get_or from i 0) ≡ take (i + 1) from ++ drop (i + 1) old
copy_on from old to i h g e =
    rw (e, drop-cons old i 0 g, set_at (take i from) (get_or old i 0) (drop (suc i) old) (get_or from i 0) i (length-take-le i from (omega arith)), add-one, take-suc from i 0 h)
    (sym (append_snoc (take i from) (get_or from i 0) (drop (suc i) old)))

-- a file that is long enough has all its pairs
pub had_all : (b : List ℕ) → 8 + 2 * channels_in plate_file b ≤ length b → ends_had b ≡ ends_in plate_file b
unfolding ends_had turns_at pairs_at
had_all b h =
    let n : 8 + 2 * channels_in plate_file b * 1 - 8 ≡ 2 * channels_in plate_file b = omega arith in
    ap (λ m. take m (drop 8 b)) n ∙ sym (ends_part b h)

module _ (b : List ℕ) (e : ℕ) (p : e ≡ channels_in plate_file b) where
  pub ends_front : (ends : List ℕ) → 2 * channels_in plate_file b ≤ most_darts → 8 + 2 * channels_in plate_file b ≤ length b → ends ≡ copied (ends_had b) no_ends → take (2 * e) ends ≡ ends_in plate_file b
  ends_front ends h l q = rw (q, had_all b l, p) (copied_front (ends_in plate_file b) no_ends (2 * channels_in plate_file b) (length_ends plate_file b) (omega (arith, length_no_ends)))

  pub pair_tests_as : (v v' : ℕ) (ends : List ℕ) → v ≡ v' → ends ≡ ends_in plate_file b → pair_tests v ends (length ends / 2) ≡ pair_tests v' (ends_in plate_file b) (channels_in plate_file b)
  pair_tests_as v v' ends q r =
      let s : length (ends_in plate_file b) / 2 ≡ channels_in plate_file b = omega (arith, length_ends plate_file b) in
      rw (q, r, s)

  pub piece_tests_as : (v v' : ℕ) (ends : List ℕ) → v ≡ v' → ends ≡ ends_in plate_file b
      → piece_tests v ends (replicate (length ends / 2) true) ≡ piece_tests v' (ends_in plate_file b) (replicate (channels_in plate_file b) true)
  piece_tests_as v v' ends q r =
      let s : length (ends_in plate_file b) / 2 ≡ channels_in plate_file b = omega (arith, length_ends plate_file b) in
      rw (q, r, s)

-- a file that passed tests 1 to 9 has all its pairs, and they are within the limits
pub tested_pairs : (b : List ℕ) → file_tests plate_file b ≡ passed → (8 + 2 * channels_in plate_file b ≤ length b) × (2 * channels_in plate_file b ≤ most_darts)
tested_pairs b h =
    let t = (file_tests_passed plate_file b h).sized in
    (omega (arith, t.size, length_plate (channels_in plate_file b)), omega (arith, t.channels.1))

pub sheet_pairs : (b : List ℕ) → file_tests sheet_file b ≡ passed → (8 + 2 * channels_in plate_file b ≤ length b) × (2 * channels_in plate_file b ≤ most_darts)
sheet_pairs b h =
    let t = (file_tests_passed sheet_file b h).sized in
    (omega (arith, t.size, length_sheet (channels_in sheet_file b), sheet_channels b), omega (arith, t.channels.1, sheet_channels b))

pub sheet_front : (b ends : List ℕ) → file_tests sheet_file b ≡ passed → ends ≡ copied (ends_had b) no_ends → take (2 * channels_in sheet_file b) ends ≡ ends_in sheet_file b
sheet_front b ends h q = rw (sheet_channels b, sheet_ends b) (ends_front b (channels_in plate_file b) refl ends (sheet_pairs b h).1 (sheet_pairs b h).0 q)

pub tested_whole : (b : List ℕ) → file_tests plate_file b ≡ passed → (v : ℕ) (ends : List ℕ) → v ≡ ports_in plate_file b → ends ≡ ends_in plate_file b → Whole v ends
tested_whole b h v ends p q =
    let t = file_tests_passed plate_file b h in
    let n = length_ends plate_file b in
    rw (p, q) (record {
      ports = (λ d l. t.paired.inn d (omega (arith, n)));
      some = omega (arith, t.sized.ports.0);
      most = t.sized.ports.1;
      even = omega (arith, n);
      few = omega (arith, n, t.sized.channels.1);
    })
