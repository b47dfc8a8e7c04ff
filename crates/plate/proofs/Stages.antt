-- Tests one after the other, in the code and in the rules (rules, "Refusals").
--   bad_ports f b, bad_channels f b      V, E of a file outside the limits
-- refuse_at_some, refuse_at_none: what a test over channels gives, by what the search for a bad one answers; refuse_at_yes_lem, refuse_at_no_lem: by its number. found_fits: what was found is a place. mark_.., count_.., pair_.., piece_..: what the stages give, by the tests of each that were passed.
-- kind_..: what the two formats share. mark_is: a mark, by what the file starts with.
-- Assumes nothing.
use mathlib.Core.Path.{◌≡◌, refl, sym, ap, subst, ◌∙◌}
use mathlib.Core.Bool.{Bool, true, false, not}
use mathlib.Core.List.{List, [], ◌∷◌}
use Prim.Native.Nat.{ℕ, ◌+◌, ◌*◌, ◌≤◌, ◌<◌}
use native.Mathlib.Omega.{arith}
use borrow.Author.Tests.{lt-ltb, le-ltb, ltb-false}
use lib.Dec.{ltb, eqb}
use lib.ListN.{length}
use Rattle.std.specs.Prelude.{Option, Some, None, Result, Ok, Err}
use Rattle.std.specs.List.{find, starts_with}
use Rattle.laws.proofs.Finding.{find_most, seek_some, seek_none}
use Rattle.std.proofs.lemmas.Bool.Decides.{nat_tests}
use Rattle.rules.specs.Lists.{from, all, seek, text, number}
use Rattle.rules.specs.Files.{Format, Limits, plate_file, sheet_file, limits1, ports_in, channels_in, ends_in, pairs_at, file_length}
use Rattle.rules.specs.Refusals.{given, refused, passed, refuse, refuse_at, ◌>>◌, short, other_mark, other_version, mark_tests, outside, other_length, count_tests, strange, loop, met_earlier, place_of_channel, pair_tests, file_tests, itself, apart, cuts, piece_tests, read_plate}
use Rattle.plate.specs.declared.Refusal.{Refusal}
use Rattle.plate.specs.declared.Kind.{Kind}
use Rattle.plate.specs.declared.Kind.TheVariants.{Plate as PlateKind, Sheet as SheetKind}
use Rattle.plate.specs.declared.Plate.{Plate}
use Rattle.plate.specs.Answers.{format_of, number_of, test_of, reading_of, reading_by}
use Rattle.plate.specs.State.{most_darts}
use Rattle.laws.proofs.Refusals.{count_tests_passed}
use Rattle.laws.proofs.Tests.{or_neither}
use Rattle.plate.proofs.Laws.{length_plate, length_sheet, test_passed, stops, goes, pieces_in, plate_in, reading_is}

-- ---- a test over channels, by what the search for a bad one answers

module _ (n : ℕ) (place : ℕ → ℕ) (bad : ℕ → Bool) (m : ℕ) where
  pub refuse_at_some : (k : ℕ) → find bad (from 0 m) ≡ Some k → refuse_at n place bad m ≡ refused n (place k)
  unfolding refuse_at
  refuse_at_some k e = rw (seek_some bad m k e, lt-ltb k m (omega (arith, find_most bad 0 m k e)))

  pub refuse_at_none : find bad (from 0 m) ≡ None → refuse_at n place bad m ≡ passed
  unfolding refuse_at
  refuse_at_none e = rw (seek_none bad m e, le-ltb m m (omega arith))

  module _ (k : ℕ) (e : k ≡ seek bad 0 m) where
    pub refuse_at_yes_lem : k < m → refuse_at n place bad m ≡ refused n (place k)
    unfolding refuse_at
    refuse_at_yes_lem h = rw (← e, lt-ltb k m h)

    pub refuse_at_no_lem : m ≤ k → refuse_at n place bad m ≡ passed
    unfolding refuse_at
    refuse_at_no_lem h = rw (← e, le-ltb k m h)

-- what a search finds below a number of 16 bits
pub found_fits : (bad : ℕ → Bool) (m k : ℕ) (r : Option ℕ) → r ≡ find bad (from 0 m) → r ≡ Some k → m < 65536 → k < 65536
found_fits bad m k r p e h = omega (arith, find_most bad 0 m k (sym p ∙ e))

-- ---- 1 to 3

module _ (f : Format) (b : List ℕ) where
  pub mark_1 : short f b ≡ true → mark_tests f b ≡ refused 1 0
  unfolding mark_tests refuse
  mark_1 p = rw p

  pub mark_2 : short f b ≡ false → other_mark f b ≡ true → mark_tests f b ≡ refused 2 0
  unfolding mark_tests refuse
  mark_2 p q = rw (p, q)

  pub mark_3 : short f b ≡ false → other_mark f b ≡ false → other_version f b ≡ true → mark_tests f b ≡ refused 3 0
  unfolding mark_tests refuse
  mark_3 p q r = rw (p, q, r)

  pub mark_passed : short f b ≡ false → other_mark f b ≡ false → other_version f b ≡ false → mark_tests f b ≡ passed
  unfolding mark_tests refuse
  mark_passed p q r = rw (p, q, r)

-- ---- 4 to 6

abbrev pub bad_ports : Format → List ℕ → Bool
bad_ports f b = outside f.limits.least_ports f.limits.most_ports (ports_in f b)

abbrev pub bad_channels : Format → List ℕ → Bool
bad_channels f b = outside f.limits.least_channels f.limits.most_channels (channels_in f b)

module _ (f : Format) (b : List ℕ) where
  pub count_4 : bad_ports f b ≡ true → count_tests f b ≡ refused 4 0
  unfolding count_tests refuse
  count_4 p = rw p

  pub count_5 : bad_ports f b ≡ false → bad_channels f b ≡ true → count_tests f b ≡ refused 5 0
  unfolding count_tests refuse
  count_5 p q = rw (p, q)

  pub count_6 : bad_ports f b ≡ false → bad_channels f b ≡ false → other_length f b ≡ true → count_tests f b ≡ refused 6 0
  unfolding count_tests refuse
  count_6 p q r = rw (p, q, r)

  pub count_passed : bad_ports f b ≡ false → bad_channels f b ≡ false → other_length f b ≡ false → count_tests f b ≡ passed
  unfolding count_tests refuse
  count_passed p q r = rw (p, q, r)

pub inside : (low high n : ℕ) → outside low high n ≡ false → (low ≤ n) × (n ≤ high)
unfolding outside
inside low high n e = let w = or_neither (ltb n low) (ltb high n) e in (ltb-false n low w.0, ltb-false high n w.1)

-- ---- 7 to 9

module _ (v : ℕ) (ends : List ℕ) (e : ℕ) (s : Option ℕ) (p : s ≡ find (strange v ends) (from 0 e)) where
  pub pair_7 : (k : ℕ) → s ≡ Some k → pair_tests v ends e ≡ refused 7 k
  unfolding pair_tests
  pair_7 k h = rw (refuse_at_some 7 place_of_channel (strange v ends) e k (sym p ∙ h))

  module _ (g : s ≡ None) (l : Option ℕ) (q : l ≡ find (loop ends) (from 0 e)) where
    pub pair_8 : (k : ℕ) → l ≡ Some k → pair_tests v ends e ≡ refused 8 k
    unfolding pair_tests
    pair_8 k h = rw (refuse_at_none 7 place_of_channel (strange v ends) e (sym p ∙ g), refuse_at_some 8 place_of_channel (loop ends) e k (sym q ∙ h))

    module _ (i : l ≡ None) (m : Option ℕ) (r : m ≡ find (met_earlier ends) (from 0 e)) where
      pub pair_9 : (k : ℕ) → m ≡ Some k → pair_tests v ends e ≡ refused 9 k
      unfolding pair_tests
      pair_9 k h = rw (refuse_at_none 7 place_of_channel (strange v ends) e (sym p ∙ g), refuse_at_none 8 place_of_channel (loop ends) e (sym q ∙ i), refuse_at_some 9 place_of_channel (met_earlier ends) e k (sym r ∙ h))

      pub pair_passed : m ≡ None → pair_tests v ends e ≡ passed
      unfolding pair_tests
      pair_passed h = rw (refuse_at_none 7 place_of_channel (strange v ends) e (sym p ∙ g), refuse_at_none 8 place_of_channel (loop ends) e (sym q ∙ i), refuse_at_none 9 place_of_channel (met_earlier ends) e (sym r ∙ h))

-- ---- 10 and 11

module _ (v : ℕ) (ends : List ℕ) (play : List Bool) (a : Option ℕ) (p : a ≡ find (apart v ends play) (from 0 v)) where
  pub piece_10 : (k : ℕ) → a ≡ Some k → piece_tests v ends play ≡ refused 10 k
  unfolding piece_tests
  piece_10 k h = rw (refuse_at_some 10 itself (apart v ends play) v k (sym p ∙ h))

  module _ (g : a ≡ None) (w : ℕ) (c : Option ℕ) (d : w ≡ v) (q : c ≡ find (cuts w ends play) (from 0 w)) where
    cut_is : c ≡ find (cuts v ends play) (from 0 v)
    cut_is = q ∙ ap (λ (n : ℕ). find (cuts n ends play) (from 0 n)) d

    pub piece_11 : (k : ℕ) → c ≡ Some k → piece_tests v ends play ≡ refused 11 k
    unfolding piece_tests
    piece_11 k h = rw (refuse_at_none 10 itself (apart v ends play) v (sym p ∙ g), refuse_at_some 11 itself (cuts v ends play) v k (sym cut_is ∙ h))

    pub piece_passed : c ≡ None → piece_tests v ends play ≡ passed
    unfolding piece_tests
    piece_passed h = rw (refuse_at_none 10 itself (apart v ends play) v (sym p ∙ g), refuse_at_none 11 itself (cuts v ends play) v (sym cut_is ∙ h))

-- ---- a test of the code, and what is left

pub passed_is : passed ≡ test_of (Ok tt)
unfolding test_of
passed_is = refl

pub refusal_is : (t : Result (Unit {0}) Refusal) (x : Refusal) → t ≡ Err x → test_of t ≡ refused (number_of x.fault) x.place
unfolding test_of
refusal_is t x e = rw e

-- ---- what the two formats share

pub kind_plate : (kind : Kind) → kind ≡ PlateKind → format_of kind ≡ plate_file
unfolding format_of
kind_plate kind e = rw e

pub kind_sheet : (kind : Kind) → kind ≡ SheetKind → format_of kind ≡ sheet_file
unfolding format_of
kind_sheet kind e = rw e

module _ (b : List ℕ) where
  pub kind_ports : (kind : Kind) → ports_in (format_of kind) b ≡ ports_in plate_file b
  unfolding format_of ports_in
  kind_ports PlateKind = refl
  kind_ports SheetKind = refl

  pub kind_channels : (kind : Kind) → channels_in (format_of kind) b ≡ channels_in plate_file b
  unfolding format_of channels_in
  kind_channels PlateKind = refl
  kind_channels SheetKind = refl

  pub kind_ends : (kind : Kind) → ends_in (format_of kind) b ≡ ends_in plate_file b
  unfolding format_of ends_in channels_in pairs_at
  kind_ends PlateKind = refl
  kind_ends SheetKind = refl

pub kind_start : (kind : Kind) → pairs_at (format_of kind) ≡ 8
unfolding format_of pairs_at
kind_start PlateKind = refl
kind_start SheetKind = refl

pub kind_version : (kind : Kind) → (format_of kind).version ≡ 1
unfolding format_of
kind_version PlateKind = refl
kind_version SheetKind = refl

pub kind_limits : (kind : Kind) → (format_of kind).limits ≡ limits1
unfolding format_of
kind_limits PlateKind = refl
kind_limits SheetKind = refl

-- ---- the tests of a file, by what the code computes

module _ (kind : Kind) (b : List ℕ) where
  pub short_is : short (format_of kind) b ≡ ltb (length b) 8
  unfolding short
  short_is = rw (kind_start kind)

  pub version_is : other_version (format_of kind) b ≡ not (eqb (number 2 3 b) 1)
  unfolding other_version
  version_is = rw (kind_version kind)

  pub ports_test : (v : ℕ) (r : Bool) → v ≡ ports_in plate_file b → r ≡ outside 3 200 v → bad_ports (format_of kind) b ≡ r
  ports_test v r p q = rw (kind_ports b kind, kind_limits kind, ← p) (sym q)

  pub channels_test : (e : ℕ) (r : Bool) → e ≡ channels_in plate_file b → r ≡ outside 3 600 e → bad_channels (format_of kind) b ≡ r
  channels_test e r p q = rw (kind_channels b kind, kind_limits kind, ← p) (sym q)

  pub length_test : (e n : ℕ) → e ≡ channels_in plate_file b → n ≡ file_length (format_of kind) e → other_length (format_of kind) b ≡ not (eqb (length b) n)
  unfolding other_length
  length_test e n p q = rw (kind_channels b kind, ← p, ← q)

kind_room : (kind : Kind) (e : ℕ) → 8 + 2 * e ≤ file_length (format_of kind) e
unfolding format_of
kind_room PlateKind e = omega (arith, length_plate e)
kind_room SheetKind e = omega (arith, length_sheet e)

-- the file has room for its pairs, and the pairs have room in an array
pub counted_pairs : (kind : Kind) (b : List ℕ) → count_tests (format_of kind) b ≡ passed → (8 + 2 * channels_in plate_file b ≤ length b) × (2 * channels_in plate_file b ≤ most_darts)
counted_pairs kind b h =
    let s = count_tests_passed (format_of kind) b h in
    let few : channels_in (format_of kind) b ≤ limits1.most_channels = subst (λ (l : Limits). channels_in (format_of kind) b ≤ l.most_channels) (kind_limits kind) s.channels.1 in
    (omega (arith, s.size, kind_room kind (channels_in (format_of kind) b), kind_channels b kind), omega (arith, few, kind_channels b kind))

-- ---- the three stages

module _ (kind : Kind) (b : List ℕ) (t : Result (Unit {0}) Refusal) (p : test_of t ≡ mark_tests (format_of kind) b) where
  pub file_stop_1 : (x : Refusal) → t ≡ Err x → test_of t ≡ file_tests (format_of kind) b
  unfolding file_tests
  file_stop_1 x e = refusal_is t x e ∙ sym (stops t x (mark_tests (format_of kind) b) _ p e)

  module _ (e : t ≡ Ok tt) (u : Result (Unit {0}) Refusal) (q : test_of u ≡ count_tests (format_of kind) b) where
    pub file_stop_2 : (x : Refusal) → u ≡ Err x → test_of u ≡ file_tests (format_of kind) b
    unfolding file_tests
    file_stop_2 x d = refusal_is u x d ∙ sym (goes t (mark_tests (format_of kind) b) _ p e ∙ stops u x (count_tests (format_of kind) b) _ q d)

    pub file_go : u ≡ Ok tt → (w : Result (Unit {0}) Refusal) → test_of w ≡ pair_tests (ports_in plate_file b) (ends_in plate_file b) (channels_in plate_file b) → test_of w ≡ file_tests (format_of kind) b
    unfolding file_tests
    file_go d w r =
        rw (r, goes t (mark_tests (format_of kind) b) _ p e, goes u (count_tests (format_of kind) b) _ q d, kind_ports b kind, kind_ends b kind, kind_channels b kind)

-- ---- a mark, whose bytes are not 0, so that a file without them all has another

eqb_swap : (x y : ℕ) → eqb x y ≡ eqb y x
eqb_swap x y = grind (arith, nat_tests)

pub mark_is : (kind : Kind) (b : List ℕ) → not (starts_with eqb b (format_of kind).mark) ≡ other_mark (format_of kind) b
unfolding format_of other_mark all from text
mark_is PlateKind [] = refl
mark_is PlateKind (x ∷ []) = rw (eqb_swap x 70) refl
mark_is PlateKind (x ∷ y ∷ []) = rw (eqb_swap x 70, eqb_swap y 80) refl
mark_is PlateKind (x ∷ y ∷ z ∷ r) = rw (eqb_swap x 70, eqb_swap y 80, eqb_swap z 76) refl
mark_is SheetKind [] = refl
mark_is SheetKind (x ∷ []) = rw (eqb_swap x 70) refl
mark_is SheetKind (x ∷ y ∷ []) = rw (eqb_swap x 70, eqb_swap y 84) refl
mark_is SheetKind (x ∷ y ∷ z ∷ r) = rw (eqb_swap x 70, eqb_swap y 84, eqb_swap z 83) refl

-- ---- the reader

module _ (b : List ℕ) (t : Result (Unit {0}) Refusal) (p : test_of t ≡ file_tests (format_of PlateKind) b) where
  first_is : test_of t ≡ file_tests plate_file b
  unfolding format_of
  first_is = p

  pub read_stop_1 : (x : Refusal) → t ≡ Err x → reading_of (Err x) b ≡ read_plate b
  unfolding reading_by
  read_stop_1 x e = sym (reading_is b ∙ stops t x (file_tests plate_file b) (pieces_in b >> given (plate_in b)) first_is e)

  pub read_tested : t ≡ Ok tt → file_tests plate_file b ≡ passed
  read_tested e = test_passed t (file_tests plate_file b) first_is e

  module _ (e : t ≡ Ok tt) (u : Result (Unit {0}) Refusal) (q : test_of u ≡ pieces_in b) where
    pub read_stop_2 : (x : Refusal) → u ≡ Err x → reading_of (Err x) b ≡ read_plate b
    unfolding reading_by
    read_stop_2 x d =
        sym (reading_is b ∙ goes t (file_tests plate_file b) (pieces_in b >> given (plate_in b)) first_is e ∙ stops u x (pieces_in b) (given (plate_in b)) q d)

    pub read_go : u ≡ Ok tt → (c : Plate) → c.ports ≡ ports_in plate_file b → c.channels ≡ channels_in plate_file b → reading_of (Ok c) b ≡ read_plate b
    unfolding reading_by
    read_go d c v n =
        rw (v, n) (sym (reading_is b ∙ goes t (file_tests plate_file b) (pieces_in b >> given (plate_in b)) first_is e ∙ goes u (pieces_in b) (given (plate_in b)) q d))
