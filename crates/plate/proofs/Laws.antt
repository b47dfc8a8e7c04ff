-- What callers use of the reader's definitions (rules, "Files" and "Refusals") without unfolding them.
--   Known b p                   the code's plate p was read from the file b: its counts, its length, and every test passed
-- number_.., bytes_numbers_lem: one-byte numbers are a part of the file. length_plate, length_sheet: the lengths 8 + 2E and 8 + 6E. sheet_..: a sheet's V, E and ports stand where a plate file's do.
-- ends_part: the ports of the pairs are a part of the file. plate_size, sheet_size: the length of a file that passed tests 1 to 9 (laws, `Tested`).
-- test_passed, test_refused: a test of the code that was passed or refused. known, read_is, unread: a reading that gave a plate or a refusal. part_none, part_rest, part_front: the part of a file that the reader hands back as its pairs. part_is, part_told, pairs_ends, pairs_length: of a file that was read they are the ports of the pairs.
-- length_copied, copied_front: a copy is as long as what it was copied into, and begins with what was copied. refusal_unique, test_unique, reading_unique: what an answer stands for determines it.
-- Assumes nothing.
use mathlib.Core.Path.{◌≡◌, refl, sym, ap, ◌∙◌}
use mathlib.Core.Bool.{true}
use mathlib.Core.List.{List, [], ◌∷◌}
use Prim.Native.Nat.{ℕ, zero, suc, ◌+◌, ◌-◌, ◌*◌, ◌/◌, ◌<◌, ◌≤◌, min}
use native.Mathlib.Numerals.{add-one}
use native.Mathlib.Decide.{dec_lt}
use native.Mathlib.Omega.{arith}
use lib.ListN.{length, get_or, take, drop, drop_of_length-le, replicate, length-append, length-take, length-drop, length-replicate}
use lib.Seq.{drop-cons, drop-length, take_all, take-length, take_at}
use Rattle.std.specs.Prelude.{Result, Ok, Err}
use Rattle.rules.specs.Lists.{number, numbers}
use Rattle.rules.specs.Files.{plate_file, sheet_file, limits1, ports_in, channels_in, ends_in, pairs_at, turns_at, file_length}
use Rattle.rules.specs.Refusals.{Answer, given, refused, passed, ◌>>◌, file_tests, piece_tests, read_plate, pairs_part, pairs_of, Test as RuleTest, Plate as RulePlate}
use Rattle.laws.proofs.Refusals.{Tested, file_tests_passed, then_given, given_inj, refused_not, length_ends}
use Rattle.plate.specs.declared.Plate.{Plate}
use Rattle.plate.specs.declared.Refusal.{Refusal}
use Rattle.plate.specs.declared.Fault.{Fault}
use Rattle.plate.specs.declared.Fault.TheVariants.{Short, OtherMark, OtherVersion, PortsOutside, ChannelsOutside, OtherLength, Strange, Loop, MetEarlier, Apart, Cuts, WildTurn, AwayTurn, BrokenRing, Lent, Stuck}
use Rattle.plate.specs.Answers.{number_of, test_of, reading_of, reading_by}
use Rattle.plate.specs.State.{most_darts, no_ends, copied}

-- ---- the layout

pub length_plate : (e : ℕ) → file_length plate_file e ≡ 8 + 2 * e
unfolding file_length turns_at pairs_at
length_plate e = omega arith

pub length_sheet : (e : ℕ) → file_length sheet_file e ≡ 8 + 6 * e
unfolding file_length turns_at pairs_at
length_sheet e = omega arith

pub sheet_ports : (b : List ℕ) → ports_in sheet_file b ≡ ports_in plate_file b
unfolding ports_in
sheet_ports b = refl

pub sheet_channels : (b : List ℕ) → channels_in sheet_file b ≡ channels_in plate_file b
unfolding channels_in
sheet_channels b = refl

pub sheet_ends : (b : List ℕ) → ends_in sheet_file b ≡ ends_in plate_file b
unfolding ends_in channels_in pairs_at
sheet_ends b = refl

-- ---- numbers in a file

pub number_one : (i : ℕ) (b : List ℕ) → number 1 i b ≡ get_or b i 0
unfolding number
number_one i b = omega arith

pub number_two : (i : ℕ) (b : List ℕ) → number 2 i b ≡ get_or b i 0 + 256 * get_or b (i + 1) 0
unfolding number
number_two i b = rw add-one (omega arith)

pub bytes_numbers_lem : (n i : ℕ) (b : List ℕ) → i + n ≤ length b → numbers 1 n i b ≡ take n (drop i b)
unfolding numbers
bytes_numbers_lem zero i b h = refl
bytes_numbers_lem (suc n) i b h = rw (number_one i b, bytes_numbers_lem n (i + 1) b (omega arith), drop-cons b i 0 (omega arith), add-one)

pub ends_part : (b : List ℕ) → 8 + 2 * channels_in plate_file b ≤ length b → ends_in plate_file b ≡ take (2 * channels_in plate_file b) (drop 8 b)
unfolding ends_in pairs_at
ends_part b h = bytes_numbers_lem (2 * channels_in plate_file b) 8 b h

-- ---- a file that passed tests 1 to 9

pub plate_size : (b : List ℕ) → Tested plate_file b → length b ≡ 8 + 2 * channels_in plate_file b
plate_size b t = t.sized.size ∙ length_plate (channels_in plate_file b)

pub sheet_size : (b : List ℕ) → Tested sheet_file b → length b ≡ 8 + 6 * channels_in sheet_file b
sheet_size b t = t.sized.size ∙ length_sheet (channels_in sheet_file b)

-- ---- a test of the code

pub test_passed : (t : Result (Unit {0}) Refusal) (s : RuleTest) → test_of t ≡ s → t ≡ Ok tt → s ≡ passed
unfolding test_of
test_passed t s p e = sym p ∙ rw e

pub test_refused : (t : Result (Unit {0}) Refusal) (x : Refusal) (s : RuleTest) → test_of t ≡ s → t ≡ Err x → s ≡ refused (number_of x.fault) x.place
unfolding test_of
test_refused t x s p e = sym p ∙ rw e

-- a test of the code that comes first decides, or leaves it to the rest
pub stops : {B : Type 0} (t : Result (Unit {0}) Refusal) (x : Refusal) (s : RuleTest) (rest : Answer B) → test_of t ≡ s → t ≡ Err x → (s >> rest) ≡ refused (number_of x.fault) x.place
stops t x s rest p e = rw (test_refused t x s p e)

pub goes : {B : Type 0} (t : Result (Unit {0}) Refusal) (s : RuleTest) (rest : Answer B) → test_of t ≡ s → t ≡ Ok tt → (s >> rest) ≡ rest
goes t s rest p e = rw (test_passed t s p e)

-- ---- a reading

-- tests 10 and 11 of a plate file
abbrev pub pieces_in : List ℕ → RuleTest
pieces_in b = piece_tests (ports_in plate_file b) (ends_in plate_file b) (replicate (channels_in plate_file b) true)

-- the plate of a file
abbrev pub plate_in : List ℕ → RulePlate
plate_in b = record { ports = ports_in plate_file b; channels = channels_in plate_file b; ends = ends_in plate_file b }

pub reading_is : (b : List ℕ) → read_plate b ≡ (file_tests plate_file b >> pieces_in b >> given (plate_in b))
unfolding read_plate
reading_is b = refl

pub record Known (b : List ℕ) (p : Plate) : Type 0 where
  pub ports : p.ports ≡ ports_in plate_file b
  pub channels : p.channels ≡ channels_in plate_file b
  pub tested : Tested plate_file b
  pub pieces : pieces_in b ≡ passed
  pub answer : read_plate b ≡ given (plate_in b)
  pub long : length b ≡ 8 + 2 * p.channels
  pub least_ports_lem : limits1.least_ports ≤ p.ports
  pub most_ports_lem : p.ports ≤ limits1.most_ports
  pub least_channels_lem : limits1.least_channels ≤ p.channels
  pub most_channels_lem : p.channels ≤ limits1.most_channels

module _ (b : List ℕ) (r : Result Plate Refusal) (e : reading_of r b ≡ read_plate b) where
  pub unread : (x : Refusal) → r ≡ Err x → read_plate b ≡ refused (number_of x.fault) x.place
  unfolding reading_by
  unread x d = sym e ∙ rw d

  pub read_is : (p : Plate) → r ≡ Ok p → reading_of (Ok p) b ≡ read_plate b
  read_is p d = ap (λ (q : Result Plate Refusal). reading_of q b) (sym d) ∙ e

  read_given : (p : Plate) → r ≡ Ok p → read_plate b ≡ given (record { ports = p.ports; channels = p.channels; ends = ends_in plate_file b })
  unfolding reading_by
  read_given p d = sym e ∙ rw d

  pub known : (p : Plate) → r ≡ Ok p → Known b p
  known p d =
      let q : RulePlate = record { ports = p.ports; channels = p.channels; ends = ends_in plate_file b } in
      let g = read_given p d in
      let t1 = then_given (file_tests plate_file b) (pieces_in b >> given (plate_in b)) q (sym (reading_is b) ∙ g) in
      let t2 = then_given (pieces_in b) (given (plate_in b)) q t1.1 in
      let same : plate_in b ≡ q = given_inj (plate_in b) q t2.1 in
      let v : ports_in plate_file b ≡ p.ports = ap (λ (w : RulePlate). w.ports) same in
      let n : channels_in plate_file b ≡ p.channels = ap (λ (w : RulePlate). w.channels) same in
      let t = file_tests_passed plate_file b t1.0 in
      record {
        ports = sym v;
        channels = sym n;
        tested = t;
        pieces = t2.0;
        answer = g ∙ ap given (sym same);
        long = omega (arith, plate_size b t, n);
        least_ports_lem = omega (arith, t.sized.ports.0, v);
        most_ports_lem = omega (arith, t.sized.ports.1, v);
        least_channels_lem = omega (arith, t.sized.channels.0, n);
        most_channels_lem = omega (arith, t.sized.channels.1, n);
      }

-- ---- the pairs

-- what stands behind the first 8 bytes of a file, also where it has fewer
behind : (b : List ℕ) → drop (min 8 (length b)) b ≡ drop 8 b
behind b = go (dec_lt (length b) 8)
  where
    go : Dec (length b < 8) → drop (min 8 (length b)) b ≡ drop 8 b
    go (yes h) =
        let m : min 8 (length b) ≡ length b = omega arith in
        let all : length b ≤ 8 = omega arith in
        ap (λ (n : ℕ). drop n b) m ∙ drop-length b ∙ sym (drop_of_length-le b all)
    go (no h) =
        let m : min 8 (length b) ≡ 8 = omega arith in
        ap (λ (n : ℕ). drop n b) m

-- whatever numbers are told of a refusal
module _ {E : Type 0} (told : E → ℕ × ℕ) (b : List ℕ) (r : Result Plate E) where
  pub part_none : (x : E) → r ≡ Err x → [] ≡ pairs_part (reading_by told r b) b
  unfolding pairs_part reading_by
  part_none x d = rw d

  module _ (p : Plate) (d : r ≡ Ok p) where
    part_given : pairs_part (reading_by told r b) b ≡ take (2 * p.channels) (drop 8 b)
    unfolding pairs_part reading_by turns_at pairs_at
    part_given =
        let n : 8 + 2 * p.channels * 1 - 8 ≡ 2 * p.channels = omega arith in
        rw (d, n)

    -- from a start that is the least of 8 and the file's length: all that is there, or as much as the channels ask
    module _ (start : ℕ) (e : start ≡ min 8 (length b)) where
      behind_start : drop start b ≡ drop 8 b
      behind_start = ap (λ (n : ℕ). drop n b) e ∙ behind b

      pub part_rest : (length b - start) / 2 < p.channels → take (length b - start) (drop start b) ≡ pairs_part (reading_by told r b) b
      part_rest h =
          let l : length (drop start b) ≡ length b - start = length-drop start b in
          take_all (length b - start) (drop start b) (omega (arith, l)) ∙ sym (take_all (2 * p.channels) (drop start b) (omega (arith, l))) ∙ ap (take (2 * p.channels)) behind_start ∙ sym part_given

      pub part_front : take (start + 2 * p.channels - start) (drop start b) ≡ pairs_part (reading_by told r b) b
      part_front =
          let n : start + 2 * p.channels - start ≡ 2 * p.channels = omega arith in
          ap (λ (m : ℕ). take m (drop start b)) n ∙ ap (take (2 * p.channels)) behind_start ∙ sym part_given

-- of the file's own reading
pub part_is : (b : List ℕ) (r : Result Plate Refusal) → reading_of r b ≡ read_plate b → pairs_part (reading_of r b) b ≡ pairs_of b
unfolding pairs_of
part_is b r e = ap (λ (a : Answer RulePlate). pairs_part a b) e

pub part_told : (b : List ℕ) (r : Result Plate Refusal) → reading_of r b ≡ read_plate b → (l : List ℕ) → ((told : Refusal → ℕ × ℕ) → l ≡ pairs_part (reading_by told r b) b) → l ≡ pairs_of b
part_told b r e l h = h (λ x. (number_of x.fault, x.place)) ∙ part_is b r e

module _ (b : List ℕ) (p : Plate) (k : Known b p) where
  pairs_part_lem : pairs_of b ≡ take (2 * p.channels) (drop 8 b)
  unfolding pairs_of pairs_part turns_at pairs_at
  pairs_part_lem =
      let n : 8 + 2 * channels_in plate_file b * 1 - 8 ≡ 2 * p.channels = omega (arith, k.channels) in
      rw (k.answer, n)

  pub pairs_ends : pairs_of b ≡ ends_in plate_file b
  pairs_ends = pairs_part_lem ∙ rw k.channels (sym (ends_part b (omega (arith, k.long, k.channels))))

  pub pairs_length : length (pairs_of b) ≡ 2 * p.channels
  pairs_length = ap length pairs_ends ∙ length_ends plate_file b ∙ ap (λ (n : ℕ). 2 * n) (sym k.channels)

-- ---- the pairs, copied

pub length_copied : (from to : List ℕ) → length (copied from to) ≡ length to
unfolding copied
length_copied from to = simp (length-append, length-take, length-drop) (omega arith)

pub copied_front : (from to : List ℕ) (n : ℕ) → length from ≡ n → n ≤ length to → take n (copied from to) ≡ from
unfolding copied
copied_front from to n e h =
    let m : min (length from) (length to) ≡ length from = omega arith in
    rw (m, take-length from) (take_at from (drop (length from) to) n e)

pub length_no_ends : length no_ends ≡ most_darts
unfolding no_ends
length_no_ends = length-replicate {A = ℕ} most_darts 0

-- ---- two results that meet a promise are equal

-- the fault whose refusal has this number
unfoldable fault_at : ℕ → Fault
fault_at n = get_or (Short ∷ Short ∷ OtherMark ∷ OtherVersion ∷ PortsOutside ∷ ChannelsOutside ∷ OtherLength ∷ Strange ∷ Loop ∷ MetEarlier ∷ Apart ∷ Cuts ∷ WildTurn ∷ AwayTurn ∷ BrokenRing ∷ Lent ∷ Stuck ∷ []) n Short

fault_back : (f : Fault) → fault_at (number_of f) ≡ f
unfolding fault_at
fault_back Short = refl
fault_back OtherMark = refl
fault_back OtherVersion = refl
fault_back PortsOutside = refl
fault_back ChannelsOutside = refl
fault_back OtherLength = refl
fault_back Strange = refl
fault_back Loop = refl
fault_back MetEarlier = refl
fault_back Apart = refl
fault_back Cuts = refl
fault_back WildTurn = refl
fault_back AwayTurn = refl
fault_back BrokenRing = refl
fault_back Lent = refl
fault_back Stuck = refl

pub fault_unique : (f g : Fault) → number_of f ≡ number_of g → f ≡ g
fault_unique f g e = sym (fault_back f) ∙ ap fault_at e ∙ fault_back g

refusal_same : (x y : Refusal) → x.fault ≡ y.fault → x.place ≡ y.place → x ≡ y
refusal_same x y p q = ap (λ (f : Fault). record { fault = f; place = x.place }) p ∙ ap (λ (n : ℕ). record { fault = y.fault; place = n }) q

pub plate_same : (x y : Plate) → x.ports ≡ y.ports → x.channels ≡ y.channels → x ≡ y
plate_same x y p q = ap (λ (n : ℕ). record { ports = n; channels = x.channels }) p ∙ ap (λ (n : ℕ). record { ports = y.ports; channels = n }) q

pub refusal_unique : {B : Type 0} (x y : Refusal) → ◌≡◌ {A = Answer B} (refused (number_of x.fault) x.place) (refused (number_of y.fault) y.place) → x ≡ y
refusal_unique x y e = refusal_same x y (fault_unique x.fault y.fault (cc)) (cc)

pub test_unique : (t u : Result (Unit {0}) Refusal) → test_of t ≡ test_of u → t ≡ u
unfolding test_of
test_unique (Ok a) (Ok b) e = refl
test_unique (Ok a) (Err y) e = absurd (refused_not (number_of y.fault) y.place tt (sym e))
test_unique (Err x) (Ok b) e = absurd (refused_not (number_of x.fault) x.place tt e)
test_unique (Err x) (Err y) e = ap Err (refusal_unique x y e)

pub reading_unique : (b : List ℕ) (r s : Result Plate Refusal) → reading_of r b ≡ reading_of s b → r ≡ s
unfolding reading_by
reading_unique b (Ok p) (Ok q) e =
    let d = given_inj _ _ e in
    ap Ok (plate_same p q (ap (λ (w : RulePlate). w.ports) d) (ap (λ (w : RulePlate). w.channels) d))
reading_unique b (Ok p) (Err y) e = absurd (refused_not (number_of y.fault) y.place _ (sym e))
reading_unique b (Err x) (Ok q) e = absurd (refused_not (number_of x.fault) x.place _ e)
reading_unique b (Err x) (Err y) e = ap Err (refusal_unique x y e)
