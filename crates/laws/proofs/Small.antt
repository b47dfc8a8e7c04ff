-- Every refusal has a number of 16 at most and a place below 65,536, so that number × 65,536 + place tells both.
--   Small a       the answer a is no refusal, or one whose number and place are as small
-- small_read: a plate file that is read. small_turns, small_judge: a turn sheet that is read or judged. laid_name: a fragment's name. small_write: a sheet that is written.
-- Assumes nothing.
use mathlib.Core.Path.{◌≡◌, refl, sym, ap, ◌∙◌}
use mathlib.Core.Bool.{Bool, true, false}
use mathlib.Core.List.{List, [], ◌∷◌}
use Prim.Native.Nat.{ℕ, ◌<◌, ◌≤◌}
use native.Mathlib.Omega.{arith}
use lib.Dec.{ltb, ltb→lt}
use lib.ListN.{length, replicate, length-replicate}
use Rattle.rules.specs.Lists.{seek, any}
use Rattle.rules.specs.Files.{Format, plate_file, sheet_file, ports_in, channels_in, ends_in, turns_in, file_length, file_of}
use Rattle.rules.specs.Refusals.{Answer, given, refused, Test, ◌>>=◌, ◌>>◌, passed, refuse, refuse_at, place_of_channel, itself, short, other_mark, other_version, mark_tests, outside, other_length, count_tests, strange, loop, met_earlier, pair_tests, file_tests, apart, cuts, piece_tests, wild_turn, away_turn, broken_ring, turn_tests, Lent, lent_test, Plate, Sheet, read_plate, read_turns}
use Rattle.rules.specs.Laying.{Word, FLAT, STUCK, PARTIAL, Outcome, without_cap, whole_plate, laid_out}
use Rattle.rules.specs.Sheets.{judged, judge_sheet, stuck_test, write_sheet}
use Rattle.laws.proofs.Tests.{cond_cases}
use Rattle.laws.proofs.Sets.{at_lt}
use Rattle.laws.proofs.Refusals.{count_tests_passed, file_tests_passed, length_ends}
use Rattle.laws.proofs.Reading.{accepted, layable, kept_laid_out}
use Rattle.laws.proofs.FragmentMeaning.{fragment_play}
use Rattle.laws.proofs.Verdicts.{ended_laid_out}

abbrev pub Small : {A : Type 0} → Answer A → Type 0
Small (given a) = Unit {0}
Small (refused n q) = (n ≤ 16) × (q < 65536)

small_then : {A : Type 0} (t : Test) (a : Answer A) → Small t → (t ≡ passed → Small a) → Small (t >> a)
small_then (given u) a h k = k refl
small_then (refused n q) a h k = h

small_refuse : (n : ℕ) (bad : Bool) → n ≤ 16 → Small (refuse n bad)
unfolding refuse
small_refuse n true h = (h, omega arith)
small_refuse n false h = tt

small_at : (n : ℕ) (bad : ℕ → Bool) (m : ℕ) → n ≤ 16 → m ≤ 65536 → Small (refuse_at n (λ k. k) bad m)
unfolding refuse_at
small_at n bad m h l = cond_cases (Small {A = Unit {0}}) (ltb (seek bad 0 m) m) (λ t. (h, omega (arith, ltb→lt (seek bad 0 m) m t))) (λ t. tt)

lent_small : (ls : List Lent) → Small (lent_test ls)
unfolding lent_test
lent_small ls = small_refuse 15 (any (λ l. ltb l.lent l.needed) ls) (omega arith)

-- ---- a file, of either kind

module _ (f : Format) (b : List ℕ) where
  small_mark : Small (mark_tests f b)
  unfolding mark_tests
  small_mark =
      small_then (refuse 1 (short f b)) _ (small_refuse 1 (short f b) (omega arith))
      (λ e. small_then (refuse 2 (other_mark f b)) _ (small_refuse 2 (other_mark f b) (omega arith)) (λ g. small_refuse 3 (other_version f b) (omega arith)))

  small_count : Small (count_tests f b)
  unfolding count_tests
  small_count =
      small_then (refuse 4 (outside f.limits.least_ports f.limits.most_ports (ports_in f b))) _ (small_refuse 4 (outside f.limits.least_ports f.limits.most_ports (ports_in f b)) (omega arith))
      (λ e. small_then (refuse 5 (outside f.limits.least_channels f.limits.most_channels (channels_in f b))) _ (small_refuse 5 (outside f.limits.least_channels f.limits.most_channels (channels_in f b)) (omega arith))
      (λ g. small_refuse 6 (other_length f b) (omega arith)))

  small_pair : (v : ℕ) (ends : List ℕ) (e : ℕ) → e ≤ 65536 → Small (pair_tests v ends e)
  unfolding pair_tests
  small_pair v ends e h =
      small_then (refuse_at 7 place_of_channel (strange v ends) e) _ (small_at 7 (strange v ends) e (omega arith) h)
      (λ g. small_then (refuse_at 8 place_of_channel (loop ends) e) _ (small_at 8 (loop ends) e (omega arith) h) (λ k. small_at 9 (met_earlier ends) e (omega arith) h))

  small_file : f.limits.most_channels ≤ 65536 → Small (file_tests f b)
  unfolding file_tests
  small_file m =
      small_then (mark_tests f b) _ small_mark
      (λ e. small_then (count_tests f b) _ small_count (λ g. let z = count_tests_passed f b g in small_pair (ports_in f b) (ends_in f b) (channels_in f b) (omega (arith, z.channels.1))))

-- ---- a plate file

small_piece : (v : ℕ) (ends : List ℕ) (play : List Bool) → v ≤ 65536 → Small (piece_tests v ends play)
unfolding piece_tests
small_piece v ends play h = small_then (refuse_at 10 itself (apart v ends play) v) _ (small_at 10 (apart v ends play) v (omega arith) h) (λ e. small_at 11 (cuts v ends play) v (omega arith) h)

pub small_read : (b : List ℕ) → Small (read_plate b)
unfolding read_plate
small_read b =
    small_then (file_tests plate_file b) _ (small_file plate_file b (omega arith))
    (λ e. let z = file_tests_passed plate_file b e in
    small_then (piece_tests (ports_in plate_file b) (ends_in plate_file b) (replicate (channels_in plate_file b) true)) _ (small_piece (ports_in plate_file b) (ends_in plate_file b) (replicate (channels_in plate_file b) true) (omega (arith, z.sized.ports.1))) (λ g. tt))

-- ---- a turn sheet

small_ring : (v : ℕ) (ends turns : List ℕ) → v ≤ 65536 → length ends ≤ 65536 → Small (turn_tests v ends turns)
unfolding turn_tests
small_ring v ends turns h l =
    small_then (refuse_at 12 itself (wild_turn ends turns) (length ends)) _ (small_at 12 (wild_turn ends turns) (length ends) (omega arith) l)
    (λ e. small_then (refuse_at 13 itself (away_turn ends turns) (length ends)) _ (small_at 13 (away_turn ends turns) (length ends) (omega arith) l) (λ g. small_at 14 (broken_ring ends turns) v (omega arith) h))

pub small_turns : (b : List ℕ) → Small (read_turns b)
unfolding read_turns
small_turns b =
    small_then (file_tests sheet_file b) _ (small_file sheet_file b (omega arith))
    (λ e. let z = file_tests_passed sheet_file b e in
    small_then (turn_tests (ports_in sheet_file b) (ends_in sheet_file b) (turns_in sheet_file b)) _ (small_ring (ports_in sheet_file b) (ends_in sheet_file b) (turns_in sheet_file b) (omega (arith, z.sized.ports.1)) (omega (arith, length_ends sheet_file b, z.sized.channels.1))) (λ g. tt))

pub small_judge : (b : List ℕ) → Small (judge_sheet b)
unfolding judge_sheet
small_judge b = go (read_turns b) (small_turns b)
  where
    go : (a : Answer Sheet) → Small a → Small (a >>= λ s. given (judged s))
    go (given s) h = tt
    go (refused n q) h = h

-- ---- a sheet that is written

pub laid_name : (b : List ℕ) (p : Plate) → read_plate b ≡ given p → (n : ℕ) → (laid_out p n).word ≡ STUCK → (laid_out p n).name < p.channels
laid_name b p h n e =
    let A = accepted b p h in
    let m = (ended_laid_out b p h n).lowest e in
    let u = fragment_play p.ports p.ends (whole_plate p) (layable p A) (laid_out p n).state (kept_laid_out b p h n) m.0 m.1 in
    omega (arith, at_lt (whole_plate p) m.0.name u.0, m.2, length-replicate p.channels true)

small_stuck : (b : List ℕ) (p : Plate) → read_plate b ≡ given p → (o : Outcome) → o ≡ laid_out p without_cap → (w : Word) → o.word ≡ w → Small (stuck_test o)
unfolding stuck_test
small_stuck b p e o d FLAT g = rw g tt
small_stuck b p e o d STUCK g = rw g (omega arith, omega (arith, laid_name b p e without_cap (ap (λ (x : Outcome). x.word) (sym d) ∙ g), ap (λ (x : Outcome). x.name) d, (accepted b p e).channels.1))
small_stuck b p e o d PARTIAL g = rw g tt

pub small_write : (b : List ℕ) (lent : ℕ) → Small (write_sheet b lent)
unfolding write_sheet
small_write b lent = go (read_plate b) refl (small_read b)
  where
    go : (a : Answer Plate) → read_plate b ≡ a → Small a → Small (a >>= λ p. lent_test (record { needed = file_length sheet_file p.channels; lent = lent } ∷ []) >> stuck_test (laid_out p without_cap) >> given (file_of sheet_file p.ports p.channels p.ends (laid_out p without_cap).state.turns))
    go (given p) e h =
        small_then (lent_test (record { needed = file_length sheet_file p.channels; lent = lent } ∷ [])) _ (lent_small (record { needed = file_length sheet_file p.channels; lent = lent } ∷ []))
        (λ g. small_then (stuck_test (laid_out p without_cap)) _ (small_stuck b p e (laid_out p without_cap) refl (laid_out p without_cap).word refl) (λ k. tt))
    go (refused n q) e h = h
