-- What a sheet that is accepted guarantees (document 01, "Terms", "Refusal numbers" 1 to 9 and 12 to 14, and "Reading a sheet").
--   AcceptedSheet s  what holds of every sheet s that reading gives
--   v, e, ends, t    of a file that passed tests 1 to 9 and 12 to 14: its counts, the ports of its pairs, its turns
-- read_turns_given: where a sheet is given, it is the bytes', and every test passed. permuting: its turns permute the darts, and no dart follows itself. accepted_sheet: so of its turns and of its lands. judge_given, read_given: it is judged, and read into buffers that are long enough, by these lands.
-- Assumes nothing.
use mathlib.Core.Path.{◌≡◌, sym, ap, ◌∙◌, subst}
use mathlib.Core.Logic.{◌≢◌}
use mathlib.Core.List.{List, [], ◌∷◌}
use Prim.Native.Nat.{ℕ, ◌*◌, ◌≤◌, ◌<◌}
use native.Mathlib.Omega.{arith}
use lib.ListN.{length, get_or}
use Rattle.rules.specs.Terms.{reverse, leaves, next, lands_of}
use Rattle.rules.specs.Files.{sheet_file, limits1, ports_in, channels_in, ends_in, turns_in}
use Rattle.rules.specs.Refusals.{given, passed, Sheet, file_tests, turn_tests, read_turns}
use Rattle.rules.specs.Sheets.{judged, judge_sheet, read_sheet}
use Rattle.laws.proofs.Counts.{count}
use Rattle.laws.proofs.Runs.{reverse_below}
use Rattle.laws.proofs.Trails.{leaves_reverse}
use Rattle.laws.proofs.Refusals.{Paired, file_tests_passed, then_given, given_inj, length_ends, length_turns}
use Rattle.laws.proofs.Passing.{lent_pass}
use Rattle.laws.proofs.RefusalMeaning.{Turned, turned}
use Rattle.laws.proofs.RefusalTable.{sheet_in}
use Rattle.laws.proofs.Permuting.{Permuting, turns_permute}
use Rattle.laws.proofs.Gathering.{Lands, lands_lands_of}

pub read_turns_given : (b : List ℕ) (s : Sheet) → read_turns b ≡ given s
    → (file_tests sheet_file b ≡ passed) × (turn_tests (ports_in sheet_file b) (ends_in sheet_file b) (turns_in sheet_file b) ≡ passed) × (sheet_in b ≡ s)
unfolding read_turns
read_turns_given b s h =
    let t1 = then_given (file_tests sheet_file b) _ s h in
    let t2 = then_given (turn_tests (ports_in sheet_file b) (ends_in sheet_file b) (turns_in sheet_file b)) _ s t1.1 in
    (t1.0, t2.0, given_inj (sheet_in b) s t2.1)

pub record AcceptedSheet (s : Sheet) : Type 0 where
  pub ports : (limits1.least_ports ≤ s.ports) × (s.ports ≤ limits1.most_ports)
  pub channels : (limits1.least_channels ≤ s.channels) × (s.channels ≤ limits1.most_channels)
  pub darts : (length s.ends ≡ 2 * s.channels) × (length s.turns ≡ 2 * s.channels)
  -- 7 to 9: every dart leaves a port, no channel has equal ends, no two have the same
  pub paired : Paired s.ports s.ends s.channels
  -- 12 to 14: each turn is a dart that leaves the same port, no two darts have the same turn, and the darts of each port are one cycle
  pub turned : Turned s.ends s.turns
  -- so the turns permute the darts: each dart is the turn of one dart
  pub permuted : (d : ℕ) → d < 2 * s.channels → count d s.turns ≡ 1
  -- no dart follows itself
  pub away : (d : ℕ) → d < 2 * s.channels → next s.turns d ≢ d
  -- the lands: closed walks, each dart in one of them, once, each listed from its smallest dart, in order of it
  pub lands : Lands s.turns (lands_of s.turns)
  -- they are at most as many as the channels
  pub few : length (lands_of s.turns) ≤ s.channels

module _ (b : List ℕ) (h : file_tests sheet_file b ≡ passed) (k : turn_tests (ports_in sheet_file b) (ends_in sheet_file b) (turns_in sheet_file b) ≡ passed) where
  abbrev v : ℕ
  v = ports_in sheet_file b

  abbrev e : ℕ
  e = channels_in sheet_file b

  abbrev ends : List ℕ
  ends = ends_in sheet_file b

  abbrev t : List ℕ
  t = turns_in sheet_file b

  same_size : length t ≡ length ends
  same_size = length_turns sheet_file b ∙ sym (length_ends sheet_file b)

  turned_in : Turned ends t
  turned_in = turned v ends t (λ d l. (file_tests_passed sheet_file b h).paired.inn d (omega (arith, length_ends sheet_file b))) k

  turn_in : (d : ℕ) → d < length t → get_or t d 0 < length t
  turn_in d l = omega (arith, turned_in.stay d (omega (arith, same_size)), same_size)

  turn_apart : (x y : ℕ) → x < length t → y < length t → get_or t x 0 ≡ get_or t y 0 → x ≡ y
  turn_apart x y l m = turned_in.once x y (omega (arith, same_size)) (omega (arith, same_size))

  -- the turn of d's reverse leaves the port that d enters, which is another than d leaves
  away : (d : ℕ) → d < length t → next t d ≢ d
  unfolding next
  away d l q =
      (file_tests_passed sheet_file b h).paired.loops d (omega (arith, length_turns sheet_file b))
      (ap (leaves ends) (sym q) ∙ turned_in.same (reverse d) (omega (arith, length_ends sheet_file b, reverse_below d e (omega (arith, length_turns sheet_file b)))) ∙ leaves_reverse ends d)

  pub permuting : Permuting t
  permuting = record {
    even = omega (arith, length_turns sheet_file b);
    small = omega (arith, length_turns sheet_file b, (file_tests_passed sheet_file b h).sized.channels.1);
    dart = turn_in;
    apart = turn_apart;
    away = away;
  }

  tested : AcceptedSheet (sheet_in b)
  tested = record {
    ports = (file_tests_passed sheet_file b h).sized.ports;
    channels = (file_tests_passed sheet_file b h).sized.channels;
    darts = (length_ends sheet_file b, length_turns sheet_file b);
    paired = (file_tests_passed sheet_file b h).paired;
    turned = turned_in;
    permuted = λ d l. turns_permute t permuting d (omega (arith, length_turns sheet_file b));
    away = λ d l. away d (omega (arith, length_turns sheet_file b));
    lands = lands_lands_of t permuting;
    few = omega (arith, (lands_lands_of t permuting).few, length_turns sheet_file b);
  }

pub accepted_sheet : (b : List ℕ) (s : Sheet) → read_turns b ≡ given s → AcceptedSheet s
accepted_sheet b s r = let g = read_turns_given b s r in subst AcceptedSheet g.2 (tested b g.0 g.1)

-- ---- what judging and reading give of it

pub judge_given : (b : List ℕ) (s : Sheet) → read_turns b ≡ given s → judge_sheet b ≡ given (judged s)
unfolding judge_sheet
judge_given b s r = rw r

pub read_given : (b : List ℕ) (s : Sheet) → read_turns b ≡ given s → (darts lengths : ℕ) → 2 * s.channels ≤ darts → s.channels ≤ lengths → read_sheet b darts lengths ≡ given (judged s)
unfolding read_sheet
read_given b s r darts lengths d l = rw (r, lent_pass (record { needed = 2 * s.channels; lent = darts } ∷ record { needed = s.channels; lent = lengths } ∷ []) (d, (l, tt)))
