-- Document 01, "Plates to try": its P cases, and two rows more, as one table under a single claim, `tried`.
--   Try          what is tried: laying, laying into lent buffers, reading a sheet, listing, writing a sheet and judging it
--   Seen         what is seen of it
--   plate v ps   the plate file of v ports with the pairs ps
-- Assumes nothing.
use Rattle.std.specs.Prelude.{◌≡◌, refl, Bool, false, List, [], ◌∷◌, ◌++◌, map, ℕ, ◌/◌, length, replicate}
use Rattle.rules.specs.Lists.{from, any, all, keep, has, seek, at, concat, text, bytes, number, numbers}
use Rattle.rules.specs.Terms.{leaves, reverse, enters, there, laid, next, walk, least, turn_to, listed, visits, gather, lands_of, darts_at, onward, ring}
use Rattle.rules.specs.Files.{plate_file, sheet_file, ports_in, channels_in, pairs_at, ends_in, turns_at, turns_in, file_length, file_of}
use Rattle.rules.specs.Ways.{iter, mark, grow, layers, leads, closer, nearest, descend, path, reached}
use Rattle.rules.specs.Refusals.{Answer, given, refused, refuse, refuse_at, short, other_mark, other_version, mark_tests, outside, other_length, count_tests, strange, loop, same_pair, met_earlier, pair_tests, file_tests, apart, cuts, piece_tests, wild_turn, away_turn, one_ring, broken_ring, turn_tests, lent_test, read_plate, pairs_part, pairs_of, read_turns}
use Rattle.rules.specs.Laying.{Laid, Told, Word, FLAT, STUCK, PARTIAL, back, first, last, before, since, link, around, split_turns, split_lands, without, single, lowest, chosen, stuck_or, laid_ports, admissible, cycle, start, within, seed, fragment_at, settled, fragments, contacts_of, choice_of, choices, lay, all_laid, judge, rounds, first_channel, first_cycle, laying, laid_out, lands_of_flat, lay_plate, told, filled, bytes_left, turns_left, lands_left, lengths_left}
use Rattle.rules.specs.Sheets.{Judged, is_flat, judged, judge_sheet, read_sheet, counted, darts_read, lengths_read, stuck_test, write_sheet}
use Rattle.rules.specs.Mill.{refusal_number, done_number, write_number, flat_number, judge_number}
use Rattle.rules.specs.Listing.{digits, decimal, fields, line, head_line, cycle_line, path_line, word_line, land_lines, port_line, sheet_lines, laid_lines, listing_of, listing}

pub data Try : Type 0 where
  lays : List ℕ → ℕ → Try
  fills : List ℕ → ℕ → List ℕ → List ℕ → List ℕ → Try
  reads : List ℕ → Try
  lists : List ℕ → Try
  writes : List ℕ → List ℕ → Try

pub data Seen : Type 0 where
  -- the word, the number of paths, the name, the number of lands
  word : Word → ℕ → ℕ → ℕ → Seen
  refusal : ℕ → ℕ → Seen
  -- the answer, and the turns, lands and lengths left
  left : Answer Told → List ℕ → List ℕ → List ℕ → Seen
  -- the lands, and whether it is flat
  lands : List (List ℕ) → Bool → Seen
  prints : List ℕ → Seen
  -- the number, what is left, and the number of what is left when it is judged
  sheet : ℕ → List ℕ → ℕ → Seen

unfoldable pub word_of : Answer Laid → Seen
word_of (given a) = word a.outcome.word (length a.outcome.state.paths) a.outcome.name (length a.outcome.state.lands)
word_of (refused n p) = refusal n p

unfoldable pub lands_seen : Answer Judged → Seen
lands_seen (given j) = lands j.lands j.flat
lands_seen (refused n p) = refusal n p

-- enough elements for every plate tried
unfoldable pub enough : ℕ
enough = 20

unfoldable pub seen : Try → Seen
unfolding enough word_of lands_seen
seen (lays b n) = word_of (lay_plate b n enough enough enough)
seen (fills b n t l m) =
    let a = lay_plate b n (length t) (length l) (length m) in
    left (told a) (turns_left a t) (lands_left a l) (lengths_left a m)
seen (reads b) = lands_seen (judge_sheet b)
seen (lists b) = prints (listing b)
seen (writes b old) =
    let after = bytes_left (write_sheet b (length old)) old in
    sheet (write_number b old) after (judge_number after)

-- ---- the files

unfoldable pub plate : ℕ → List ℕ → List ℕ
plate v ps = file_of plate_file v (length ps / 2) ps []

unfoldable pub triangle : List ℕ
triangle = 0 ∷ 1 ∷ 0 ∷ 2 ∷ 1 ∷ 2 ∷ []

unfoldable pub four : List ℕ
four = 0 ∷ 1 ∷ 0 ∷ 2 ∷ 0 ∷ 3 ∷ 1 ∷ 2 ∷ 1 ∷ 3 ∷ 2 ∷ 3 ∷ []

unfoldable pub five : List ℕ
five = 0 ∷ 1 ∷ 0 ∷ 2 ∷ 0 ∷ 3 ∷ 0 ∷ 4 ∷ 1 ∷ 2 ∷ 1 ∷ 3 ∷ 1 ∷ 4 ∷ 2 ∷ 3 ∷ 2 ∷ 4 ∷ 3 ∷ 4 ∷ []

unfoldable pub three_and_three : List ℕ
three_and_three = 0 ∷ 3 ∷ 0 ∷ 4 ∷ 0 ∷ 5 ∷ 1 ∷ 3 ∷ 1 ∷ 4 ∷ 1 ∷ 5 ∷ 2 ∷ 3 ∷ 2 ∷ 4 ∷ 2 ∷ 5 ∷ []

-- the printed plate's turns, and those with port 0 turned to 0 4 2
unfoldable pub printed : List ℕ
printed = 2 ∷ 8 ∷ 4 ∷ 7 ∷ 0 ∷ 11 ∷ 1 ∷ 10 ∷ 6 ∷ 5 ∷ 3 ∷ 9 ∷ []

unfoldable pub turned : List ℕ
turned = 4 ∷ 8 ∷ 0 ∷ 7 ∷ 2 ∷ 11 ∷ 1 ∷ 10 ∷ 6 ∷ 5 ∷ 3 ∷ 9 ∷ []

unfoldable pub listed_four : List ℕ
unfolding text
listed_four =
    text "FPL 1 4 6\n"
    ++ text "cycle 0 1 2\n"
    ++ text "path 2 0 0 3 1\n"
    ++ text "path 5 0 2 3\n"
    ++ text "FLAT 2\n"
    ++ text "land 0 6 10 9\n"
    ++ text "land 1 1 2 7\n"
    ++ text "land 2 0 8 5\n"
    ++ text "land 3 3 4 11\n"
    ++ text "port 0 0 2 4\n"
    ++ text "port 1 1 8 6\n"
    ++ text "port 2 3 7 10\n"
    ++ text "port 3 5 11 9\n"

-- ---- the table

pub record Row : Type 0 where
  pub try : Try
  pub gives : Seen

unfoldable pub table : List Row
unfolding plate triangle four five three_and_three printed turned listed_four
table =
    record { try = lays (plate 3 triangle) 0; gives = word FLAT 0 0 2 }
    -- four ports all joined, lent one element more than needed
    ∷ record {
      try = fills (plate 4 four) 1 (replicate 13 7) (replicate 13 7) (replicate 5 7);
      gives = left (given (record { word = PARTIAL; paths = 1; name = 0 }))
          (2 ∷ 8 ∷ 4 ∷ 7 ∷ 0 ∷ 9 ∷ 1 ∷ 3 ∷ 6 ∷ 5 ∷ 65535 ∷ 65535 ∷ 7 ∷ [])
          (3 ∷ 4 ∷ 9 ∷ 6 ∷ 1 ∷ 2 ∷ 7 ∷ 0 ∷ 8 ∷ 5 ∷ 65535 ∷ 65535 ∷ 7 ∷ [])
          (4 ∷ 3 ∷ 3 ∷ 0 ∷ 7 ∷ []);
    }
    ∷ record {
      try = fills (plate 4 four) 2 (replicate 13 7) (replicate 13 7) (replicate 5 7);
      gives = left (given (record { word = FLAT; paths = 2; name = 0 }))
          (2 ∷ 8 ∷ 4 ∷ 7 ∷ 0 ∷ 11 ∷ 1 ∷ 10 ∷ 6 ∷ 5 ∷ 3 ∷ 9 ∷ 7 ∷ [])
          (6 ∷ 10 ∷ 9 ∷ 1 ∷ 2 ∷ 7 ∷ 0 ∷ 8 ∷ 5 ∷ 3 ∷ 4 ∷ 11 ∷ 7 ∷ [])
          (3 ∷ 3 ∷ 3 ∷ 3 ∷ 7 ∷ []);
    }
    ∷ record { try = lists (plate 4 four); gives = prints listed_four }
    ∷ record { try = lays (plate 5 five) 1; gives = word PARTIAL 1 0 3 }
    ∷ record { try = lays (plate 5 five) 2; gives = word STUCK 2 7 4 }
    ∷ record { try = lays (plate 6 three_and_three) 0; gives = word PARTIAL 0 0 2 }
    ∷ record { try = lays (plate 6 three_and_three) 1; gives = word STUCK 1 6 3 }
    ∷ record { try = lays (plate 6 (0 ∷ 1 ∷ 0 ∷ 2 ∷ 1 ∷ 2 ∷ 3 ∷ 4 ∷ 3 ∷ 5 ∷ 4 ∷ 5 ∷ [])) 0; gives = refusal 10 3 }
    ∷ record { try = lays (plate 5 (0 ∷ 1 ∷ 0 ∷ 2 ∷ 1 ∷ 2 ∷ 2 ∷ 3 ∷ 2 ∷ 4 ∷ 3 ∷ 4 ∷ [])) 0; gives = refusal 11 2 }
    ∷ record { try = lays (plate 3 (0 ∷ 1 ∷ 1 ∷ 2 ∷ 0 ∷ 2 ∷ 2 ∷ 1 ∷ [])) 0; gives = refusal 9 3 }
    ∷ record {
      try = reads (file_of sheet_file 4 6 four turned);
      gives = lands ((0 ∷ 8 ∷ 5 ∷ 2 ∷ 7 ∷ 1 ∷ 4 ∷ 11 ∷ 3 ∷ []) ∷ (6 ∷ 10 ∷ 9 ∷ []) ∷ []) false;
    }
    -- not of document 01: a plate that sticks where the lowest fragment is always taken
    ∷ record { try = lays (plate 5 (0 ∷ 1 ∷ 0 ∷ 2 ∷ 0 ∷ 3 ∷ 0 ∷ 4 ∷ 1 ∷ 2 ∷ 1 ∷ 3 ∷ 1 ∷ 4 ∷ 2 ∷ 3 ∷ [])) 9; gives = word FLAT 3 0 5 }
    -- not of document 01: the printed plate's sheet, written and judged
    ∷ record { try = writes (plate 4 four) (replicate 44 7); gives = sheet 0 (file_of sheet_file 4 6 four printed) 0 }
    ∷ []
