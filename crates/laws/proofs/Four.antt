-- The demands are about something: the four-port file of document 01 is read, and statements of `Demands` speak of it: with more to lay at n = 0 and 1, and FLAT at n = 2.
--   file, four          the file, and the plate that it is read into
--   turned              a sheet of that plate that is not flat
-- Assumes nothing.
use mathlib.Core.Path.{◌≡◌, refl, sym, ◌∙◌}
use mathlib.Core.Bool.{true}
use mathlib.Core.List.{List, [], ◌∷◌}
use Prim.Native.Nat.{ℕ, ◌+◌, ◌≤◌}
use lib.ListN.{length, get_or}
use Rattle.rules.specs.Files.{sheet_file, file_of}
use Rattle.rules.specs.Sheets.{judge_sheet}
use Rattle.rules.specs.Lists.{from, any, all, keep, has, seek, at, concat, text, bytes, number, numbers}
use Rattle.rules.specs.Terms.{leaves, reverse, enters, there, laid, next, least, turn_to, listed, visits, darts_at, onward, ring}
use Rattle.rules.specs.Files.{ports_in, channels_in, pairs_at, ends_in, turns_at, turns_in, file_length}
use Rattle.rules.specs.Ways.{iter, mark, grow, layers, leads, closer, nearest, descend, path, reached}
use Rattle.rules.specs.Refusals.{given, Plate, Sheet, refuse, refuse_at, short, other_mark, other_version, mark_tests, outside, other_length, count_tests, strange, loop, same_pair, met_earlier, pair_tests, file_tests, apart, cuts, piece_tests, wild_turn, away_turn, one_ring, broken_ring, turn_tests, read_plate, read_turns}
use Rattle.rules.specs.Laying.{FLAT, PARTIAL, whole_plate, back, first, last, before, since, link, around, split_turns, split_lands, without, single, lowest, chosen, stuck_or, laid_ports, admissible, cycle, start, within, seed, fragment_at, settled, fragments, contacts_of, choice_of, choices, lay, all_laid, judge, rounds, first_channel, first_cycle, laying, without_cap, laid_out}
use Rattle.laws.proofs.Counts.{count}
use Rattle.laws.proofs.InOrder.{in_order}
use Rattle.laws.proofs.Changes.{Changed}
use Rattle.laws.proofs.Verdicts.{AllLaid, flat_partial}
use Rattle.laws.proofs.PathMeaning.{PathLaid}
use Rattle.laws.proofs.AcceptedSheet.{AcceptedSheet}
use Rattle.laws.proofs.Demands.{flat_exactly, end_of_story, first_lands, next_path, next_changes, flat_after, flat_reads, sheet_accepted}

abbrev pub four : Plate
four = record { ports = 4; channels = 6; ends = 0 ∷ 1 ∷ 0 ∷ 2 ∷ 0 ∷ 3 ∷ 1 ∷ 2 ∷ 1 ∷ 3 ∷ 2 ∷ 3 ∷ [] }

abbrev pub file : List ℕ
file = 70 ∷ 80 ∷ 76 ∷ 1 ∷ 0 ∷ 4 ∷ 6 ∷ 0 ∷ 0 ∷ 1 ∷ 0 ∷ 2 ∷ 0 ∷ 3 ∷ 1 ∷ 2 ∷ 1 ∷ 3 ∷ 2 ∷ 3 ∷ []

pub is_read : read_plate file ≡ given four
unfolding from any all keep has seek at concat text bytes number numbers leaves reverse enters ports_in channels_in pairs_at ends_in turns_at file_length iter mark grow reached refuse refuse_at short other_mark other_version mark_tests outside other_length count_tests strange loop same_pair met_earlier pair_tests file_tests apart cuts piece_tests read_plate
is_read = refl

-- what is said after at most 0, 1 and 2 paths
pub words : ((laid_out four 0).word ≡ PARTIAL) × ((laid_out four 1).word ≡ PARTIAL) × ((laid_out four 2).word ≡ FLAT)
unfolding from any all keep has seek at leaves reverse enters there laid next least turn_to listed visits iter mark grow layers leads closer nearest descend path back first last before since link around split_turns split_lands without single lowest chosen stuck_or laid_ports admissible cycle start within seed fragment_at settled fragments contacts_of choice_of choices lay all_laid judge rounds first_channel laying laid_out
words = (refl, refl, refl)

-- ---- n = 0

-- the first cycle's two lands
pub two_lands : ((laid_out four 0).state.lands ≡ listed (first_cycle 4 four.ends (whole_plate four)) ∷ listed (back (first_cycle 4 four.ends (whole_plate four))) ∷ [])
    × (1 ≤ count 0 (get_or (laid_out four 0).state.lands 0 [])) × (1 ≤ count 1 (get_or (laid_out four 0).state.lands 1 []))
two_lands = first_lands file four is_read 0

-- the first path is the one that document 01 says
pub first_path : PathLaid 4 four.ends (whole_plate four) (laid_out four 0).state (laid_out four 1).state
first_path = next_path file four is_read 0 words.0

-- ---- n = 1

-- the second path changes what a path may change
pub second_path : Changed four.ends (laid_out four 1).state (laid_out four 2).state
second_path = next_changes file four is_read 1 words.1

-- ---- n = 2

-- after two paths all channels are laid
pub all_laid_lem : AllLaid (whole_plate four) (laid_out four 2).state
all_laid_lem = (flat_exactly file four is_read 2).0 words.2

-- two is six channels less four ports
pub after_two : length (laid_out four 2).state.paths + 4 ≡ 6
after_two = flat_after file four is_read 2 words.2

-- without a cap there are no more
pub ends_at_two : laid_out four without_cap ≡ laid_out four 2
ends_at_two = end_of_story file four is_read 2 (λ e. flat_partial (sym words.2 ∙ e))

-- the sheet reads back
pub reads_back : judge_sheet (file_of sheet_file 4 6 four.ends (laid_out four 2).state.turns) ≡ given (record { channels = 6; lands = in_order (laid_out four 2).state.lands; flat = true })
reads_back = flat_reads file four is_read 2 words.2

-- ---- a sheet that we did not write: document 01's, with port 0 turned to 0 4 2, which is not flat

abbrev pub turned : Sheet
turned = record { ports = 4; channels = 6; ends = four.ends; turns = 4 ∷ 8 ∷ 0 ∷ 7 ∷ 2 ∷ 11 ∷ 1 ∷ 10 ∷ 6 ∷ 5 ∷ 3 ∷ 9 ∷ [] }

pub turned_read : read_turns (file_of sheet_file 4 6 four.ends turned.turns) ≡ given turned
unfolding from any all keep has seek at concat text bytes number numbers leaves reverse enters darts_at onward ring ports_in channels_in pairs_at ends_in turns_at turns_in file_length file_of refuse refuse_at short other_mark other_version mark_tests outside other_length count_tests strange loop same_pair met_earlier pair_tests file_tests wild_turn away_turn one_ring broken_ring turn_tests read_turns
turned_read = refl

-- its lands are cycles, each dart in one of them
pub turned_accepted : AcceptedSheet turned
turned_accepted = sheet_accepted (file_of sheet_file 4 6 four.ends turned.turns) turned turned_read
