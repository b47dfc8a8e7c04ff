-- Document 01, "Plates to try": every row of the table (specs/Table) gives what document 01 says, by computation.
-- Assumes nothing.
use Rattle.std.specs.Prelude.{◌≡◌, refl, map}
use Rattle.rules.specs.Lists.{from, any, all, keep, has, seek, at, concat, text, bytes, number, numbers}
use Rattle.rules.specs.Terms.{leaves, reverse, enters, there, laid, next, walk, least, turn_to, listed, visits, gather, lands_of, darts_at, onward, ring}
use Rattle.rules.specs.Files.{ports_in, channels_in, pairs_at, ends_in, turns_at, turns_in, file_length, file_of}
use Rattle.rules.specs.Ways.{iter, mark, grow, layers, leads, closer, nearest, descend, path, reached}
use Rattle.rules.specs.Refusals.{refuse, refuse_at, short, other_mark, other_version, mark_tests, outside, other_length, count_tests, strange, loop, same_pair, met_earlier, pair_tests, file_tests, apart, cuts, piece_tests, wild_turn, away_turn, one_ring, broken_ring, turn_tests, lent_test, read_plate, pairs_part, pairs_of, read_turns}
use Rattle.rules.specs.Laying.{back, first, last, before, since, link, around, split_turns, split_lands, without, single, lowest, chosen, stuck_or, laid_ports, admissible, cycle, start, within, seed, fragment_at, settled, fragments, contacts_of, choice_of, choices, lay, all_laid, judge, rounds, first_channel, first_cycle, laying, laid_out, lands_of_flat, lay_plate, told, filled, bytes_left, turns_left, lands_left, lengths_left}
use Rattle.rules.specs.Sheets.{is_flat, judged, judge_sheet, read_sheet, counted, darts_read, lengths_read, stuck_test, write_sheet}
use Rattle.rules.specs.Mill.{refusal_number, done_number, write_number, flat_number, judge_number}
use Rattle.rules.specs.Listing.{digits, decimal, fields, line, head_line, cycle_line, path_line, word_line, land_lines, port_line, sheet_lines, laid_lines, listing_of, listing}
use Rattle.rules.specs.Table.{Row, word_of, lands_seen, enough, seen, plate, triangle, four, five, three_and_three, printed, turned, listed_four, table}

pub tried : map (λ (r : Row). seen r.try) table ≡ map (λ (r : Row). r.gives) table
unfolding table seen word_of lands_seen enough plate triangle four five three_and_three printed turned listed_four from any all keep has seek at concat text bytes number numbers leaves reverse enters there laid next walk least turn_to listed visits gather lands_of darts_at onward ring ports_in channels_in pairs_at ends_in turns_at turns_in file_length file_of iter mark grow layers leads closer nearest descend path reached refuse refuse_at short other_mark other_version mark_tests outside other_length count_tests strange loop same_pair met_earlier pair_tests file_tests apart cuts piece_tests wild_turn away_turn one_ring broken_ring turn_tests lent_test read_plate pairs_part pairs_of read_turns back first last before since link around split_turns split_lands without single lowest chosen stuck_or laid_ports admissible cycle start within seed fragment_at settled fragments contacts_of choice_of choices lay all_laid judge rounds first_channel first_cycle laying laid_out lands_of_flat lay_plate told filled turns_left lands_left lengths_left is_flat judged judge_sheet read_sheet counted darts_read lengths_read stuck_test write_sheet bytes_left refusal_number done_number write_number flat_number judge_number digits decimal fields line head_line cycle_line path_line word_line land_lines port_line sheet_lines laid_lines listing_of listing
tried = refl
