-- Document 01, "Files, numbers little-endian". A format says how a file is laid out; plate files and turn sheets are two.
--   ports_in f b, channels_in f b     V and E, as the bytes b of a file give them
--   pairs_at f                       the byte at which the pairs begin
--   turns_at f e                     the byte at which the turns begin, behind e channels
--   file_length f e                  the length of a file with e channels
--   ends_in f b, turns_in f b         the ports of the pairs; the turns, dart 0 first
--   file_of f v e ends turns         a whole file
-- Assumes nothing.
use Rattle.std.specs.Prelude.{List, ◌++◌, map, ℕ, ◌+◌, ◌*◌}
use Rattle.rules.specs.Lists.{concat, text, bytes, number, numbers}

pub record Limits : Type 0 where
  pub least_ports : ℕ
  pub most_ports : ℕ
  pub least_channels : ℕ
  pub most_channels : ℕ

-- turn_bytes: the bytes of turns for each dart, 0 where no turns follow the pairs
pub record Format : Type 0 where
  pub mark : List ℕ
  pub version : ℕ
  pub port_bytes : ℕ
  pub turn_bytes : ℕ
  pub limits : Limits

-- V (3..200); E (3..600)
abbrev pub limits1 : Limits
limits1 = record { least_ports = 3; most_ports = 200; least_channels = 3; most_channels = 600 }

-- Plate file: bytes 0-2 `FPL`; 3-4 version 1; one-byte port numbers.
abbrev pub plate_file : Format
plate_file = record { mark = text "FPL"; version = 1; port_bytes = 1; turn_bytes = 0; limits = limits1 }

-- Turn sheet: the same with mark `FTS`, then turns of 16 bits.
abbrev pub sheet_file : Format
sheet_file = record { mark = text "FTS"; version = 1; port_bytes = 1; turn_bytes = 2; limits = limits1 }

-- ---- the layout: the mark, 2 bytes of version, V, 2 bytes of E, E pairs of port numbers, and of a sheet 2E turns

-- 5 V
unfoldable pub ports_in : Format → List ℕ → ℕ
ports_in f b = number f.port_bytes 5 b

-- 6-7 E
unfoldable pub channels_in : Format → List ℕ → ℕ
channels_in f b = number 2 (5 + f.port_bytes) b

-- then E pairs
unfoldable pub pairs_at : Format → ℕ
pairs_at f = 7 + f.port_bytes

unfoldable pub ends_in : Format → List ℕ → List ℕ
ends_in f b = numbers f.port_bytes (2 * channels_in f b) (pairs_at f) b

-- then 2E turns, dart 0 first
unfoldable pub turns_at : Format → ℕ → ℕ
turns_at f e = pairs_at f + 2 * e * f.port_bytes

unfoldable pub turns_in : Format → List ℕ → List ℕ
turns_in f b = numbers f.turn_bytes (2 * channels_in f b) (turns_at f (channels_in f b)) b

-- Length 8 + 2E exactly; of a sheet 8 + 6E.
unfoldable pub file_length : Format → ℕ → ℕ
file_length f e = turns_at f e + 2 * e * f.turn_bytes

-- ---- a file that is written

unfoldable pub file_of : Format → ℕ → ℕ → List ℕ → List ℕ → List ℕ
file_of f v e ends turns =
    f.mark ++ bytes 2 f.version ++ bytes f.port_bytes v ++ bytes 2 e
    ++ concat (map (bytes f.port_bytes) ends) ++ concat (map (bytes f.turn_bytes) turns)
