-- Document 01, "The listing program": the bytes that are printed for the bytes of a file.
--   decimal n        the digits of n
--   fields ns        a blank and the digits of each of ns
--   line w ns        the word w, fields, and a newline
--   listing b        the listing of a file
--   write_listing b lent     the listing call, so many bytes being lent;  bytes_left (Laying): the buffer afterwards
-- Assumes nothing.
use Rattle.std.specs.Prelude.{cond, List, [], ◌∷◌, ◌++◌, map, ℕ, zero, suc, ◌+◌, ◌/◌, ◌%◌, ltb, length, get_or}
use Prim.Native.String.{String}
use Rattle.rules.specs.Lists.{from, concat, text}
use Rattle.rules.specs.Terms.{leaves, enters, darts_at, ring}
use Rattle.rules.specs.Files.{plate_file}
use Rattle.rules.specs.Refusals.{Answer, given, refused, Plate, lent_test, read_plate, ◌>>◌}
use Rattle.rules.specs.Laying.{Path, Outcome, FLAT, STUCK, PARTIAL, without_cap, whole_plate, laid_out, first_cycle}

-- ---- lines

-- the digits of n, at most m of them
unfoldable pub digits : ℕ → ℕ → List ℕ
digits zero n = []
digits (suc m) n =
    let higher = digits m (n / 10) in
    cond (ltb n 10) [] higher ++ ((48 + n % 10) ∷ [])

unfoldable pub decimal : ℕ → List ℕ
decimal n = digits (suc n) n

unfoldable pub fields : List ℕ → List ℕ
fields [] = []
fields (n ∷ ns) = 32 ∷ decimal n ++ fields ns

-- Every line ends in a newline.
unfoldable pub line : String → List ℕ → List ℕ
line w ns = text w ++ fields ns ++ (10 ∷ [])

-- ---- Fields: mark, version, V, E

unfoldable pub head_line : Plate → List ℕ
head_line p = plate_file.mark ++ fields (plate_file.version ∷ p.ports ∷ p.channels ∷ []) ++ (10 ∷ [])

-- the cycle's ports from a
unfoldable pub cycle_line : Plate → List ℕ → List ℕ
cycle_line p darts = line "cycle" (map (leaves p.ends) darts)

-- each path's fragment, land, ports
unfoldable pub path_line : Plate → Path → List ℕ
path_line p q = line "path" (q.fragment ∷ q.land ∷ leaves p.ends (get_or q.darts 0 0) ∷ map (enters p.ends) q.darts)

-- the word and number of paths; STUCK prints `STUCK paths name`
unfoldable pub word_line : Outcome → List ℕ
word_line o = elim o.word [
  | FLAT ↦ line "FLAT" (length o.state.paths ∷ [])
  | STUCK ↦ line "STUCK" (length o.state.paths ∷ o.name ∷ [])
  | PARTIAL ↦ line "PARTIAL" (length o.state.paths ∷ [])
]

-- land number and darts: the lands ls, the first having the number i
unfoldable pub land_lines : ℕ → List (List ℕ) → List ℕ
land_lines i [] = []
land_lines i (l ∷ ls) = line "land" (i ∷ l) ++ land_lines (suc i) ls

-- port and its darts clockwise from the smallest
unfoldable pub port_line : Plate → List ℕ → ℕ → List ℕ
port_line p turns q =
    let ds = darts_at p.ends q in
    line "port" (q ∷ ring turns (length ds) (get_or ds 0 0))

-- STUCK prints no land or port lines.
unfoldable pub sheet_lines : Plate → Outcome → List ℕ
sheet_lines p o = elim o.word [
  | FLAT ↦ land_lines 0 o.state.lands ++ concat (map (port_line p o.state.turns) (from 0 p.ports))
  | STUCK ↦ []
  | PARTIAL ↦ []
]

unfoldable pub laid_lines : Plate → List ℕ → Outcome → List ℕ
laid_lines p first o = head_line p ++ cycle_line p first ++ concat (map (path_line p) o.state.paths) ++ word_line o ++ sheet_lines p o

-- A refused file prints only `REFUSED number place`.
unfoldable pub listing_of : Answer Plate → List ℕ
listing_of (given p) = laid_lines p (first_cycle p.ports p.ends (whole_plate p)) (laid_out p without_cap)
listing_of (refused n q) = line "REFUSED" (n ∷ q ∷ [])

unfoldable pub listing : List ℕ → List ℕ
listing b = listing_of (read_plate b)

-- ---- the call

-- The bytes that it is to be lent: no listing has more.
abbrev pub most_listing : ℕ
most_listing = 65536

-- 15: a lent result buffer too short. A refused file has a listing, too.
unfoldable pub write_listing : List ℕ → ℕ → Answer (List ℕ)
write_listing b bytes = do
  lent_test (record { needed = most_listing; lent = bytes } ∷ [])
  given (listing b)
