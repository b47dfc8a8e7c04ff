-- Document 01, "Refusal numbers": 1 to 15, each with its place. (16 is the sheet writer's and stands in Sheets.)
--   Answer A                 what a caller gets: something given, or a refusal with its number and place
--   refuse n bad             refusal n at place 0, where it applies
--   refuse_at n where bad m   refusal n at the place of the lowest of 0, .., m − 1 that is bad
--   file_tests f b            1 to 9, of a file of the format f
--   piece_tests v ends play   10 and 11, over the channels in play
--   turn_tests v ends turns   12 to 14
--   lent_test ls              15: ls has the needed and the lent length of each buffer
--   read_plate b, pairs_of b   a plate file; its pairs, as a part of it
--   read_turns b              a turn sheet
-- Assumes nothing.
use Rattle.std.specs.Prelude.{Bool, true, cond, not, ◌&&◌, ◌||◌, List, [], ◌∷◌, ℕ, ◌-◌, ◌*◌, eqb, ltb, leb, length, get_or, take, drop, replicate}
use Rattle.rules.specs.Lists.{from, any, all, has, seek, at, number}
use Rattle.rules.specs.Terms.{leaves, enters, darts_at, onward, ring}
use Rattle.rules.specs.Files.{Format, plate_file, sheet_file, ports_in, channels_in, pairs_at, ends_in, turns_at, turns_in, file_length}
use Rattle.rules.specs.Ways.{reached}

pub data Answer (A : Type 0) : Type 0 where
  given : A → Answer A
  refused : ℕ → ℕ → Answer A

-- Order: the lowest number that applies is given, and each test covers the whole file before the next starts.
infixr 10 ◌>>◌
infixr 10 ◌>>=◌
abbrev pub ◌>>=◌ : {A B : Type 0} → Answer A → (A → Answer B) → Answer B
given a >>= f = f a
refused n p >>= f = refused n p

-- a test that gives nothing but leave to go on
abbrev pub Test : Type 0
Test = Answer (Unit {0})

abbrev pub ◌>>◌ : {B : Type 0} → Test → Answer B → Answer B
t >> a = t >>= λ u. a

abbrev pub passed : Test
passed = given tt

unfoldable pub refuse : ℕ → Bool → Test
refuse n bad = cond bad (refused n 0) passed

unfoldable pub refuse_at : ℕ → (ℕ → ℕ) → (ℕ → Bool) → ℕ → Test
refuse_at n place bad m = cond (ltb (seek bad 0 m) m) (refused n (place (seek bad 0 m))) passed

-- ---- 1 to 3: the first bytes

-- 1: fewer than 8 bytes
unfoldable pub short : Format → List ℕ → Bool
short f b = ltb (length b) (pairs_at f)

-- 2: wrong mark
unfoldable pub other_mark : Format → List ℕ → Bool
other_mark f b = not (all (λ i. eqb (get_or b i 0) (get_or f.mark i 0)) (from 0 3))

-- 3: version not 1
unfoldable pub other_version : Format → List ℕ → Bool
other_version f b = not (eqb (number 2 3 b) f.version)

unfoldable pub mark_tests : Format → List ℕ → Test
mark_tests f b = do
  refuse 1 (short f b)
  refuse 2 (other_mark f b)
  refuse 3 (other_version f b)

-- ---- 4 to 6: the counts and the length

-- 4: V outside 3..200; 5: E outside 3..600
unfoldable pub outside : ℕ → ℕ → ℕ → Bool
outside low high n = ltb n low || ltb high n

-- 6: length differs from the layout
unfoldable pub other_length : Format → List ℕ → Bool
other_length f b = not (eqb (length b) (file_length f (channels_in f b)))

unfoldable pub count_tests : Format → List ℕ → Test
count_tests f b = do
  refuse 4 (outside f.limits.least_ports f.limits.most_ports (ports_in f b))
  refuse 5 (outside f.limits.least_channels f.limits.most_channels (channels_in f b))
  refuse 6 (other_length f b)

-- ---- 7 to 9: channel k, of v ports

-- 7: a port number of V or more
unfoldable pub strange : ℕ → List ℕ → ℕ → Bool
strange v ends k = leb v (leaves ends (2 * k)) || leb v (enters ends (2 * k))

-- 8: both ends of a channel equal
unfoldable pub loop : List ℕ → ℕ → Bool
loop ends k = eqb (leaves ends (2 * k)) (enters ends (2 * k))

-- 9: a pair met earlier, either way round
unfoldable pub same_pair : List ℕ → ℕ → ℕ → Bool
same_pair ends j k =
    eqb (leaves ends (2 * j)) (leaves ends (2 * k)) && eqb (enters ends (2 * j)) (enters ends (2 * k))
    || eqb (leaves ends (2 * j)) (enters ends (2 * k)) && eqb (enters ends (2 * j)) (leaves ends (2 * k))

unfoldable pub met_earlier : List ℕ → ℕ → Bool
met_earlier ends k = any (λ j. same_pair ends j k) (from 0 k)

-- the place of 7, 8 and 9: the lowest such channel
abbrev pub place_of_channel : ℕ → ℕ
place_of_channel k = k

unfoldable pub pair_tests : ℕ → List ℕ → ℕ → Test
pair_tests v ends e = do
  refuse_at 7 place_of_channel (strange v ends) e
  refuse_at 8 place_of_channel (loop ends) e
  refuse_at 9 place_of_channel (met_earlier ends) e

unfoldable pub file_tests : Format → List ℕ → Test
file_tests f b = do
  mark_tests f b
  count_tests f b
  pair_tests (ports_in f b) (ends_in f b) (channels_in f b)

-- ---- 10 and 11: port p, over the channels in play

-- the place of 10, 11 and 14: the lowest such port; of 12 and 13: the lowest such dart
abbrev pub itself : ℕ → ℕ
itself p = p

-- 10: a port not reachable from port 0
unfoldable pub apart : ℕ → List ℕ → List Bool → ℕ → Bool
apart v ends play p = not (at (reached v ends play (λ q. true) 0) p)

-- 11: removing one port leaves the others in two or more pieces: without port c, some other port is not reached from the lowest other port
unfoldable pub cuts : ℕ → List ℕ → List Bool → ℕ → Bool
cuts v ends play c =
    any (λ p. not (eqb p c) && not (at (reached v ends play (λ q. not (eqb q c)) (cond (eqb c 0) 1 0)) p)) (from 0 v)

unfoldable pub piece_tests : ℕ → List ℕ → List Bool → Test
piece_tests v ends play = do
  refuse_at 10 itself (apart v ends play) v
  refuse_at 11 itself (cuts v ends play) v

-- ---- 12 to 14: the turns

-- 12: a turn of 2E or more
unfoldable pub wild_turn : List ℕ → List ℕ → ℕ → Bool
wild_turn ends turns d = leb (length ends) (get_or turns d 0)

-- 13: a turn that leaves another port
unfoldable pub away_turn : List ℕ → List ℕ → ℕ → Bool
away_turn ends turns d = not (eqb (leaves ends (get_or turns d 0)) (leaves ends d))

-- The darts ds form one ring: as many turns as they are, from the first on, meet each of them and come back to the first.
unfoldable pub one_ring : List ℕ → List ℕ → Bool
one_ring turns [] = true
one_ring turns (d ∷ ds) =
    all (has (ring turns (length (d ∷ ds)) d)) (d ∷ ds) && eqb (onward turns (length (d ∷ ds)) d) d

-- 14: a port's darts, where it has any, do not form one ring
unfoldable pub broken_ring : List ℕ → List ℕ → ℕ → Bool
broken_ring ends turns p = not (one_ring turns (darts_at ends p))

unfoldable pub turn_tests : ℕ → List ℕ → List ℕ → Test
turn_tests v ends turns = do
  refuse_at 12 itself (wild_turn ends turns) (length ends)
  refuse_at 13 itself (away_turn ends turns) (length ends)
  refuse_at 14 itself (broken_ring ends turns) v

-- ---- 15: a lent result buffer too short

-- a buffer that a call fills: the elements it needs and those that were lent
pub record Lent : Type 0 where
  pub needed : ℕ
  pub lent : ℕ

unfoldable pub lent_test : List Lent → Test
lent_test ls = refuse 15 (any (λ l. ltb l.lent l.needed) ls)

-- ---- A caller gets either a read plate or a refusal with its place.

pub record Plate : Type 0 where
  pub ports : ℕ
  pub channels : ℕ
  pub ends : List ℕ

-- Plates: 1-11.
unfoldable pub read_plate : List ℕ → Answer Plate
read_plate b =
    let v = ports_in plate_file b in
    let e = channels_in plate_file b in
    let ends = ends_in plate_file b in do
      file_tests plate_file b
      piece_tests v ends (replicate e true)
      given (record { ports = v; channels = e; ends = ends })

-- The pairs are handed back as that part of the caller's own file, empty when the file is refused.
unfoldable pub pairs_part : Answer Plate → List ℕ → List ℕ
pairs_part (given p) b = take (turns_at plate_file p.channels - pairs_at plate_file) (drop (pairs_at plate_file) b)
pairs_part (refused n p) b = []

unfoldable pub pairs_of : List ℕ → List ℕ
pairs_of b = pairs_part (read_plate b) b

pub record Sheet : Type 0 where
  pub ports : ℕ
  pub channels : ℕ
  pub ends : List ℕ
  pub turns : List ℕ

-- Turn sheets: 1-9, 12-14, and no 10 or 11.
unfoldable pub read_turns : List ℕ → Answer Sheet
read_turns b =
    let v = ports_in sheet_file b in
    let e = channels_in sheet_file b in
    let ends = ends_in sheet_file b in
    let turns = turns_in sheet_file b in do
      file_tests sheet_file b
      turn_tests v ends turns
      given (record { ports = v; channels = e; ends = ends; turns = turns })
