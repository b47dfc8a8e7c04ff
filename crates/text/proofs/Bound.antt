-- No listing has more than `most_listing` bytes, whatever the file.
-- laid_few: the listing of a plate that is read. listing_most: the listing of any file.
-- The cycle's and paths' darts together are at most E, the lands' and the ports' darts at most 2E each, the paths and lands at most E, and every number printed is below 100,000.
-- Assumes nothing.
use mathlib.Core.Path.{◌≡◌, refl}
use mathlib.Core.List.{List, [], ◌∷◌, ◌++◌, map}
use Prim.Native.Nat.{ℕ, zero, suc, ◌+◌, ◌*◌, ◌<◌, ◌≤◌}
use native.Mathlib.Omega.{arith}
use native.Mathlib.Decide.{dec_lt}
use lib.Dec.{eqb}
use lib.ListN.{length, get_or, length-append, length-map, get_or-eq_default}
use Rattle.rules.specs.Lists.{from, concat, text}
use Rattle.rules.specs.Terms.{leaves, darts_at, laid, ring}
use Rattle.rules.specs.Refusals.{Answer, given, refused, Plate, read_plate}
use Rattle.rules.specs.Laying.{Word, FLAT, STUCK, PARTIAL, Outcome, without_cap, whole_plate, laid_out, first_cycle, lands_of_flat}
use Rattle.rules.specs.Listing.{fields, line, head_line, cycle_line, path_line, land_lines, port_line, word_line, sheet_lines, laid_lines, listing_of, listing, most_listing}
use Rattle.laws.proofs.Counts.{T_flag, count, count_head}
use Rattle.laws.proofs.Lists.{all_weaken}
use Rattle.laws.proofs.Links.{laid_lt}
use Rattle.laws.proofs.Reading.{Accepted, accepted, kept_laid_out}
use Rattle.laws.proofs.Small.{Small, small_read, laid_name}
use Rattle.laws.proofs.Turns.{turn_laid}
use Rattle.laws.proofs.Counting.{length_concat, paths_most, lands_most, darts_most, flat_laid, rows_lt}
use Rattle.land.specs.Walks.{Below, BelowAll}
use Rattle.land.proofs.Laws.{below_all}
use Rattle.text.proofs.Laid.{darts_all, Drawn, lined_laid}
use Rattle.text.proofs.Lengths.{most, below_map, fields_few, line_few, leaves_small, paths_few, lands_few, ports_few, degrees_few}

-- ---- a plate that is read

-- the darts of a port are darts
pub darts_lt : (ends : List ℕ) (q z : ℕ) → 1 ≤ count z (darts_at ends q) → z < length ends
unfolding darts_at
darts_lt ends q z k = rows_lt (λ d. eqb (leaves ends d) q) (length ends) z k

module _ (b : List ℕ) (p : Plate) (h : read_plate b ≡ given p) (n : ℕ) where
  abbrev A : Accepted p
  A = accepted b p h

  abbrev o : Outcome
  o = laid_out p n

  abbrev cyc : List ℕ
  cyc = first_cycle p.ports p.ends (whole_plate p)

  port_small : (d : ℕ) → get_or p.ends d 0 < most
  unfolding leaves
  port_small d = go (dec_lt d (length p.ends))
    where
      go : Dec (d < length p.ends) → get_or p.ends d 0 < most
      go (yes l) = omega (arith, A.inn d l, A.ports.1)
      go (no l) = omega (arith, get_or-eq_default p.ends 0 {n = d} (omega arith))

  -- cycle and paths have at most E darts
  darts_few : length cyc + darts_all o.state.paths ≤ p.channels
  darts_few = omega (arith, (lined_laid b p h n).total, length_concat o.state.lands, darts_most b p h n)

  head_few : length (head_line p) ≤ 22
  unfolding head_line text
  head_few = omega (arith, length-append (text "FPL" ++ fields (1 ∷ p.ports ∷ p.channels ∷ [])) (10 ∷ []), length-append (text "FPL") (fields (1 ∷ p.ports ∷ p.channels ∷ [])), fields_few (1 ∷ p.ports ∷ p.channels ∷ []) (omega arith, (omega (arith, A.ports.1), (omega (arith, A.channels.1), tt))))

  cycle_few : length (cycle_line p cyc) ≤ 6 + 6 * length cyc
  unfolding cycle_line text
  cycle_few = omega (arith, line_few "cycle" (map (leaves p.ends) cyc) (below_map most (leaves p.ends) (leaves_small p port_small) cyc), length-map cyc (leaves p.ends))

  lands_count : length o.state.lands ≤ 602
  unfolding lands_of_flat
  lands_count = omega (arith, lands_most b p h n, A.channels.1)

  path_lines_few : length (concat (map (path_line p) o.state.paths)) ≤ 23 * length o.state.paths + 6 * darts_all o.state.paths
  path_lines_few =
      paths_few p port_small o.state.paths
      (all_weaken (Drawn (length p.ends) p.channels (length o.state.lands)) _ (λ q d. (omega (arith, d.fragment, A.channels.1), omega (arith, d.land, lands_count))) o.state.paths (lined_laid b p h n).drawn)

  word_few : length (word_line o) ≤ 20
  unfolding word_line text
  word_few = go o.word refl
    where
      few : length o.state.paths < most
      few = omega (arith, paths_most b p h n, A.channels.1)

      go : (w : Word) → o.word ≡ w → length {A = ℕ} (elim w as (λ x. List ℕ) [ FLAT ↦ line "FLAT" (length o.state.paths ∷ []) | STUCK ↦ line "STUCK" (length o.state.paths ∷ o.name ∷ []) | PARTIAL ↦ line "PARTIAL" (length o.state.paths ∷ []) ]) ≤ 20
      go FLAT e = omega (arith, line_few "FLAT" (length o.state.paths ∷ []) (few, tt))
      go STUCK e = omega (arith, line_few "STUCK" (length o.state.paths ∷ o.name ∷ []) (few, (omega (arith, laid_name b p h n e, A.channels.1), tt)))
      go PARTIAL e = omega (arith, line_few "PARTIAL" (length o.state.paths ∷ []) (few, tt))

  -- ---- the lands and ports of a plate that is FLAT

  lands_below : BelowAll most o.state.lands
  lands_below =
      let K = kept_laid_out b p h n in
      below_all most o.state.lands (λ z c. omega (arith, laid_lt o.state.turns z (T_flag (laid o.state.turns z) (omega (arith, K.sound.cover z))), K.long, A.size, A.channels.1))

  ring_below : o.word ≡ FLAT → (m d : ℕ) → d < length p.ends → Below most (ring o.state.turns m d)
  unfolding ring
  ring_below w zero d l = tt
  ring_below w (suc m) d l =
      let K = kept_laid_out b p h n in
      (omega (arith, A.size, A.channels.1), ring_below w m (get_or o.state.turns d 0) (omega (arith, K.long, laid_lt o.state.turns (get_or o.state.turns d 0) (turn_laid p.ends o.state K.sound d (flat_laid b p h n w d l)))))

  port_below : o.word ≡ FLAT → (q : ℕ) → Below most (ring o.state.turns (length (darts_at p.ends q)) (get_or (darts_at p.ends q) 0 0))
  unfolding ring
  port_below w q = go (darts_at p.ends q) (darts_lt p.ends q)
    where
      go : (l : List ℕ) → ((z : ℕ) → 1 ≤ count z l → z < length p.ends) → Below most (ring o.state.turns (length l) (get_or l 0 0))
      go [] k = tt
      go (d ∷ l) k = ring_below w (length (d ∷ l)) d (k d (count_head d l))

  sheet_few : length (sheet_lines p o) ≤ 24000
  unfolding sheet_lines
  sheet_few = go o.word refl
    where
      go : (w : Word) → o.word ≡ w → length {A = ℕ} (elim w as (λ x. List ℕ) [ FLAT ↦ land_lines 0 o.state.lands ++ concat (map (port_line p o.state.turns) (from 0 p.ports)) | STUCK ↦ [] | PARTIAL ↦ [] ]) ≤ 24000
      go FLAT e =
          omega (
            arith,
            length-append (land_lines 0 o.state.lands) (concat (map (port_line p o.state.turns) (from 0 p.ports))),
            lands_few 0 o.state.lands (omega (arith, lands_count)) lands_below,
            length_concat o.state.lands,
            darts_most b p h n,
            lands_count,
            ports_few p o.state.turns 0 p.ports (omega (arith, A.ports.1)) (port_below e),
            degrees_few p.ends 0 p.ports,
            A.size,
            A.ports.1,
            A.channels.1,
          )
      go STUCK e = omega arith
      go PARTIAL e = omega arith

  pub laid_few : length (laid_lines p cyc o) ≤ most_listing
  unfolding laid_lines
  laid_few =
      omega (
        arith,
        length-append (head_line p ++ cycle_line p cyc ++ concat (map (path_line p) o.state.paths) ++ word_line o) (sheet_lines p o),
        length-append (head_line p ++ cycle_line p cyc ++ concat (map (path_line p) o.state.paths)) (word_line o),
        length-append (head_line p ++ cycle_line p cyc) (concat (map (path_line p) o.state.paths)),
        length-append (head_line p) (cycle_line p cyc),
        head_few,
        cycle_few,
        path_lines_few,
        word_few,
        sheet_few,
        darts_few,
        paths_most b p h n,
        A.channels.1,
      )

-- ---- any file

pub listing_most : (b : List ℕ) → length (listing b) ≤ most_listing
unfolding listing listing_of text
listing_most b = go (read_plate b) refl (small_read b)
  where
    go : (a : Answer Plate) → read_plate b ≡ a → Small a → length (listing_of a) ≤ most_listing
    go (given p) e k = laid_few b p e without_cap
    go (refused n q) e k = omega (arith, line_few "REFUSED" (n ∷ q ∷ []) (omega (arith, k.0), (omega (arith, k.1), tt)))
