-- The demands, for an auditor to read from top to bottom: a sentence, the statement that says it, and where its proof stands.
-- b is any file, p the plate that it is read into, n the number of paths allowed, s the sheet that a file is read into; nothing else is supposed of them. `Four` shows such a file.
--   t, ls               after at most n paths: the turns, and the lands in number order
--   laid_ports_of, laid_channels (Counting), in_order (InOrder), Ended (Verdicts), PathLaid (PathMeaning), FragmentsMean (FragmentMeaning), Changed (Changes), SamePath, Exact and its rows (RefusalTable), AcceptedSheet: read them where they stand
-- The statements hold of any set of channels in play that is connected without a cut port among the ports it touches (Rounds.Layable, Reaches.Wide), under the names that are cited here: laying_ended, laying_stays, laying_path, cycle_lands, same_path, changed_laying, once_land, one_ring_laying, lands_of_kept, ports_counted, ..
-- The fakes of document 01, "How tight the statements are": each is named at the statement that excludes it.
-- Assumes nothing.
use mathlib.Core.Path.{◌≡◌, subst, sym, ap, ◌∙◌}
use mathlib.Core.Logic.{◌≢◌, ◌⊎◌, ◌↔◌, ⊎_elim}
use mathlib.Core.Bool.{Bool, true}
use mathlib.Core.List.{List, [], ◌∷◌, ◌++◌, map}
use Prim.Native.Nat.{ℕ, suc, ◌+◌, ◌*◌, ◌≤◌, ◌<◌}
use native.Mathlib.Nat.{eq-zero-or-pos}
use native.Mathlib.Omega.{arith}
use lib.Dec.{T, eqb}
use lib.ListN.{length, get_or}
use Rattle.rules.specs.Lists.{at}
use Rattle.rules.specs.Terms.{leaves, next, walk, listed, lands_of, darts_at}
use Rattle.rules.specs.Files.{sheet_file, file_length, file_of}
use Rattle.rules.specs.Refusals.{given, passed, Plate, Sheet, read_plate, read_turns, one_ring, broken_ring, turn_tests}
use Rattle.rules.specs.Laying.{FLAT, STUCK, PARTIAL, Fragment, back, first, lay, start, first_channel, first_cycle, laying, without_cap, whole_plate, laid_out, lands_of_flat, lay_plate}
use Rattle.rules.specs.Sheets.{is_flat, judged, judge_sheet, read_sheet, write_sheet}
use Rattle.rules.specs.Listing.{listing, write_listing}
use Rattle.laws.proofs.Tests.{not_not}
use Rattle.laws.proofs.Counts.{count}
use Rattle.laws.proofs.Runs.{Land}
use Rattle.laws.proofs.Sound.{count_all, all_at, count_at}
use Rattle.laws.proofs.Choices.{Ready, Open, Sensible, choices_sensible, judge_ready}
use Rattle.laws.proofs.Reaches.{Wide}
use Rattle.laws.proofs.Rounds.{Layable}
use Rattle.laws.proofs.Reading.{accepted, layable, channel_play, plate_in}
use Rattle.laws.proofs.Afresh.{afresh_laid_out}
use Rattle.laws.proofs.InOrder.{in_order, heads_at, lands_of_laid_out}
use Rattle.laws.proofs.Counting.{laid_ports_of, laid_channels, ports_laid_out, paths_laid_out, flat_laid, paths_flat, lands_flat, lands_most}
use Rattle.laws.proofs.Turns.{count_found, count_single, land_next, turn_port_laying}
use Rattle.laws.proofs.Visits.{once_land}
use Rattle.laws.proofs.Rings.{unbroken_laying}
use Rattle.laws.proofs.Changes.{Changed, changed_lay}
use Rattle.laws.proofs.FragmentMeaning.{IsFragment, FragmentsMean, fragments_laid_out}
use Rattle.laws.proofs.Verdicts.{AllLaid, Barred, StuckAt, OneWord, Ended, ended_laid_out, whole_laid_out, wide, partial_ready, judge_chosen, laying_over, laying_stays, laying_end, laying_next_state}
use Rattle.laws.proofs.PathMeaning.{PathLaid, CycleMeans, laid_out_path, laid_out_cycle, laid_out_lands}
use Rattle.laws.proofs.SamePath.{SamePath, same_path}
use Rattle.laws.proofs.RefusalTable.{Exact, Passes, Refuses, exact_either, plate_rows, sheet_rows, sheet_in, lent_row, stuck_row, lay_needs, write_needs, list_needs, read_needs, read_plate_exact, read_turns_exact, lay_plate_exact, write_sheet_exact, write_listing_exact, read_sheet_exact, judge_sheet_exact}
use Rattle.laws.proofs.AcceptedSheet.{AcceptedSheet, accepted_sheet, judge_given, read_given}
use Rattle.laws.proofs.RoundTrip.{turns_read, sheet_judged, write_word}

-- ---- Demand 1. Every file, of every length and content, gets an answer. (Every definition computes, so every run ends.)

module _ (b : List ℕ) where
  -- A bad file is refused with the number and place that document 01 fixes, and no other is: the first row of its table that applies. This excludes the program that refuses everything.
  pub plate_answer : Exact (read_plate b) (plate_in b) (plate_rows b)
  plate_answer = read_plate_exact b

  pub sheet_answer : Exact (read_turns b) (sheet_in b) (sheet_rows b)
  sheet_answer = read_turns_exact b

  -- A lent buffer too short is refused after the file's own tests. So it is with each call: laying, reading a sheet, judging one, and writing one, which also gives 16.
  pub lay_answer : (n turns lands lengths : ℕ)
      → Exact (lay_plate b n turns lands lengths) (record { plate = plate_in b; outcome = laid_out (plate_in b) n }) (plate_rows b ++ lent_row (lay_needs (plate_in b) turns lands lengths) ∷ [])
  lay_answer = lay_plate_exact b

  pub read_answer : (darts lengths : ℕ) → Exact (read_sheet b darts lengths) (judged (sheet_in b)) (sheet_rows b ++ lent_row (read_needs (sheet_in b) darts lengths) ∷ [])
  read_answer = read_sheet_exact b

  pub judge_answer : Exact (judge_sheet b) (judged (sheet_in b)) (sheet_rows b)
  judge_answer = judge_sheet_exact b

  pub write_answer : (bytes : ℕ)
      → Exact (write_sheet b bytes) (file_of sheet_file (plate_in b).ports (plate_in b).channels (plate_in b).ends (laid_out (plate_in b) without_cap).state.turns)
      (plate_rows b ++ lent_row (write_needs (plate_in b) bytes) ∷ stuck_row (laid_out (plate_in b) without_cap) ∷ [])
  write_answer = write_sheet_exact b

  -- The listing call lists every file, also one that is refused; it refuses a short buffer alone.
  pub list_answer : (bytes : ℕ) → Exact (write_listing b bytes) (listing b) (lent_row (list_needs bytes) ∷ [])
  list_answer = write_listing_exact b

  -- One of the two always is the case.
  pub always : Passes (plate_rows b) ⊎ ((n : ℕ) × ((p : ℕ) × Refuses (plate_rows b) n p))
  always = exact_either (read_plate b) (plate_in b) (plate_rows b) (read_plate_exact b)

-- ---- what one path changes, of any layable set of channels in play

pub changed_laying : (np : ℕ) (ps : List ℕ) (on : List Bool) → Layable np ps on → Wide ps on → (c : ℕ) → T (at on c) → (n : ℕ) → (laying np ps on n).word ≡ PARTIAL
    → Changed ps (laying np ps on n).state (laying np ps on (suc n)).state
unfolding laying
changed_laying np ps on G many c o n e =
    let s = (laying np ps on n).state in
    let r = partial_ready np ps on n (start np ps on (first_channel np ps on)) e in
    let k : Sensible np ps on s r.0 × Open r.0 = subst (Ready (λ d. Sensible np ps on s d × Open d)) r.1 (judge_ready np ps on s (Sensible np ps on s) (choices_sensible np ps on s)) in
    ⊎_elim
    (λ h. subst (Changed ps s) (ap (lay np ps on s) (judge_chosen np ps on s r.0 r.1) ∙ sym h.1) (changed_lay np ps on G many c o n r.0 k.0 k.1))
    (λ h. absurd (h.0 e)) (laying_next_state np ps on n)

module _ (b : List ℕ) (p : Plate) (h : read_plate b ≡ given p) (n : ℕ) where
  abbrev t : List ℕ
  t = (laid_out p n).state.turns

  abbrev ls : List (List ℕ)
  ls = (laid_out p n).state.lands

  -- ---- Demand 2. The answer is the one that the published path-laying rules give, with document 01's choices.

  ended : Ended p.ports p.ends (whole_plate p) n (laid_out p n)
  ended = ended_laid_out b p h n

  -- FLAT exactly when all channels are laid. This excludes the program that says FLAT each time.
  pub flat_exactly : ((laid_out p n).word ≡ FLAT) ↔ AllLaid (whole_plate p) (laid_out p n).state
  flat_exactly = ended.flat

  -- STUCK exactly when a fragment has no land that visits all its contacts. This excludes the program that says STUCK each time.
  pub stuck_exactly : ((laid_out p n).word ≡ STUCK)
      ↔ ((f : Fragment) × IsFragment p.ports p.ends (whole_plate p) (laid_out p n).state f × Barred p.ports p.ends (whole_plate p) (laid_out p n).state f)
  stuck_exactly = ended.stuck

  -- PARTIAL exactly when neither holds and the allowed paths are used up.
  pub partial_exactly : ((laid_out p n).word ≡ PARTIAL)
      ↔ ((AllLaid (whole_plate p) (laid_out p n).state → ⊥)
      × ((f : Fragment) → IsFragment p.ports p.ends (whole_plate p) (laid_out p n).state f → Barred p.ports p.ends (whole_plate p) (laid_out p n).state f → ⊥)
      × (length (laid_out p n).state.paths ≡ n))
  partial_exactly = ended.partial

  -- Exactly one of the three.
  pub one_word : OneWord (laid_out p n).word
  one_word = ended.word

  -- STUCK has the lowest such name, which is never 0; otherwise the name is 0.
  pub stuck_name : (laid_out p n).word ≡ STUCK → StuckAt p.ports p.ends (whole_plate p) (laid_out p n).state (laid_out p n).name
  stuck_name = ended.lowest

  pub stuck_beyond : (laid_out p n).word ≡ STUCK → first_channel p.ports p.ends (whole_plate p) < (laid_out p n).name
  stuck_beyond = ended.beyond

  pub no_name : (laid_out p n).word ≢ STUCK → (laid_out p n).name ≡ 0
  no_name = ended.nameless

  -- Laying without a cap is never PARTIAL.
  pub whole_not_partial : (laid_out p without_cap).word ≢ PARTIAL
  whole_not_partial = whole_laid_out b p h

  -- Nothing after the end: where n paths leave nothing to lay, one more allowed gives the same outcome, and so does any number more.
  pub nothing_after : (laid_out p n).word ≢ PARTIAL → laid_out p (suc n) ≡ laid_out p n
  unfolding laid_out
  nothing_after = laying_over p.ports p.ends (whole_plate p) n

  pub nothing_ever : (m : ℕ) → n ≤ m → (laid_out p n).word ≢ PARTIAL → laid_out p m ≡ laid_out p n
  unfolding laid_out
  nothing_ever m = laying_stays p.ports p.ends (whole_plate p) n m

  -- So what is laid without a cap, which is written and listed, is where the story that is told path by path ends.
  pub end_of_story : (laid_out p n).word ≢ PARTIAL → laid_out p without_cap ≡ laid_out p n
  unfolding laid_out
  end_of_story w = laying_end p.ports p.ends (whole_plate p) n without_cap w whole_not_partial

  -- There are never more paths than n.
  pub paths_allowed : length (laid_out p n).state.paths ≤ n
  paths_allowed = ended.most

  -- The fragments are the connected sets of unlaid ports with every channel that touches them, and the single channels between laid ports; names, contacts and admissible lands are as document 01 says.
  pub fragments : FragmentsMean p.ports p.ends (whole_plate p) (laid_out p n).state
  fragments = fragments_laid_out b p h n

  -- The first cycle begins with channel 0 and comes back by the way that has fewest channels and, among those, the smallest list of ports.
  pub first_cycle_lem : (first_channel p.ports p.ends (whole_plate p) ≡ 0)
      × CycleMeans p.ports p.ends (whole_plate p) 0 (first_cycle p.ports p.ends (whole_plate p))
      × ((laid_out p 0).state ≡ start p.ports p.ends (whole_plate p) 0)
  first_cycle_lem = laid_out_cycle b p h

  -- It leaves two lands, itself and itself walked backwards: land 0 holds dart 0, land 1 holds dart 1. (A later path may take dart 0 into a land with a new number.)
  pub first_lands : ((laid_out p 0).state.lands ≡ listed (first_cycle p.ports p.ends (whole_plate p)) ∷ listed (back (first_cycle p.ports p.ends (whole_plate p))) ∷ [])
      × (1 ≤ count 0 (get_or (laid_out p 0).state.lands 0 [])) × (1 ≤ count 1 (get_or (laid_out p 0).state.lands 1 []))
  first_lands = laid_out_lands b p h

  -- Where more can be laid, the next path is the one that document 01 says: its fragment, its land, its ends, fewest channels first, then smallest list of ports, over all paths.
  pub next_path : (laid_out p n).word ≡ PARTIAL → PathLaid p.ports p.ends (whole_plate p) (laid_out p n).state (laid_out p (suc n)).state
  next_path = laid_out_path b p h n

  -- ---- Demand 3. For every accepted plate and every number of paths laid so far.

  -- The lands kept equal the lands walked afresh from the turns: in order of smallest dart they are what sheet reading gives, and each is the walk from its first dart. With the answer's contents this excludes the program that returns without writing.
  pub lands_afresh : lands_of t ≡ in_order ls
  lands_afresh = lands_of_laid_out b p h n

  pub land_afresh : (i : ℕ) → i < length ls → walk t (length t) (first (get_or ls i [])) (first (get_or ls i [])) ≡ get_or ls i []
  land_afresh = afresh_laid_out b p h n

  -- Each path replaces exactly one land by two and leaves every other land dart for dart (lands, others, darts); turns change only at ports of the path (turns); older darts keep their cyclic order (order, rings).
  -- This excludes the program that lays the first cycle or path and copies that state for later n.
  pub next_changes : (laid_out p n).word ≡ PARTIAL → Changed p.ends (laid_out p n).state (laid_out p (suc n)).state
  unfolding laid_out
  next_changes =
      let A = accepted b p h in
      changed_laying p.ports p.ends (whole_plate p) (layable p A) (wide p A) 0 (channel_play p A) n

  -- It is one path: that of next_path and that of next_changes have the same name, land, darts and ends.
  pub next_same : (w : (laid_out p n).word ≡ PARTIAL) → SamePath p.ports p.ends (whole_plate p) (laid_out p n).state (laid_out p (suc n)).state (next_path w) (next_changes w)
  next_same w = same_path p.ports p.ends (whole_plate p) (laid_out p n).state (laid_out p (suc n)).state (next_path w) (next_changes w)

  -- No land visits a port twice.
  pub visits_once : (i : ℕ) → i < length ls → (q : ℕ) → count q (map (leaves p.ends) (get_or ls i [])) ≤ 1
  unfolding laid_out
  visits_once =
      let A = accepted b p h in
      once_land p.ports p.ends (whole_plate p) (layable p A) (wide p A) 0 (channel_play p A) n

  -- Laid ports − laid channels + lands = 2.
  pub euler : length (laid_ports_of p.ports p.ends t) + length ls ≡ length (laid_channels p.channels t) + 2
  euler = ports_laid_out b p h n

  -- The number of paths is laid channels − laid ports. This excludes the program that invents the number of paths.
  pub paths_counted : length (laid_out p n).state.paths + length (laid_ports_of p.ports p.ends t) ≡ length (laid_channels p.channels t)
  paths_counted = paths_laid_out b p h n

  -- FLAT comes after exactly channels − ports paths beyond the first cycle, with E − V + 2 lands; there are never more.
  pub flat_after : (laid_out p n).word ≡ FLAT → length (laid_out p n).state.paths + p.ports ≡ p.channels
  flat_after = paths_flat b p h n

  pub flat_lands : (laid_out p n).word ≡ FLAT → length ls ≡ lands_of_flat p
  flat_lands = lands_flat b p h n

  pub never_more : length ls ≤ lands_of_flat p
  never_more = lands_most b p h n

  -- ---- The round trip. A sheet we write reads back as flat with the same lands, renumbered.

  module _ (w : (laid_out p n).word ≡ FLAT) where
    stays : (d : ℕ) → d < length p.ends → leaves p.ends (get_or t d 0) ≡ leaves p.ends d
    unfolding laid_out
    stays d l =
        let A = accepted b p h in
        turn_port_laying p.ports p.ends (whole_plate p) (layable p A) (wide p A) 0 (channel_play p A) n d (flat_laid b p h n w d l)

    rings : (q : ℕ) → q < p.ports → T (one_ring t (darts_at p.ends q))
    unfolding laid_out broken_ring
    rings q l =
        let A = accepted b p h in
        not_not (one_ring t (darts_at p.ends q)) (unbroken_laying p.ports p.ends (whole_plate p) (layable p A) (wide p A) 0 (channel_play p A) n (flat_laid b p h n w) q)

    -- The turns of a FLAT laying pass tests 12, 13 and 14.
    pub flat_passes : turn_tests p.ports p.ends t ≡ passed
    flat_passes = turns_read b p h n w stays rings

    -- They read back as flat, with the same lands in order of smallest dart.
    pub flat_reads : judge_sheet (file_of sheet_file p.ports p.channels p.ends t) ≡ given (record { channels = p.channels; lands = in_order ls; flat = true })
    flat_reads = sheet_judged b p h n w stays rings

-- What the writing call gives is judged flat, with the lands that were laid.
pub written_reads : (b : List ℕ) (p : Plate) (h : read_plate b ≡ given p) (lent : ℕ) → file_length sheet_file p.channels ≤ lent → (s : List ℕ) → write_sheet b lent ≡ given s
    → judge_sheet s ≡ given (record { channels = p.channels; lands = in_order (laid_out p without_cap).state.lands; flat = true })
written_reads b p h lent enough s e =
    let w = write_word b p h lent enough s e in
    subst (λ (f : List ℕ). judge_sheet f ≡ given (record { channels = p.channels; lands = in_order (laid_out p without_cap).state.lands; flat = true })) (sym w.1) (flat_reads b p h without_cap w.0)

-- ---- Any accepted sheet. What reading gives of every turn sheet that is accepted, whoever wrote it.

module _ (b : List ℕ) (s : Sheet) (h : read_turns b ≡ given s) where
  abbrev lands : List (List ℕ)
  lands = lands_of s.turns

  -- All that the tests leave: counts within the limits, pairs, turns that permute the darts and stay at their ports, one ring at each port, and the lands.
  pub sheet_accepted : AcceptedSheet s
  sheet_accepted = accepted_sheet b s h

  dart_turn : (d : ℕ) → d < 2 * s.channels → d < length s.turns
  dart_turn d l = omega (arith, sheet_accepted.darts.1)

  once_at_most : (d : ℕ) → count_all d lands ≤ 1
  once_at_most d = ⊎_elim (λ e. omega arith) (λ k. omega (arith, sheet_accepted.lands.each d (sheet_accepted.lands.only d k))) (eq-zero-or-pos (count_all d lands))

  -- Each dart is in exactly one land, once, and nothing else is in a land.
  pub sheet_each : (d : ℕ) → d < 2 * s.channels → (i : ℕ) × (i < length lands) × (count d (get_or lands i []) ≡ 1) × ((j : ℕ) → 1 ≤ count d (get_or lands j []) → j ≡ i)
  sheet_each d l =
      let f = count_found d lands (omega (arith, sheet_accepted.lands.each d (dart_turn d l))) in
      (f.0, f.1, omega (arith, f.2, count_at d lands f.0, once_at_most d), (λ j k. count_single d lands (once_at_most d) j f.0 k f.2))

  pub sheet_only : (i d : ℕ) → 1 ≤ count d (get_or lands i []) → d < 2 * s.channels
  sheet_only i d k = omega (arith, sheet_accepted.lands.only d (omega (arith, count_at d lands i)), sheet_accepted.darts.1)

  -- Each land is a cycle of the rule (Land, of Runs), so it is closed under it.
  pub sheet_cycle : (i : ℕ) → i < length lands → Land s.turns (get_or lands i [])
  sheet_cycle i l = all_at (Land s.turns) lands i l sheet_accepted.lands.follow

  pub sheet_closed : (i : ℕ) → i < length lands → (d : ℕ) → 1 ≤ count d (get_or lands i []) → 1 ≤ count (next s.turns d) (get_or lands i [])
  sheet_closed i l = land_next s.turns (get_or lands i []) (sheet_cycle i l)

  -- Each is listed from its smallest dart, and they come in order of smallest dart.
  pub sheet_least : (i : ℕ) → i < length lands → (d : ℕ) → 1 ≤ count d (get_or lands i []) → first (get_or lands i []) ≤ d
  sheet_least i l = all_at (λ m. (d : ℕ) → 1 ≤ count d m → first m ≤ d) lands i l sheet_accepted.lands.least

  pub sheet_order : (i j : ℕ) → i < j → j < length lands → first (get_or lands i []) < first (get_or lands j [])
  sheet_order = heads_at lands sheet_accepted.lands.rising

  -- They are at most E.
  pub sheet_few : length lands ≤ s.channels
  sheet_few = sheet_accepted.few

  -- Judging gives exactly these lands, and flat where V − E + lands = 2; so does reading into buffers that are long enough.
  pub sheet_judges : judge_sheet b ≡ given (record { channels = s.channels; lands = lands; flat = eqb (s.ports + length lands) (s.channels + 2) })
  unfolding judged is_flat
  sheet_judges = judge_given b s h

  pub sheet_reads : (darts lengths : ℕ) → 2 * s.channels ≤ darts → s.channels ≤ lengths → read_sheet b darts lengths ≡ judge_sheet b
  sheet_reads darts lengths d l = read_given b s h darts lengths d l ∙ sym (judge_given b s h)
