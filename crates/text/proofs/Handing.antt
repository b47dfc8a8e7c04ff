-- From laying to listing: a plate that was read and laid without a cap can be listed from the slices that hold what was laid, and what is written is the file's listing.
-- rings_of: the rings of a plate that is FLAT. walkable_of: the lands can be walked. held_of: what `write_listing` asks of the slices. listing_of_lem: what it writes is the listing.
-- Assumes nothing.
use mathlib.Core.Path.{◌≡◌, sym, ap, ◌∙◌, subst}
use mathlib.Core.List.{List, [], ◌∷◌}
use Prim.Native.Nat.{ℕ, zero, suc, ◌<◌, ◌≤◌}
use native.Mathlib.Omega.{arith}
use lib.ListN.{length, get_or, take}
use Rattle.rules.specs.Terms.{darts_at, ring}
use Rattle.rules.specs.Refusals.{given, Plate, read_plate}
use Rattle.rules.specs.Laying.{Path, Word as RuleWord, FLAT, Outcome, Told as Said, without_cap, whole_plate, laid_out, cycle, first_channel, first_cycle}
use Rattle.rules.specs.Listing.{laid_lines, listing_of, listing}
use Rattle.laws.proofs.Counts.{count, count_head}
use Rattle.laws.proofs.Lists.{all_weaken}
use Rattle.laws.proofs.Links.{laid_lt}
use Rattle.laws.proofs.Reading.{accepted, layable, channel_play, kept_laid_out}
use Rattle.laws.proofs.Turns.{turn_laid}
use Rattle.laws.proofs.Verdicts.{wide}
use Rattle.laws.proofs.FirstCycle.{start_darts, first_play}
use Rattle.laws.proofs.Counting.{flat_laid}
use Rattle.land.specs.Walks.{lands, Below, Walkable}
use Rattle.land.proofs.Laws.{below_of}
use Rattle.split.proofs.Laws.{holds_lands, holds_walkable}
use Rattle.rounds.specs.declared.End.{End}
use Rattle.step.specs.Stories.{story_of}
use Rattle.rounds.specs.Words.{word_in, name_in, said_by, said_of}
use Rattle.rounds.specs.Rooms.{Left}
use Rattle.lines.specs.Story.{cycle_of, paths_of, Told}
use Rattle.lines.specs.Lines.{plate_of, outcome_of, Ringed, Held}
use Rattle.lines.proofs.Stories.{cycle_of_lem, paths_of_lem, told_of}
use Rattle.text.proofs.Laid.{Drawn, lined_laid}
use Rattle.text.proofs.Bound.{darts_lt}

-- an outcome, by its parts
outcome_as : (o : Outcome) (w : RuleWord) (k : ℕ) (t : List ℕ) (ls : List (List ℕ)) (ps : List Path) → w ≡ o.word → k ≡ o.name → t ≡ o.state.turns → ls ≡ o.state.lands → ps ≡ o.state.paths
    → ◌≡◌ {A = Outcome} (record { word = w; name = k; state = record { turns = t; lands = ls; paths = ps } }) o
outcome_as o w k t ls ps a b c d e =
    ap (λ (x : RuleWord). record { word = x; name = k; state = record { turns = t; lands = ls; paths = ps } }) a
    ∙ ap (λ (x : ℕ). record { word = o.word; name = x; state = record { turns = t; lands = ls; paths = ps } }) b
    ∙ ap (λ (x : List ℕ). record { word = o.word; name = o.name; state = record { turns = x; lands = ls; paths = ps } }) c
    ∙ ap (λ (x : List (List ℕ)). record { word = o.word; name = o.name; state = record { turns = o.state.turns; lands = x; paths = ps } }) d
    ∙ ap (λ (x : List Path). record { word = o.word; name = o.name; state = record { turns = o.state.turns; lands = o.state.lands; paths = x } }) e

module _ (b : List ℕ) (p : Plate) (h : read_plate b ≡ given p) where
  abbrev o : Outcome
  o = laid_out p without_cap

  abbrev cyc : List ℕ
  cyc = first_cycle p.ports p.ends (whole_plate p)

  -- clockwise from a dart there are darts alone
  ring_darts : o.word ≡ FLAT → (m d : ℕ) → d < length p.ends → Below (length o.state.turns) (ring o.state.turns m d)
  unfolding ring
  ring_darts w zero d l = tt
  ring_darts w (suc m) d l =
      let K = kept_laid_out b p h without_cap in
      (omega (arith, K.long), ring_darts w m (get_or o.state.turns d 0) (omega (arith, K.long, laid_lt o.state.turns (get_or o.state.turns d 0) (turn_laid p.ends o.state K.sound d (flat_laid b p h without_cap w d l)))))

  pub rings_of : o.word ≡ FLAT → Ringed p.ports p.ends o.state.turns
  unfolding ring
  rings_of w q l = go (darts_at p.ends q) (darts_lt p.ends q)
    where
      go : (ds : List ℕ) → ((z : ℕ) → 1 ≤ count z ds → z < length p.ends) → Below (length o.state.turns) (ring o.state.turns (length ds) (get_or ds 0 0))
      go [] k = tt
      go (d ∷ ds) k = ring_darts w (length (d ∷ ds)) d (k d (count_head d ds))

  cycle_below : Below (length p.ends) cyc
  unfolding first_cycle cycle
  cycle_below =
      let A = accepted b p h in
      below_of (length p.ends) cyc (start_darts p.ports p.ends (whole_plate p) (layable p A) (wide p A) (first_channel p.ports p.ends (whole_plate p)) (first_play p.ports p.ends (whole_plate p) 0 (channel_play p A)))

  told_laid : Told (length p.ends) (length o.state.paths) (story_of cyc o.state.paths)
  told_laid =
      told_of (length p.ends) cyc o.state.paths cycle_below
      (all_weaken (Drawn (length p.ends) p.channels (length o.state.lands)) _ (λ q d. (d.some, d.darts)) o.state.paths (lined_laid b p h without_cap).drawn)

  module _ (first more t fs ns st : List ℕ) (r : End) (E : Left p.ports p.ends (whole_plate p) without_cap first more t fs ns st r) where
    -- the story, without what lies behind it
    abbrev story : List ℕ
    story = take r.story st

    said : said_by r ≡ said_of o
    unfolding laid_out
    said = E.said

    word_is : word_in r.word ≡ o.word
    word_is = ap (λ (s : Said). s.word) said

    paths_are : r.paths ≡ length o.state.paths
    paths_are = ap (λ (s : Said). s.paths) said

    turns_are : t ≡ o.state.turns
    unfolding laid_out
    turns_are = E.holds.turns

    lands_are : lands t fs ns r.lands ≡ o.state.lands
    unfolding laid_out
    lands_are = holds_lands p.ends (whole_plate p) o.state (kept_laid_out b p h without_cap) t fs ns r.lands E.holds

    pub walkable_of : Walkable t fs ns r.lands
    unfolding laid_out
    walkable_of = holds_walkable p.ends (whole_plate p) o.state (kept_laid_out b p h without_cap) t fs ns r.lands E.holds p.ports (layable p (accepted b p h))

    story_is : story ≡ story_of cyc o.state.paths
    unfolding laid_out
    story_is = E.told

    pub held_of : Held p.ports p.ends t story r.paths r.word
    held_of =
        let A = accepted b p h in
        record {
          few = omega (arith, A.size, A.channels.1);
          told = subst (λ (n : ℕ). Told (length p.ends) n story) (sym paths_are) (subst (Told (length p.ends) (length o.state.paths)) (sym story_is) told_laid);
          rings = λ z. subst (Ringed p.ports p.ends) (sym turns_are) (rings_of (sym word_is ∙ ap word_in z));
        }

    pub listing_of_lem : laid_lines (plate_of p.ports p.channels p.ends) (cycle_of story) (outcome_of r.word t fs ns r.lands story r.paths) ≡ listing b
    unfolding listing listing_of
    listing_of_lem =
        ap (λ (c : List ℕ). laid_lines p c (outcome_of r.word t fs ns r.lands story r.paths)) (ap cycle_of story_is ∙ cycle_of_lem cyc o.state.paths)
        ∙ ap (laid_lines p cyc) (outcome_as o (word_in r.word) (name_in r.word) t (lands t fs ns r.lands) (paths_of r.paths story) word_is (ap (λ (s : Said). s.name) said) turns_are lands_are paths_so)
        ∙ sym (ap listing_of h)
      where
        paths_so : paths_of r.paths story ≡ o.state.paths
        paths_so = ap (λ (n : ℕ). paths_of n story) paths_are ∙ ap (paths_of (length o.state.paths)) story_is ∙ paths_of_lem cyc o.state.paths
