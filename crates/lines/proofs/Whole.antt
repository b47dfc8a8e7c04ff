-- A whole listing, and the parts in which it is written. L is the listing of a plate of v ports and e channels, read off the slices.
--   Other w                                          the word w is not FLAT
--   after_head, after_cycle, after_paths, after_word     what is left of L behind its first line, behind the line of the first cycle, of the last path, and of the word
-- laid_head, laid_cycle, laid_paths, laid_word: the next part apart. laid_flat: where the word is FLAT the lands and ports are left; laid_none: otherwise nothing is.
-- told_cycle: the first cycle that a story tells, n being the number of its darts.
-- Assumes nothing.
use mathlib.Core.Path.{◌≡◌, refl, sym, ap, ◌∙◌, subst}
use mathlib.Core.List.{List, [], ◌++◌, map, append_assoc, append-nil}
use Prim.Native.Nat.{ℕ, zero, suc, ◌+◌, ◌-◌}
use native.Mathlib.Omega.{arith}
use lib.ListN.{length, get_or, take, drop}
use Rattle.rules.specs.Lists.{from, concat}
use Rattle.rules.specs.Terms.{leaves}
use Rattle.rules.specs.Refusals.{Plate}
use Rattle.rules.specs.Laying.{State, Outcome}
use Rattle.rules.specs.Listing.{line, head_line, cycle_line, path_line, land_lines, port_line, word_line, sheet_lines, laid_lines}
use Rattle.land.specs.Walks.{lands, Below}
use Rattle.print.proofs.Putting.{Cut}
use Rattle.rounds.specs.declared.Word.{Word}
use Rattle.rounds.specs.declared.Word.TheVariants.{Flat, Stuck, Partial}
use Rattle.rounds.specs.Words.{word_in, name_in}
use Rattle.lines.specs.Story.{cycle_of, paths_in, paths_of, Told}
use Rattle.lines.specs.Lines.{line_of_word, plate_of, path_lines, port_lines, flat_lines, outcome_of}

-- ---- the words

abbrev pub Other : Word → Type 0
Other Flat = ⊥
Other (Stuck k) = Unit {0}
Other Partial = Unit {0}

-- a word that is one of the last two
pub other_of : (w : Word) → (w ≡ Flat → ⊥) → Other w
other_of Flat h = absurd (h refl)
other_of (Stuck k) h = tt
other_of Partial h = tt

-- ---- the parts

length_paths_in : (n : ℕ) (s : List ℕ) → length (paths_in n s) ≡ n
unfolding paths_in
length_paths_in zero s = refl
length_paths_in (suc n) s = ap suc (length_paths_in n (drop (3 + get_or s 2 0) s))

word_line_lem : (w : Word) (s : State) → word_line (record { word = word_in w; name = name_in w; state = s }) ≡ line_of_word w (length s.paths)
unfolding word_line line_of_word
word_line_lem Flat s = refl
word_line_lem (Stuck k) s = refl
word_line_lem Partial s = refl

-- where the word is FLAT there are lines of lands and ports; otherwise there are none
sheet_flat : (p : Plate) (s : State) (w : Word) → w ≡ Flat
    → sheet_lines p (record { word = word_in w; name = name_in w; state = s }) ≡ land_lines 0 s.lands ++ concat (map (port_line p s.turns) (from 0 p.ports))
unfolding sheet_lines
sheet_flat p s w e = ap (λ (x : Word). sheet_lines p (record { word = word_in x; name = name_in x; state = s })) e

sheet_none : (p : Plate) (s : State) (w : Word) → Other w → sheet_lines p (record { word = word_in w; name = name_in w; state = s }) ≡ []
unfolding sheet_lines
sheet_none p s Flat h = absurd h
sheet_none p s (Stuck k) h = refl
sheet_none p s Partial h = refl

module _ (v e : ℕ) (ends : List ℕ) (word : Word) (turns firsts lens : List ℕ) (count : ℕ) (story : List ℕ) (paths : ℕ) where
  abbrev o : Outcome
  o = outcome_of word turns firsts lens count story paths

  abbrev p : Plate
  p = plate_of v e ends

  unfoldable pub after_word : List ℕ
  after_word = sheet_lines p o

  unfoldable pub after_paths : List ℕ
  after_paths = word_line o ++ after_word

  unfoldable pub after_cycle : List ℕ
  after_cycle = concat (map (path_line p) (paths_of paths story)) ++ after_paths

  unfoldable pub after_head : List ℕ
  after_head = cycle_line p (cycle_of story) ++ after_cycle

  pub laid_head : Cut (laid_lines p (cycle_of story) o) (head_line (plate_of v e [])) after_head
  unfolding laid_lines head_line after_head after_cycle after_paths after_word
  laid_head = record {
    is =
        append_assoc (head_line p ++ cycle_line p (cycle_of story) ++ concat (map (path_line p) (paths_of paths story))) (word_line o) (sheet_lines p o)
        ∙ append_assoc (head_line p ++ cycle_line p (cycle_of story)) (concat (map (path_line p) (paths_of paths story))) (word_line o ++ sheet_lines p o)
        ∙ append_assoc (head_line p) (cycle_line p (cycle_of story)) (concat (map (path_line p) (paths_of paths story)) ++ (word_line o ++ sheet_lines p o));
  }

  -- n is the number of the first cycle's darts, and ds are these darts, as the code lends them
  module _ (n : ℕ) (q : n ≡ get_or story 0 0) where
    pub cycle_part : take (1 + n - 1) (drop 1 story) ≡ cycle_of story
    unfolding cycle_of
    cycle_part = ap (λ (k : ℕ). take k (drop 1 story)) (all ∙ q)
      where
        all : 1 + n - 1 ≡ n
        all = omega arith

    pub laid_cycle : Cut after_head (line "cycle" (map (leaves ends) (take (1 + n - 1) (drop 1 story)))) after_cycle
    unfolding after_head cycle_line
    laid_cycle = record { is = ap (λ (ds : List ℕ). line "cycle" (map (leaves ends) ds) ++ after_cycle) (sym cycle_part) }

    pub laid_paths : Cut after_cycle (path_lines ends (paths_in paths (drop (1 + n) story))) after_paths
    unfolding after_cycle path_lines paths_of path_line
    laid_paths = record { is = ap (λ (k : ℕ). concat (map (path_line p) (paths_in paths (drop (1 + k) story))) ++ after_paths) (sym q) }

  pub laid_word : Cut after_paths (line_of_word word paths) after_word
  unfolding after_paths paths_of
  laid_word = record { is = ap (λ (l : List ℕ). l ++ after_word) (word_line_lem word o.state ∙ ap (line_of_word word) (length_paths_in paths (drop (1 + get_or story 0 0) story))) }

  -- where the word is FLAT the lands and ports are left
  pub laid_flat : word ≡ Flat → Cut after_word (flat_lines ends turns (lands turns firsts lens count) v) []
  unfolding after_word flat_lines port_lines port_line
  laid_flat h = record { is = sheet_flat p o.state word h ∙ sym (append-nil (flat_lines ends turns (lands turns firsts lens count) v)) }

  -- otherwise nothing is left
  pub laid_none : Other word → after_word ≡ []
  unfolding after_word
  laid_none h = sheet_none p o.state word h

-- ---- what is read off a story

module _ (m k : ℕ) (s : List ℕ) (t : Told m k s) (n : ℕ) (q : n ≡ get_or s 0 0) where
  pub told_cycle : Below m (take (1 + n - 1) (drop 1 s))
  unfolding cycle_of
  told_cycle = subst (λ (j : ℕ). Below m (take j (drop 1 s))) (sym q ∙ all) t.cycle
    where
      all : n ≡ 1 + n - 1
      all = omega arith
