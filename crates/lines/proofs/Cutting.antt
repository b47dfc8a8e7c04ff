-- The parts of a line, in the order in which they are written: the word and its numbers, more fields, the newline.
-- numbers_next, numbers_over: the numbers behind the word, one after another. spelled_begin, path_begin, land_begin, port_begin: the word and its numbers first. cycle_word: the word first. line_fields: then fields that one call writes.
-- spell_head, spell_refused: the first line, and the line of a refusal, spelled. word_flat, word_stuck, word_partial: the line of each word.
-- Assumes nothing.
use mathlib.Core.Path.{◌≡◌, refl, sym, ap, ◌∙◌}
use mathlib.Core.List.{List, [], ◌∷◌, ◌++◌, append_assoc}
use Prim.Native.Nat.{ℕ, ◌+◌, ◌<◌, ◌≤◌}
use native.Mathlib.Numerals.{add-one}
use lib.ListN.{length, get_or, drop, drop_of_length-le}
use lib.Seq.{drop-cons}
use Rattle.rules.specs.Lists.{text}
use Rattle.rules.specs.Listing.{fields, line, head_line}
use Rattle.print.proofs.Putting.{Cut}
use Rattle.print.proofs.Fields.{fields_cons, fields_append}
use Rattle.rounds.specs.declared.Word.{Word}
use Rattle.rounds.specs.declared.Word.TheVariants.{Flat, Stuck, Partial}
use Rattle.lines.specs.Lines.{spelled, line_of_word, plate_of}

-- ---- the numbers behind the word

pub numbers_next : (ns : List ℕ) (i : ℕ) → i < length ns → Cut (fields (drop i ns)) (fields (get_or ns i 0 ∷ [])) (fields (drop (i + 1) ns))
numbers_next ns i h = record {
  is = ap fields (drop-cons ns i 0 h ∙ ap (λ (k : ℕ). get_or ns i 0 ∷ drop k ns) (sym (add-one i))) ∙ fields_cons (get_or ns i 0) (drop (i + 1) ns);
}

pub numbers_over : (ns : List ℕ) (i : ℕ) → length ns ≤ i → fields (drop i ns) ≡ []
unfolding fields
numbers_over ns i h = ap fields (drop_of_length-le ns h)

pub numbers_word : (w ns : List ℕ) → Cut (w ++ fields ns) w (fields ns)
numbers_word w ns = record { is = refl }

-- ---- the word and its numbers

pub spelled_begin : (w ns : List ℕ) → Cut (spelled w ns) (w ++ fields ns) (10 ∷ [])
unfolding spelled
spelled_begin w ns = record { is = refl }

begun : (w ms ns : List ℕ) → w ++ fields (ms ++ ns) ++ (10 ∷ []) ≡ (w ++ fields ms) ++ (fields ns ++ (10 ∷ []))
begun w ms ns =
    ap (λ (l : List ℕ). w ++ l ++ (10 ∷ [])) (fields_append ms ns) ∙ ap (λ (l : List ℕ). l ++ (10 ∷ [])) (sym (append_assoc w (fields ms) (fields ns)))
    ∙ append_assoc (w ++ fields ms) (fields ns) (10 ∷ [])

pub path_begin : (f l x : ℕ) (ns : List ℕ) → Cut (line "path" (f ∷ l ∷ x ∷ ns)) ((112 ∷ 97 ∷ 116 ∷ 104 ∷ []) ++ fields (f ∷ l ∷ x ∷ [])) (fields ns ++ (10 ∷ []))
unfolding line text
path_begin f l x ns = record { is = begun (text "path") (f ∷ l ∷ x ∷ []) ns }

pub land_begin : (i : ℕ) (ns : List ℕ) → Cut (line "land" (i ∷ ns)) ((108 ∷ 97 ∷ 110 ∷ 100 ∷ []) ++ fields (i ∷ [])) (fields ns ++ (10 ∷ []))
unfolding line text
land_begin i ns = record { is = begun (text "land") (i ∷ []) ns }

pub port_begin : (p : ℕ) (ns : List ℕ) → Cut (line "port" (p ∷ ns)) ((112 ∷ 111 ∷ 114 ∷ 116 ∷ []) ++ fields (p ∷ [])) (fields ns ++ (10 ∷ []))
unfolding line text
port_begin p ns = record { is = begun (text "port") (p ∷ []) ns }

pub cycle_word : (ns : List ℕ) → Cut (line "cycle" ns) (99 ∷ 121 ∷ 99 ∷ 108 ∷ 101 ∷ []) (fields ns ++ (10 ∷ []))
unfolding line text
cycle_word ns = record { is = append_assoc (text "cycle") (fields ns) (10 ∷ []) }

-- ---- the fields

pub line_fields : (ns : List ℕ) → Cut (fields ns ++ (10 ∷ [])) (fields ns) (10 ∷ [])
line_fields ns = record { is = refl }

-- ---- the first line

pub spell_head : (v e : ℕ) → spelled (70 ∷ 80 ∷ 76 ∷ []) (1 ∷ v ∷ e ∷ []) ≡ head_line (plate_of v e [])
unfolding spelled head_line text
spell_head v e = refl

-- ---- the words of an outcome, and of a refusal

pub spell_refused : (ns : List ℕ) → spelled (82 ∷ 69 ∷ 70 ∷ 85 ∷ 83 ∷ 69 ∷ 68 ∷ []) ns ≡ line "REFUSED" ns
unfolding spelled line text
spell_refused ns = refl

module _ (word : Word) (paths : ℕ) where
  pub word_flat : word ≡ Flat → spelled (70 ∷ 76 ∷ 65 ∷ 84 ∷ []) (paths ∷ []) ≡ line_of_word word paths
  unfolding spelled line text line_of_word
  word_flat e = ap (λ (w : Word). line_of_word w paths) (sym e)

  pub word_stuck : (k : ℕ) → word ≡ Stuck k → spelled (83 ∷ 84 ∷ 85 ∷ 67 ∷ 75 ∷ []) (paths ∷ k ∷ []) ≡ line_of_word word paths
  unfolding spelled line text line_of_word
  word_stuck k e = ap (λ (w : Word). line_of_word w paths) (sym e)

  pub word_partial : word ≡ Partial → spelled (80 ∷ 65 ∷ 82 ∷ 84 ∷ 73 ∷ 65 ∷ 76 ∷ []) (paths ∷ []) ≡ line_of_word word paths
  unfolding spelled line text line_of_word
  word_partial e = ap (λ (w : Word). line_of_word w paths) (sym e)
