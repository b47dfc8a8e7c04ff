-- What callers use of the writing call's definitions (rules, `write_sheet` and `bytes_left`): a sheet that is written reads back.
-- b is any file, old any buffer that is lent, and s the sheet that the call gives; nothing else is supposed of them.
--   left                    the buffer afterwards
-- sheet_left, rest_left: the buffer begins with the sheet, and behind it is as it was. written_plate: the file is read into a plate, and the buffer has the length that its sheet needs.
-- written_judged, written_read: what is left at the front of the buffer is judged flat, and read into the lands that were laid, in order of smallest dart.
-- Assumes nothing.
use mathlib.Core.Path.{◌≡◌, refl, sym, ap, ◌∙◌, subst}
use mathlib.Core.Bool.{Bool, true, false, not, ◌||◌}
use mathlib.Core.List.{List, [], ◌∷◌, ◌++◌}
use Prim.Native.Nat.{ℕ, ◌*◌, ◌≤◌}
use borrow.Author.Tests.{le-ltb, ltb-false}
use lib.Dec.{T, ltb}
use lib.ListN.{length, take, drop}
use lib.Seq.{take-append_seam, drop-append_seam}
use Rattle.rules.specs.Lists.{any}
use Rattle.rules.specs.Files.{sheet_file, file_length}
use Rattle.rules.specs.Refusals.{Answer, given, passed, refuse, lent_test, Plate, Sheet, read_plate, read_turns}
use Rattle.rules.specs.Laying.{bytes_left, without_cap, laid_out}
use Rattle.rules.specs.Sheets.{Judged, judged, judge_sheet, read_sheet, write_sheet}
use Rattle.laws.proofs.Refusals.{bind_given, then_given, given_inj, refuse_passed}
use Rattle.laws.proofs.InOrder.{in_order}
use Rattle.laws.proofs.Demands.{written_reads}

-- a buffer that is not too short
lent_long : (needed lent : ℕ) → lent_test (record { needed = needed; lent = lent } ∷ []) ≡ passed → needed ≤ lent
unfolding lent_test any
lent_long needed lent h = go (ltb lent needed) refl (refuse_passed 15 (ltb lent needed || false) h)
  where
    go : (short : Bool) → ltb lent needed ≡ short → T (not (short || false)) → needed ≤ lent
    go true e t = absurd t
    go false e t = ltb-false lent needed e

channels_judged : (s : Sheet) → s.channels ≡ (judged s).channels
unfolding judged
channels_judged s = refl

-- a sheet that is judged is read, where the two buffers are long enough
judged_read : (b : List ℕ) (j : Judged) (darts lengths : ℕ) → judge_sheet b ≡ given j → 2 * j.channels ≤ darts → j.channels ≤ lengths → read_sheet b darts lengths ≡ given j
unfolding judge_sheet read_sheet lent_test refuse any
judged_read b j darts lengths h d l =
    let t = bind_given (read_turns b) (λ s. given (judged s)) j h in
    let same : t.0.channels ≡ j.channels = channels_judged t.0 ∙ ap (λ (x : Judged). x.channels) (given_inj (judged t.0) j t.2) in
    rw (t.1, same, le-ltb darts (2 * j.channels) d, le-ltb lengths j.channels l) t.2

module _ (b old s : List ℕ) (e : write_sheet b (length old) ≡ given s) where
  abbrev left : List ℕ
  left = bytes_left (write_sheet b (length old)) old

  left_is : left ≡ s ++ drop (length s) old
  unfolding bytes_left
  left_is = ap (λ (a : Answer (List ℕ)). bytes_left a old) e

  pub sheet_left : take (length s) left ≡ s
  sheet_left = ap (take (length s)) left_is ∙ take-append_seam s (drop (length s) old)

  pub rest_left : drop (length s) left ≡ drop (length s) old
  rest_left = ap (drop (length s)) left_is ∙ drop-append_seam s (drop (length s) old)

  pub written_plate : (p : Plate) × (read_plate b ≡ given p) × (file_length sheet_file p.channels ≤ length old)
  unfolding write_sheet
  written_plate =
      let r = bind_given (read_plate b) _ s e in
      let t = then_given (lent_test (record { needed = file_length sheet_file r.0.channels; lent = length old } ∷ [])) _ s r.2 in
      (r.0, r.1, lent_long (file_length sheet_file r.0.channels) (length old) t.0)

  -- What the call leaves is judged flat, with the lands that were laid, in order of smallest dart.
  pub written_judged : (p : Plate) → read_plate b ≡ given p
      → judge_sheet (take (length s) left) ≡ given (record { channels = p.channels; lands = in_order (laid_out p without_cap).state.lands; flat = true })
  written_judged p h =
      let w = written_plate in
      let same : w.0 ≡ p = given_inj w.0 p (sym w.1 ∙ h) in
      ap judge_sheet sheet_left ∙ written_reads b p h (length old) (subst (λ (q : Plate). file_length sheet_file q.channels ≤ length old) same w.2) s e

  -- So it is where it is read into buffers of 2E darts and E lengths, or longer.
  pub written_read : (p : Plate) → read_plate b ≡ given p → (darts lengths : ℕ) → 2 * p.channels ≤ darts → p.channels ≤ lengths
      → read_sheet (take (length s) left) darts lengths ≡ given (record { channels = p.channels; lands = in_order (laid_out p without_cap).state.lands; flat = true })
  written_read p h darts lengths d l = judged_read (take (length s) left) _ darts lengths (written_judged p h) d l
