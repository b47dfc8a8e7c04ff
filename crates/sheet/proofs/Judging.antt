-- The lands of a sheet that passed its tests, as `judge_lands` lists them.
-- lands_ready: what listing them asks. lands_few: they are at most as many as the channels. lands_judged: the number of lands, whether the sheet is flat, and the two buffers.
-- Assumes nothing.
use mathlib.Core.Path.{◌≡◌, sym, ap, ◌∙◌, subst}
use mathlib.Core.List.{List, map}
use Prim.Native.Nat.{ℕ, ◌+◌, ◌*◌, ◌/◌, ◌≤◌}
use native.Mathlib.Omega.{arith}
use lib.Dec.{eqb}
use lib.ListN.{length}
use Rattle.rules.specs.Lists.{concat}
use Rattle.rules.specs.Terms.{missing, lands_of}
use Rattle.rules.specs.Files.{sheet_file, ports_in, channels_in, ends_in, turns_in}
use Rattle.rules.specs.Refusals.{passed, file_tests, turn_tests}
use Rattle.rules.specs.Laying.{filled}
use Rattle.rules.specs.Sheets.{is_flat}
use Rattle.laws.proofs.Refusals.{length_turns}
use Rattle.laws.proofs.Permuting.{Permuting}
use Rattle.laws.proofs.Gathering.{lands_lands_of}
use Rattle.laws.proofs.AcceptedSheet.{permuting}
use Rattle.plate.specs.State.{most_darts}
use Rattle.sheet.specs.Stages.{lands_in}
use Rattle.sheet.proofs.Parts.{Known}

module _ (b : List ℕ) (v e : ℕ) (k : Known b v e) (t : List ℕ) (p : t ≡ turns_in sheet_file b) where
  length_part : length t ≡ 2 * e
  length_part = omega (arith, ap length p, length_turns sheet_file b, k.channels)

  module _ (h : file_tests sheet_file b ≡ passed) (q : turn_tests (ports_in sheet_file b) (ends_in sheet_file b) (turns_in sheet_file b) ≡ passed) where
    pub lands_ready : (darts lengths : ℕ) → 2 * channels_in sheet_file b ≤ darts → channels_in sheet_file b ≤ lengths
        → Permuting t × (length t ≤ most_darts) × (length t ≤ darts) × (length t ≤ 2 * lengths)
    lands_ready darts lengths d l = (
      subst Permuting (sym p) (permuting b h q),
      omega (arith, length_part, k.few),
      omega (arith, length_part, k.channels),
      omega (arith, length_part, k.channels),
    )

    pub lands_few : (n : ℕ) → n ≡ length (lands_of t) → n ≤ e
    lands_few n r = omega (arith, (lands_lands_of t (subst Permuting (sym p) (permuting b h q))).few, length_part)

  pub lands_judged : (n : ℕ) (darts darts' lengths lengths' : List ℕ) → n ≡ length (lands_of t) → darts' ≡ filled (concat (lands_of t)) missing (length t) darts → lengths' ≡ filled (map length (lands_of t)) 0 (length t / 2) lengths
      → (n ≡ length (lands_in b)) × (eqb (v + n) (e + 2) ≡ is_flat (ports_in sheet_file b) (channels_in sheet_file b) (length (lands_in b)))
      × (darts' ≡ filled (concat (lands_in b)) missing (2 * channels_in sheet_file b) darts) × (lengths' ≡ filled (map length (lands_in b)) 0 (channels_in sheet_file b) lengths)
  unfolding is_flat
  lands_judged n darts darts' lengths lengths' r d l =
      let same : lands_of t ≡ lands_in b = ap lands_of p in
      let two : length t ≡ 2 * channels_in sheet_file b = omega (arith, length_part, k.channels) in
      let one : length t / 2 ≡ channels_in sheet_file b = omega (arith, length_part, k.channels) in
      let number : n ≡ length (lands_in b) = r ∙ ap length same in (
        number,
        rw (number, k.ports, k.channels),
        d ∙ rw (two, same),
        l ∙ rw (one, same),
      )
