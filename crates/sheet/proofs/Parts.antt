-- The parts of a sheet that passed tests 1 to 9, at the start of arrays for the largest plate.
--   Known b v e      v and e are the counts of the file b, which has the length of its layout; they are within the limits, and the darts leave the ports
-- few_channels, has_turns: such a sheet has at most so many channels, and all its turns. known: it is known. turns_front: its turns at the start of an array. lent_part, front_in: that start, lent, and how long it is. tests_ready, tests_as: what tests 12 to 14 ask, and what they give.
-- Assumes nothing.
use mathlib.Core.Path.{◌≡◌, refl, sym, ap, ◌∙◌, subst}
use mathlib.Core.List.{List, ◌++◌}
use Prim.Native.Nat.{ℕ, ◌+◌, ◌*◌, ◌≤◌}
use native.Mathlib.Omega.{arith}
use lib.ListN.{length, take, drop}
use lib.Seq.{length-take-le, take_at}
use Rattle.rules.specs.Lists.{numbers}
use Rattle.rules.specs.Files.{plate_file, sheet_file, limits1, ports_in, channels_in, pairs_at, ends_in, turns_at, turns_in}
use Rattle.rules.specs.Refusals.{passed, file_tests, turn_tests}
use Rattle.laws.proofs.Refusals.{file_tests_passed, length_ends, length_turns}
use Rattle.reach.specs.Neighbours.{Ports}
use Rattle.rings.proofs.Tables.{back_length}
use Rattle.plate.specs.State.{most_darts}
use Rattle.plate.proofs.Laws.{sheet_ports, sheet_channels, sheet_size}

-- ---- what tests 1 to 9 leave

pub few_channels : (b : List ℕ) → file_tests sheet_file b ≡ passed → channels_in plate_file b ≤ limits1.most_channels
few_channels b h = omega (arith, (file_tests_passed sheet_file b h).sized.channels.1, sheet_channels b)

pub has_turns : (b : List ℕ) → file_tests sheet_file b ≡ passed → length b ≡ 8 + 6 * channels_in plate_file b
has_turns b h = omega (arith, sheet_size b (file_tests_passed sheet_file b h), sheet_channels b)

pub record Known (b : List ℕ) (v e : ℕ) : Type 0 where
  pub ports : v ≡ ports_in sheet_file b
  pub channels : e ≡ channels_in sheet_file b
  pub long : length b ≡ 8 + 6 * e
  pub few_ports : v ≤ limits1.most_ports
  pub few : e ≤ limits1.most_channels
  pub inn : Ports v (ends_in sheet_file b)

pub known : (b : List ℕ) (v e : ℕ) → file_tests sheet_file b ≡ passed → v ≡ ports_in plate_file b → e ≡ channels_in plate_file b → Known b v e
known b v e h p q =
    let t = file_tests_passed sheet_file b h in
    let pv : v ≡ ports_in sheet_file b = p ∙ sym (sheet_ports b) in
    let pe : e ≡ channels_in sheet_file b = q ∙ sym (sheet_channels b) in
    record {
      ports = pv;
      channels = pe;
      long = omega (arith, sheet_size b t);
      few_ports = omega (arith, t.sized.ports.1);
      few = omega (arith, t.sized.channels.1);
      inn = λ d l. omega (arith, t.paired.inn d (omega (arith, length_ends sheet_file b)));
    }

-- ---- the pairs and the turns

module _ (b : List ℕ) (v e : ℕ) (k : Known b v e) where
  turns_are : (n start : ℕ) → n ≡ 2 * e → start ≡ 8 + 2 * e → numbers 2 n start b ≡ turns_in sheet_file b
  unfolding turns_in turns_at pairs_at
  turns_are n start p q =
      let f : n ≡ 2 * channels_in sheet_file b = omega (arith, k.channels) in
      let g : start ≡ 8 + 2 * channels_in sheet_file b * 1 = omega (arith, k.channels) in
      rw (f, g)

  pub turns_front : (old part : List ℕ) → most_darts ≡ length old → part ≡ numbers 2 (length (take (2 * e) old)) (8 + 2 * e) b
      → (take (2 * channels_in sheet_file b) (part ++ drop (2 * e) old) ≡ turns_in sheet_file b) × (most_darts ≡ length (part ++ drop (2 * e) old))
  turns_front old part h p =
      let m : length (take (2 * e) old) ≡ 2 * e = length-take-le (2 * e) old (omega (arith, k.few)) in
      let is : part ≡ turns_in sheet_file b = p ∙ turns_are (length (take (2 * e) old)) (8 + 2 * e) m refl in
      let n : length part ≡ 2 * channels_in sheet_file b = ap length is ∙ length_turns sheet_file b in
      (take_at part (drop (2 * e) old) (2 * channels_in sheet_file b) n ∙ is, h ∙ sym (back_length part old (2 * e) (omega (arith, n, k.channels)) (omega (arith, k.few))))

  -- the array's start, as the code lends it
  pub lent_part : (l part : List ℕ) → take (2 * channels_in sheet_file b) l ≡ part → take (2 * e) l ≡ part
  lent_part l part p = ap (λ (n : ℕ). take (2 * n) l) k.channels ∙ p

  pub front_in : (l : List ℕ) → most_darts ≡ length l → 2 * e ≡ length (take (2 * e) l)
  front_in l p = sym (length-take-le (2 * e) l (omega (arith, k.few)))

  -- what tests 12 to 14 ask
  pub tests_ready : (ends turns : List ℕ) → ends ≡ ends_in sheet_file b → turns ≡ turns_in sheet_file b → Ports v ends × (length turns ≡ length ends) × (v ≤ most_darts) × (length ends ≤ most_darts)
  tests_ready ends turns p q = (
    subst (Ports v) (sym p) k.inn,
    ap length q ∙ length_turns sheet_file b ∙ sym (ap length p ∙ length_ends sheet_file b),
    omega (arith, k.few_ports),
    omega (arith, ap length p, length_ends sheet_file b, k.channels, k.few),
  )

  pub tests_as : (ends turns : List ℕ) → ends ≡ ends_in sheet_file b → turns ≡ turns_in sheet_file b → turn_tests v ends turns ≡ turn_tests (ports_in sheet_file b) (ends_in sheet_file b) (turns_in sheet_file b)
  tests_as ends turns p q = rw (p, q, k.ports)
