-- Tests 12 to 14 in their order (rules, "Refusals", `turn_tests`).
-- found_no: where a search finds nothing, nothing passes. range_of, ports_of: what is left where a search finds no dart.
-- turn_12, turn_13, turn_14, turn_passed: what the tests give, by those that were passed.
-- Assumes nothing.
use mathlib.Core.Path.{◌≡◌, sym, ◌∙◌}
use mathlib.Core.Bool.{Bool, not}
use mathlib.Core.List.{List}
use Prim.Native.Nat.{ℕ, ◌<◌}
use native.Mathlib.Omega.{arith}
use lib.Dec.{T, eqb, eqb→eq, nleb→lt}
use lib.ListN.{length, get_or}
use Rattle.std.specs.Prelude.{Option, Some, None}
use Rattle.std.specs.List.{find}
use Rattle.rules.specs.Lists.{from}
use Rattle.rules.specs.Terms.{leaves}
use Rattle.rules.specs.Refusals.{refused, passed, itself, wild_turn, away_turn, broken_ring, turn_tests}
use Rattle.laws.proofs.Tests.{not_not}
use Rattle.laws.proofs.Lists.{seek_none}
use Rattle.laws.proofs.Finding.{seek_none as seek_of_none}
use Rattle.plate.proofs.Stages.{refuse_at_some, refuse_at_none}
use Rattle.rings.specs.Turns.{InRange, AtPorts}

-- ---- what is left where a search finds no dart

found_no : (f : ℕ → Bool) (n : ℕ) → find f (from 0 n) ≡ None → (k : ℕ) → k < n → T (not (f k))
found_no f n e k h = seek_none f 0 n (omega (arith, seek_of_none f n e)) k (omega arith) (omega arith)

module _ (ends t : List ℕ) where
  range_by : length t ≡ length ends → ((d : ℕ) → d < length ends → T (not (wild_turn ends t d))) → InRange ends t
  unfolding wild_turn
  range_by e h = record { size = e; dart = λ d b. nleb→lt (length ends) (get_or t d 0) (h d b) }

  ports_by : InRange ends t → ((d : ℕ) → d < length ends → T (not (away_turn ends t d))) → AtPorts ends t
  unfolding away_turn
  ports_by g h = record {
    range = g;
    port = λ d b. eqb→eq (leaves ends (get_or t d 0)) (leaves ends d) (not_not (eqb (leaves ends (get_or t d 0)) (leaves ends d)) (h d b));
  }

  pub range_of : length t ≡ length ends → (w : Option ℕ) → w ≡ find (wild_turn ends t) (from 0 (length ends)) → w ≡ None → InRange ends t
  range_of e w q h = range_by e (λ d b. found_no (wild_turn ends t) (length ends) (sym q ∙ h) d b)

  pub ports_of : InRange ends t → (w : Option ℕ) → w ≡ find (away_turn ends t) (from 0 (length ends)) → w ≡ None → AtPorts ends t
  ports_of g w q h = ports_by g (λ d b. found_no (away_turn ends t) (length ends) (sym q ∙ h) d b)

-- ---- the three tests

module _ (v : ℕ) (ends t : List ℕ) (w : Option ℕ) (p : w ≡ find (wild_turn ends t) (from 0 (length ends))) where
  pub turn_12 : (k : ℕ) → w ≡ Some k → turn_tests v ends t ≡ refused 12 k
  unfolding turn_tests
  turn_12 k h = rw (refuse_at_some 12 itself (wild_turn ends t) (length ends) k (sym p ∙ h))

  module _ (g : w ≡ None) (a : Option ℕ) (q : a ≡ find (away_turn ends t) (from 0 (length ends))) where
    pub turn_13 : (k : ℕ) → a ≡ Some k → turn_tests v ends t ≡ refused 13 k
    unfolding turn_tests
    turn_13 k h = rw (refuse_at_none 12 itself (wild_turn ends t) (length ends) (sym p ∙ g), refuse_at_some 13 itself (away_turn ends t) (length ends) k (sym q ∙ h))

    module _ (i : a ≡ None) (b : Option ℕ) (r : b ≡ find (broken_ring ends t) (from 0 v)) where
      pub turn_14 : (k : ℕ) → b ≡ Some k → turn_tests v ends t ≡ refused 14 k
      unfolding turn_tests
      turn_14 k h =
          rw (refuse_at_none 12 itself (wild_turn ends t) (length ends) (sym p ∙ g), refuse_at_none 13 itself (away_turn ends t) (length ends) (sym q ∙ i), refuse_at_some 14 itself (broken_ring ends t) v k (sym r ∙ h))

      pub turn_passed : b ≡ None → turn_tests v ends t ≡ passed
      unfolding turn_tests
      turn_passed h =
          rw (refuse_at_none 12 itself (wild_turn ends t) (length ends) (sym p ∙ g), refuse_at_none 13 itself (away_turn ends t) (length ends) (sym q ∙ i), refuse_at_none 14 itself (broken_ring ends t) v (sym r ∙ h))
