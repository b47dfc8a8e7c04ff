-- What laying the pairs of a file that was read asks, and what it leaves (rules, `told`, `turns_left`, `lands_left`, `lengths_left`).
--   laid_out_of p n         the plate p, laid with n paths at most
-- ports_fewer: no plate has more ports than channels. flat_lands: the lands of a plate that is FLAT. fits: the plate can be laid. laid_..: what is then left.
-- Assumes nothing.
use mathlib.Core.Path.{◌≡◌, refl, sym, ap, ◌∙◌, subst}
use mathlib.Core.Bool.{Bool, true}
use mathlib.Core.List.{List, ◌++◌, map, append-nil}
use Prim.Native.Nat.{ℕ, ◌+◌, ◌-◌, ◌*◌, ◌/◌, ◌≤◌}
use native.Mathlib.Omega.{arith}
use lib.ListN.{length, drop, replicate, length-replicate, length-map}
use Rattle.std.specs.Prelude.{Ok}
use Rattle.rules.specs.Lists.{concat}
use Rattle.rules.specs.Terms.{missing}
use Rattle.rules.specs.Refusals.{Answer, given, Plate as RulePlate, pairs_of}
use Rattle.rules.specs.Laying.{Laid as Laying, laying, whole_plate, laid_out, lands_of_flat, told, filled, turns_left, lands_left, lengths_left}
use Rattle.laws.proofs.Reading.{Accepted, accepted, kept_laid_out}
use Rattle.laws.proofs.Counting.{paths_most, lands_most}
use Rattle.plate.specs.declared.Plate.{Plate}
use Rattle.plate.proofs.Laws.{plate_in, Known}
use Rattle.desk.proofs.Plans.{plan_of, same_ends, same_play}
use Rattle.laid.specs.declared.Laid.{Laid}
use Rattle.laid.specs.Answers.{laid_answer}
use Rattle.laid.specs.Sheets.{Fit, Sheet}

abbrev pub laid_out_of : RulePlate → ℕ → Laying
laid_out_of p n = record { plate = p; outcome = laid_out p n }

pub flat_lands : (p : RulePlate) → lands_of_flat p ≡ p.channels + 2 - p.ports
unfolding lands_of_flat
flat_lands p = refl

module _ (b : List ℕ) (p : Plate) (k : Known b p) where
  abbrev P : RulePlate
  P = plate_in b

  A : Accepted P
  A = accepted b P k.answer

  pub ports_fewer : p.ports ≤ p.channels
  ports_fewer = omega (arith, paths_most b P k.answer 0, k.ports, k.channels)

  module _ (n : ℕ) (pairs : List ℕ) (e : pairs ≡ pairs_of b) where
    laid_is : laying P.ports P.ends (whole_plate P) n ≡ laid_out P n
    unfolding laid_out
    laid_is = refl

    pub fits : (t l ns : List ℕ) → length t ≡ 2 * p.channels → length l ≡ 2 * p.channels → length ns ≡ p.channels + 2 - p.ports
        → Fit p.ports pairs (replicate (length pairs / 2) true) n t l ns
    fits t l ns a c m =
        subst (λ (w : List Bool). Fit p.ports pairs w n t l ns) (sym (same_play b p k pairs e))
        (subst (λ (w : List ℕ). Fit p.ports w (whole_plate P) n t l ns) (sym (same_ends b p k pairs e))
        (subst (λ (w : ℕ). Fit w P.ends (whole_plate P) n t l ns) (sym k.ports)
        (record {
          plan = plan_of P A;
          ports = A.ports.1;
          channels = omega (arith, length-replicate P.channels true, A.channels.1);
          of_turns = omega (arith, a, A.size, k.channels);
          of_lands = omega (arith, c, A.size, k.channels);
          of_lengths = subst (λ (o : ℕ). o ≤ length ns) (ap (λ (o : _). length o.state.lands) (sym laid_is)) (omega (arith, lands_most b P k.answer n, flat_lands P, m, k.channels, k.ports));
        })))

    module _ (m : ℕ) (t l ns : List ℕ) (r : Laid) (S : Sheet p.ports pairs (replicate (length pairs / 2) true) n m t l ns r) (em : m ≡ p.channels + 2 - p.ports) (a : Answer Laying) (ea : a ≡ given (laid_out_of P n)) where
      S' : Sheet P.ports P.ends (whole_plate P) n m t l ns r
      S' =
          subst (λ (w : ℕ). Sheet w P.ends (whole_plate P) n m t l ns r) k.ports
          (subst (λ (w : List ℕ). Sheet p.ports w (whole_plate P) n m t l ns r) (same_ends b p k pairs e)
          (subst (λ (w : List Bool). Sheet p.ports pairs w n m t l ns r) (same_play b p k pairs e) S))

      pub laid_told : laid_answer (Ok r) ≡ told a
      unfolding told laid_out laid_answer
      laid_told = ap given S'.said ∙ sym (ap told ea)

      pub laid_turns : (old : List ℕ) → t ++ drop (2 * p.channels) old ≡ turns_left a old
      unfolding turns_left filled laid_out
      laid_turns old =
          let z : 2 * P.channels - length (laid_out P n).state.turns ≡ 0 = omega (arith, (kept_laid_out b P k.answer n).long, A.size) in
          ap (λ (w : List ℕ). w ++ drop (2 * p.channels) old) (S'.of_turns ∙ sym (append-nil (laid_out P n).state.turns) ∙ ap (λ (x : ℕ). (laid_out P n).state.turns ++ replicate x missing) (sym z))
          ∙ ap (λ (x : ℕ). ((laid_out P n).state.turns ++ replicate (2 * P.channels - length (laid_out P n).state.turns) missing) ++ drop (2 * x) old) k.channels ∙ sym (ap (λ (x : Answer Laying). turns_left x old) ea)

      pub laid_lands : (old : List ℕ) → l ++ drop (2 * p.channels) old ≡ lands_left a old
      unfolding lands_left filled laid_out
      laid_lands old =
          ap (λ (w : List ℕ). w ++ drop (2 * p.channels) old) (S'.of_lands ∙ ap (λ (x : ℕ). concat (laid_out P n).state.lands ++ replicate (x - length (concat (laid_out P n).state.lands)) missing) A.size)
          ∙ ap (λ (x : ℕ). (concat (laid_out P n).state.lands ++ replicate (2 * P.channels - length (concat (laid_out P n).state.lands)) missing) ++ drop (2 * x) old) k.channels ∙ sym (ap (λ (x : Answer Laying). lands_left x old) ea)

      pub laid_lengths : (old : List ℕ) → ns ++ drop (p.channels + 2 - p.ports) old ≡ lengths_left a old
      unfolding lengths_left filled laid_out
      laid_lengths old =
          let z : m ≡ lands_of_flat P = em ∙ omega (arith, k.channels, k.ports) ∙ sym (flat_lands P) in
          ap (λ (x : ℕ). ns ++ drop x old) (sym em) ∙ ap (λ (w : List ℕ). w ++ drop m old) (S'.of_lengths ∙ ap (λ (x : ℕ). map length (laid_out P n).state.lands ++ replicate (m - x) 0) (sym (length-map (laid_out P n).state.lands length)))
          ∙ ap (λ (x : ℕ). (map length (laid_out P n).state.lands ++ replicate (x - length (map length (laid_out P n).state.lands)) 0) ++ drop x old) z ∙ sym (ap (λ (x : Answer Laying). lengths_left x old) ea)
