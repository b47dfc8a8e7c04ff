-- What a laying leaves in the slices lent (specs, "Sheets"), and what a plate that is read asks of them.
-- out_walkable, out_room, out_count: the lands that are held can be written out. sheet_of: what is then in the slices.
-- Assumes nothing.
use mathlib.Core.Path.{◌≡◌, sym, ap, ◌∙◌, subst}
use mathlib.Core.Bool.{Bool}
use mathlib.Core.List.{List, ◌++◌, map}
use Prim.Native.Nat.{ℕ, ◌-◌, ◌≤◌}
use native.Mathlib.Omega.{arith}
use lib.ListN.{length, take, replicate}
use Rattle.rules.specs.Lists.{concat}
use Rattle.rules.specs.Terms.{missing}
use Rattle.rules.specs.Laying.{Outcome, laying}
use Rattle.laws.proofs.Rounds.{Kept}
use Rattle.laws.proofs.FirstCycle.{kept_laying}
use Rattle.laws.proofs.Counting.{length_concat}
use Rattle.land.specs.Walks.{lands, Walkable}
use Rattle.split.proofs.Laws.{holds_lands, holds_walkable}
use Rattle.step.proofs.Telling.{lands_few}
use Rattle.rounds.specs.declared.End.{End}
use Rattle.rounds.specs.Words.{said_by}
use Rattle.rounds.specs.Rooms.{Left}
use Rattle.laid.specs.declared.Laid.{Laid}
use Rattle.laid.specs.Answers.{told_of}
use Rattle.laid.specs.Sheets.{Fit, Sheet}

-- the turns t are read where they were lent from
module _ (v : ℕ) (ends : List ℕ) (play : List Bool) (n : ℕ) (t₀ l₀ ns₀ : List ℕ) (F : Fit v ends play n t₀ l₀ ns₀) (fd md t' fs ns st : List ℕ) (r : End) (E' : Left v ends play n fd md t' fs ns st r) (t : List ℕ) (et : t ≡ t') where
  E : Left v ends play n fd md t fs ns st r
  E = subst (λ (w : List ℕ). Left v ends play n fd md w fs ns st r) (sym et) E'

  abbrev o : Outcome
  o = laying v ends play n

  K : Kept ends play o.state
  K = kept_laying v ends play F.plan.layable F.plan.wide F.plan.some.0 F.plan.some.1 n

  same : lands t fs ns r.lands ≡ o.state.lands
  same = holds_lands ends play o.state K t fs ns r.lands E.holds

  few : length (concat o.state.lands) ≤ length ends
  few = omega (arith, length_concat o.state.lands, lands_few v ends play F.plan.layable o.state K, F.plan.layable.size2)

  pub out_walkable : Walkable t fs ns r.lands
  out_walkable = holds_walkable ends play o.state K t fs ns r.lands E.holds v F.plan.layable

  pub out_room : length (concat (lands t fs ns r.lands)) ≤ length l₀
  out_room = rw same (omega (arith, few, F.of_lands))

  pub out_count : r.lands ≤ length ns₀
  out_count = omega (arith, E.holds.count, F.of_lengths)

  pub sheet_of : (l' ns' : List ℕ) (a : Laid) → l' ≡ concat (lands t fs ns r.lands) ++ replicate (length l₀ - length (concat (lands t fs ns r.lands))) missing
      → ns' ≡ take r.lands ns ++ replicate (length ns₀ - r.lands) 0 → told_of a ≡ said_by r → Sheet v ends play n (length ns₀) t l' ns' a
  sheet_of l' ns' a el en ea = record {
    said = ea ∙ E.said;
    of_turns = E.holds.turns;
    of_lands = el ∙ ap (λ (ls : List (List ℕ)). concat ls ++ replicate (length l₀ - length (concat ls)) missing) same ∙ ap (λ (k : ℕ). concat o.state.lands ++ replicate (k - length (concat o.state.lands)) missing) F.of_lands;
    of_lengths = en ∙ ap (λ (w : List ℕ). w ++ replicate (length ns₀ - r.lands) 0) E.holds.lens ∙ ap (λ (k : ℕ). map length o.state.lands ++ replicate (length ns₀ - k) 0) E.holds.count;
  }
