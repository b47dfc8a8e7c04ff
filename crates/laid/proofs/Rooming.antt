-- The pairs that are laid, as the parts of arrays of the largest sizes that are lent.
-- pairs_few: a plate is within the limits. fit_as: what laying asks of the parts. sheet_as: what it leaves.
-- Assumes nothing.
use mathlib.Core.Path.{◌≡◌, sym, subst}
use mathlib.Core.Bool.{Bool, true}
use mathlib.Core.List.{List}
use Prim.Native.Nat.{ℕ, ◌/◌, ◌≤◌}
use native.Mathlib.Omega.{arith}
use lib.ListN.{length, replicate, length-replicate}
use Rattle.rules.specs.Files.{limits1}
use Rattle.plate.specs.State.{most_darts}
use Rattle.laid.specs.declared.Laid.{Laid}
use Rattle.laid.specs.Sheets.{Fit, Sheet}

module _ (v : ℕ) (pairs : List ℕ) (n : ℕ) (t l ns : List ℕ) (F : Fit v pairs (replicate (length pairs / 2) true) n t l ns) where
  pub pairs_few : (length pairs ≤ most_darts) × (length pairs / 2 ≤ limits1.most_channels)
  pairs_few =
      let z = length-replicate (length pairs / 2) true in
      (omega (arith, F.plan.layable.size2, F.channels, z), omega (arith, F.channels, z))

  -- v places for the ports, the pairs, and every channel in play
  module _ (u : ℕ) (ends : List ℕ) (play : List Bool) (eu : u ≡ v) (ep : ends ≡ pairs) (eq : play ≡ replicate (length pairs / 2) true) where
    pub fit_as : Fit u ends play n t l ns
    fit_as =
        subst (λ (k : ℕ). Fit k ends play n t l ns) (sym eu)
        (subst (λ (w : List ℕ). Fit v w play n t l ns) (sym ep) (subst (λ (w : List Bool). Fit v pairs w n t l ns) (sym eq) F))

    pub sheet_as : (m : ℕ) (t' l' ns' : List ℕ) (r : Laid) → Sheet u ends play n m t' l' ns' r → Sheet v pairs (replicate (length pairs / 2) true) n m t' l' ns' r
    sheet_as m t' l' ns' r S =
        subst (λ (w : List Bool). Sheet v pairs w n m t' l' ns' r) eq
        (subst (λ (w : List ℕ). Sheet v w play n m t' l' ns' r) ep (subst (λ (k : ℕ). Sheet k ends play n m t' l' ns' r) eu S))
