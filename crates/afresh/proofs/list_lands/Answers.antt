-- `afresh::list_lands` meets its contract: the lengths are cleared, and the lands gathered with no dart marked.
-- Assumes nothing.
use mathlib.Core.Path.{◌≡◌, ap}
use mathlib.Core.List.{List, ◌++◌}
use Prim.Native.Nat.{ℕ, ◌/◌}
use lib.ListN.{length, drop, replicate}
use Rattle.std.proofs.Common.{rules}
use Rattle.plate.specs.State.{most_darts}
use Rattle.afresh.proofs.Filling.{unmarked, darts_filled, lengths_filled}
use Rattle.afresh.proofs.list_lands.Goals as goal

pub gather_lands-requires-clause-unmarked : goal.gather_lands-requires-clause-unmarked
gather_lands-requires-clause-unmarked c = unmarked most_darts

pub returns : goal.returns
returns c =
    let cleared : c.fill.new.self ≡ replicate (length c.args.turns.now / 2) 0 = search rules in
    let z = ap (λ (l : List ℕ). l ++ drop (length c.args.turns.now / 2) c.args.lengths.now) cleared in
    record { number = c.gather_lands.ensures.number; darts = darts_filled _ c.requires.permuting _ _ c.gather_lands.ensures.darts; lengths = lengths_filled _ c.requires.permuting _ _ _ z c.gather_lands.ensures.lengths }
