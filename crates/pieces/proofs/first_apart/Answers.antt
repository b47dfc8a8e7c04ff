-- `pieces::first_apart` meets its contract: the flood from port 0, with no port marked before, leaves the ports unmarked that test 10 refuses.
-- Assumes nothing.
use mathlib.Core.Path.{◌≡◌, ap, ◌∙◌}
use mathlib.Core.Bool.{Bool, false}
use mathlib.Core.List.{List}
use lib.ListN.{length, replicate}
use Rattle.std.proofs.Common.{rules}
use Rattle.rules.specs.Lists.{at}
use Rattle.reach.proofs.Around.{none_at}
use Rattle.pieces.proofs.Cutting.{apart_found}
use Rattle.pieces.proofs.first_apart.Goals as goal

pub flood-requires-clause-unmarked : goal.flood-requires-clause-unmarked
flood-requires-clause-unmarked c =
    let bare : c.fill.new.self ≡ replicate (length c.args.marks.now) false = search rules in
    ap (λ (m : List Bool). at m 0) bare ∙ none_at (length c.args.marks.now) 0

pub returns : goal.returns
returns c =
    let bare : c.fill.new.self ≡ replicate (length c.args.marks.now) false = search rules in
    apart_found _ _ _ _ _ _ bare c.flood.ensures.marked c.first_unmarked.ensures
