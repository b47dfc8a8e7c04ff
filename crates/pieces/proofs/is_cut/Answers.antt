-- `pieces::is_cut` meets its contract: the flood from the lowest other port, with port c alone marked before, leaves a port unmarked exactly where test 11 refuses c.
-- Assumes nothing.
use mathlib.Core.Path.{◌≡◌, ◌∙◌}
use mathlib.Core.Bool.{false, cond}
use Prim.Native.Nat.{ℕ}
use lib.Dec.{eqb}
use lib.ListN.{length, replicate}
use borrow.Author.Tests.{tests}
use Rattle.std.proofs.Common.{rules}
use Rattle.pieces.proofs.Cutting.{other_free, cut_found}
use Rattle.pieces.proofs.is_cut.Goals as goal

pub flood-requires-clause-unmarked : goal.flood-requires-clause-unmarked
flood-requires-clause-unmarked c =
    let bare : c.fill.new.self ≡ replicate (length c.args.marks.now) false = search rules in
    let other : c.from-lowest_other.result ≡ cond {A = ℕ} (eqb c.args.c 0) 1 0 = search (rules, tests) in
    other_free _ _ _ _ c.requires.port other bare

pub returns : goal.returns
returns c =
    let bare : c.fill.new.self ≡ replicate (length c.args.marks.now) false = search rules in
    let other : c.from-lowest_other.result ≡ cond {A = ℕ} (eqb c.args.c 0) 1 0 = search (rules, tests) in
    c.is_some.ensures ∙ cut_found _ _ _ _ _ _ _ _ c.requires.port other bare c.flood.ensures.marked c.first_unmarked.ensures
