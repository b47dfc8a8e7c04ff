-- `reach::first_unmarked` meets its contract: the first place of the marks that has none is the first number below theirs whose place has none.
-- Assumes nothing.
use mathlib.Core.Path.{◌≡◌, refl, ap, ◌∙◌}
use mathlib.Core.Bool.{Bool, not, cond}
use mathlib.Core.List.{List, [], ◌∷◌}
use Prim.Native.Nat.{ℕ, suc, ◌+◌, ◌<◌}
use native.Mathlib.Nat.{zero-add}
use native.Mathlib.Numerals.{add-one}
use native.Mathlib.Omega.{arith}
use borrow.Author.Tests.{tests}
use lib.ListN.{length}
use Rattle.std.specs.List.{find, position_from}
use Rattle.std.specs.declared.option.Option.{Option}
use Rattle.std.specs.declared.option.Option.TheVariants.{Some}
use Rattle.std.proofs.Common.{rules}
use Rattle.std.proofs.lemmas.Iterator.{YieldsList-from_slice}
use Rattle.std.proofs.lemmas.Iterator.Search.{position_from_yields_List}
use Rattle.std.proofs.lemmas.Iterator.Adapters.{position_from-zero}
use Rattle.rules.specs.Lists.{at, from}
use Rattle.reach.proofs.first_unmarked.Goals as goal

place_find : (test : Bool → Bool) (f : ℕ → Bool) (i : ℕ) (marks : List Bool) → ((k : ℕ) → k < length marks → f (i + k) ≡ test (at marks k)) → position_from test i marks ≡ find f (from i (length marks))
unfolding from at
place_find test f i [] h = refl
place_find test f i (m ∷ marks) h =
    let here : f i ≡ test m = ap f (omega arith) ∙ h 0 (omega arith) in
    rw (add-one, ← here) (ap (cond {A = Option ℕ} (f i) (Some i)) (place_find test f (suc i) marks (λ k b. ap f (omega arith) ∙ h (suc k) (omega arith))))

pub returns : goal.returns
returns c =
    position_from_yields_List not _ _ _ c.position.ensures.ran (YieldsList-from_slice c.args.marks.now cc) (λ x b q k. search (rules, tests))
    ∙ position_from-zero not c.args.marks.now
    ∙ place_find not (λ p. not (at c.args.marks.now p)) 0 c.args.marks.now (λ k b. ap (λ (q : ℕ). not (at c.args.marks.now q)) (zero-add k))
