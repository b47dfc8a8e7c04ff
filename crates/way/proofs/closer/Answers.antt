-- `way::closer` meets its contract: the tests of the definition, one after the other, each left as soon as it decides.
-- Assumes nothing.
use mathlib.Core.Path.{sym, ◌∙◌}
use Prim.Native.Nat.{◌<◌}
use native.Mathlib.Omega.{arith}
use lib.ListN.{length}
use Rattle.std.proofs.Common.{rules}
use Rattle.way.proofs.Darts.{turned}
use Rattle.way.proofs.Choosing.{not_led, first_found, smaller, no_smaller}
use Rattle.way.proofs.closer.Goals as goal

pub returns-then-not-leads : goal.returns-then-not-leads
returns-then-not-leads c = not_led _ _ _ _ _ c.requires.sizes.few c.requires.dart c.requires.best (sym c.leads.ensures ∙ c.if-not-leads.true)

pub returns-in_default : goal.returns-in_default
returns-in_default c = first_found _ _ _ _ _ c.requires.sizes.few c.requires.dart (sym c.leads.ensures ∙ c.if-not-leads.false) c.in_default.is

pub enters-requires-clause-dart : goal.enters-requires-clause-dart
enters-requires-clause-dart c = turned _ _ _ c.args.net.sized _ c.requires.dart

pub enters-requires-2-clause-dart : goal.enters-requires-2-clause-dart
enters-requires-2-clause-dart c =
    let best : c.in-Some.e < length c.args.net.ends.now = search rules in
    turned _ _ _ c.args.net.sized _ best

pub returns-then-enters : goal.returns-then-enters
returns-then-enters c =
    let best : c.in-Some.e < length c.args.net.ends.now = search rules in
    smaller _ _ _ _ _ c.requires.sizes.few c.requires.dart (sym c.leads.ensures ∙ c.if-not-leads.false) _ c.in-Some.is best (omega (arith, c.enters.ensures, c.enters-2.ensures))

pub returns-else-enters : goal.returns-else-enters
returns-else-enters c =
    let best : c.in-Some.e < length c.args.net.ends.now = search rules in
    no_smaller _ _ _ _ _ c.requires.sizes.few c.requires.dart (sym c.leads.ensures ∙ c.if-not-leads.false) _ c.in-Some.is best (omega (arith, c.enters.ensures, c.enters-2.ensures))
