-- `land::admissible` meets its contract. Three loops, and at each the invariant says that what is left decides what the whole decides.
-- Lands: none from number `from` up to `i` visits every contact (`Passed`). Contacts: the land visits each of those passed, so it visits all where it visits those left. Darts: none of those passed leaves p, so the land visits p where one of those left leaves it.
-- Assumes nothing.
use mathlib.Core.Path.{◌≡◌}
use Prim.Native.Nat.{◌-◌}
use lib.ListN.{drop}
use Rattle.rules.specs.Lists.{all}
use Rattle.rules.specs.Terms.{visits}
use Rattle.land.specs.Walks.{land_from, lands}
use Rattle.land.proofs.Walking.{Left}
use Rattle.land.proofs.Fitting.{Passed}
use Rattle.land.proofs.admissible.Given as goal

abbrev pub invariant-loop : goal.invariant-loop
invariant-loop l = Left l.kept.turns.now l.len l.counter l.d × (visits l.ends (land_from l.kept.turns.now l.len l.first) l.p ≡ visits l.ends (land_from l.kept.turns.now (l.len - l.counter) l.d) l.p)

abbrev pub invariant-contacts : goal.invariant-contacts
invariant-contacts l = all (visits l.ends (land_from l.kept.turns.now l.len l.first)) l.contacts ≡ all (visits l.ends (land_from l.kept.turns.now l.len l.first)) (drop l.p-index l.contacts)

abbrev pub invariant-lands : goal.invariant-lands
invariant-lands l = Passed l.ends l.contacts (lands l.kept.turns.now l.kept.firsts.now l.kept.lens.now l.kept.count) l.from l.i
