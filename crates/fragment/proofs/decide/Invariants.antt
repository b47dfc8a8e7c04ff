-- `fragment::decide` meets its contract. The loop's invariant: the fragments found so far and those that the channels from k on name are all fragments; each found one has an admissible land, and what would be chosen of them is held; the numbers tell which lands are passed.
-- A fragment without admissible land is then the lowest such, and at the end what is held is chosen.
-- Assumes nothing.
use mathlib.Core.Path.{◌≡◌}
use lib.ListN.{length}
use Rattle.land.specs.Walks.{lands}
use Rattle.fragment.specs.Bars.{Bars}
use Rattle.fragment.specs.Desks.{Kept}
use Rattle.fragment.proofs.Judging.{Judging}
use Rattle.fragment.proofs.decide.Given as goal

abbrev pub invariant-loop-k : goal.invariant-loop-k
invariant-loop-k l =
    let v = length l.net.first.now in
    let ls = lands l.kept.turns.now l.kept.firsts.now l.kept.lens.now l.kept.count in
    Judging v l.net.ends.now l.net.play.now l.kept.turns.now l.laid ls l.held l.desk.marks.now l.k × Bars v l.net.ends.now l.net.play.now l.kept.turns.now ls l.bars × Kept l.initial.desk l.desk
    × (l.desk.inside.now ≡ l.initial.desk.inside.now) × (l.desk.own.now ≡ l.initial.desk.own.now)
