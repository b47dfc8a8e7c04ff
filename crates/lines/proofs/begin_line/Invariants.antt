-- `lines::begin_line` meets its contract. The loop's invariant: the word and the fields of the numbers passed are written.
-- Assumes nothing.
use mathlib.Core.List.{◌++◌}
use lib.ListN.{drop}
use Rattle.rules.specs.Listing.{fields}
use Rattle.print.proofs.Putting.{Writing}
use Rattle.lines.proofs.begin_line.Given as goal

abbrev pub invariant-loop-n : goal.invariant-loop-n
invariant-loop-n l = Writing (l.word ++ fields l.numbers) l.fn.out l.out (fields (drop l.n-index l.numbers))
