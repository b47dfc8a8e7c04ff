-- `afresh::gather_lands` meets its contract. The loop's invariant: the lands of the darts below d stand in the buffers and are marked, and to gather on from d gives all lands.
-- A dart without a mark is in none of them, and begins one; there is place for it, since lands share no dart and have two or more.
-- Assumes nothing.
use mathlib.Core.List.{List}
use Prim.Native.Nat.{ℕ}
use lib.ListN.{length}
use Rattle.afresh.proofs.Listing.{Listed}
use Rattle.afresh.proofs.gather_lands.Given as goal

abbrev pub invariant-loop-d : goal.invariant-loop-d
invariant-loop-d l = (ls : List (List ℕ)) × Listed l.turns l.initial.darts l.initial.lengths (length l.initial.seen) l.darts l.lengths l.seen l.lands l.n l.d ls
