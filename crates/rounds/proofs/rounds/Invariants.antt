-- `rounds::rounds` meets its contract. The loop's invariant: the slices hold a state on the way, from which the rounds that are left lead where the whole laying leads, and what is told of the lands holds (Round, Under). What follows a round is the end at that state, or a path: then the round has a choice, and the path laid for it is one of the rounds.
-- The measure is the channels and two less the lands: each path makes a land more, and there are at most two more than channels.
-- Assumes nothing.
use Prim.Native.Nat.{◌+◌, ◌-◌}
use lib.ListN.{length}
use Rattle.rounds.specs.Rooms.{Round}
use Rattle.rounds.proofs.rounds.Given as goal

abbrev pub invariant-loop-word : goal.invariant-loop-word
invariant-loop-word l = Round (length l.net.first.now) l.net.ends.now l.net.play.now l.n l.initial.laying l.laying l.laid l.initial.desk l.desk l.initial.story l.story l.at l.bars

abbrev pub decreases-loop-word : goal.decreases-loop-word
decreases-loop-word l = length l.net.play.now + 2 - l.laying.count
