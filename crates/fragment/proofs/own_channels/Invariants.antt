-- `fragment::own_channels` meets its contract. The loop's invariant: what stands before place j is written.
-- Assumes nothing.
use Prim.Native.Nat.{◌*◌}
use lib.ListN.{length}
use Rattle.rules.specs.Laying.{within}
use Rattle.fragment.proofs.Rising.{Written}
use Rattle.fragment.proofs.own_channels.Given as goal

abbrev pub invariant-loop-j : goal.invariant-loop-j
invariant-loop-j l = Written (λ i. within (length l.net.first.now) l.net.ends.now l.net.play.now (record { name = l.k; ports = l.inside }) (2 * i)) (length l.net.play.now) l.own l.j
