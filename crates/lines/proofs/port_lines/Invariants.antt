-- `lines::port_lines` meets its contract. The loop's invariant: the lines of the ports before p are written, and those from p on are left. A port's ring begins at its first dart and has as many darts as the port.
-- Assumes nothing.
use Prim.Native.Nat.{◌-◌}
use lib.ListN.{length}
use Rattle.print.proofs.Putting.{Writing}
use Rattle.lines.specs.Lines.{port_lines}
use Rattle.lines.proofs.port_lines.Given as goal

abbrev pub invariant-loop-p : goal.invariant-loop-p
invariant-loop-p l = Writing (port_lines l.net.ends.now l.turns 0 (length l.net.first.now)) l.initial.out l.out (port_lines l.net.ends.now l.turns l.p (length l.net.first.now - l.p))
