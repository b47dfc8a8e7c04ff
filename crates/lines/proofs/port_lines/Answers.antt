-- `lines::port_lines` meets its contract. The loop's invariant: the lines of the ports before p are written, and those from p on are left. A port's ring begins at its first dart and has as many darts as the port.
-- Assumes nothing.
use mathlib.Core.Path.{subst}
use lib.ListN.{length}
use Rattle.reach.proofs.Spreading.{first_read}
use Rattle.land.specs.Walks.{Below}
use Rattle.print.proofs.Putting.{room, step, finish}
use Rattle.lines.proofs.Rows.{ring_as, port_next, port_over}
use Rattle.lines.proofs.port_lines.Goals as goal

pub port_line-requires : goal.port_line-requires
port_line-requires c =
    let head = first_read _ _ _ _ c.args.net.tables _ c.loop-p-test.true in
    record {
      below = subst (Below (length c.args.turns.now)) (ring_as _ _ _ _ _ c.degree-n.ensures head) (c.requires.ringed _ c.loop-p-test.true);
      room = room c.requires.room c.loop-p.invariant (port_next _ _ _ _ _ c.degree-n.ensures head _ c.loop-p-test.true);
    }

pub loop-p-preserved : goal.loop-p-preserved
loop-p-preserved c = step c.requires.room c.loop-p.invariant (port_next _ _ _ _ _ c.degree-n.ensures (first_read _ _ _ _ c.args.net.tables _ c.loop-p-test.true) _ c.loop-p-test.true) c.port_line.ensures

pub returns : goal.returns
returns c = finish c.requires.room c.loop-p.invariant (port_over _ _ _ _ c.loop-p-test.false)
