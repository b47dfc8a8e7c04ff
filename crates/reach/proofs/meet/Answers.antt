-- `reach::meet` meets its contract. A dart that is not in play, and one that enters a marked port, leave all as it is.
-- Otherwise the port is new: the ports of the queue are distinct and marked, and this one is not, so the queue has room for it.
-- Assumes nothing.
use mathlib.Core.Path.{◌≡◌, sym, ap, ◌∙◌}
use mathlib.Core.Bool.{false}
use Prim.Native.Nat.{ℕ, ◌<◌}
use native.Mathlib.Omega.{arith}
use lib.ListN.{length, get_or}
use Rattle.rules.specs.Lists.{at}
use Rattle.rules.specs.Terms.{reverse, enters}
use Rattle.laws.proofs.Runs.{reverse_below}
use Rattle.reach.specs.Meets.{met_in}
use Rattle.reach.proofs.Meeting.{enters_in, meet_out, meet_old, meet_new, held_same, held_new, room_left}
use Rattle.reach.proofs.meet.Goals as goal
use Rattle.reach.proofs.meet.Goals.{After-reverse, Else-marks-q, Start}

-- the reverse of the dart is a dart, and its port is one of the ports
turned : (c : Start) → reverse c.args.d < length c.args.net.ends.now
turned c = omega (arith, reverse_below c.args.d (length c.args.net.play.now) (omega (arith, c.args.net.sized.channels)), c.args.net.sized.channels)

ported : (c : Start) → enters c.args.net.ends.now c.args.d < length c.args.marks.now
ported c = omega (arith, enters_in _ _ _ c.args.net.sized c.args.d c.requires.dart, c.requires.ports)

port : (c : After-reverse) → get_or c.args.net.ends.now c.reverse.result 0 ≡ enters c.args.net.ends.now c.args.d
unfolding enters
port c = ap (λ (i : ℕ). get_or c.args.net.ends.now i 0) c.reverse.ensures

inside : (c : After-reverse) → (enters c.args.net.ends.now c.args.d < length c.args.marks.now) → get_or c.args.net.ends.now c.reverse.result 0 < length c.args.marks.now
inside c ported = rw (port c) ported

-- where it has no mark
unmarked : (c : Else-marks-q) → (get_or c.args.net.ends.now c.reverse.result 0 ≡ enters c.args.net.ends.now c.args.d) → at c.args.marks.now (enters c.args.net.ends.now c.args.d) ≡ false
unfolding at
unmarked c port = ap (λ (i : ℕ). get_or c.args.marks.now i false) (sym port) ∙ c.if-marks-q.false

room : (c : Else-marks-q) → (enters c.args.net.ends.now c.args.d < length c.args.marks.now) → (get_or c.args.net.ends.now c.reverse.result 0 ≡ enters c.args.net.ends.now c.args.d) → c.args.n < length c.args.queue.now
room c ported port = room_left c.args.marks.now c.args.queue.now c.args.n (enters c.args.net.ends.now c.args.d) c.requires.room ported (rw (unmarked c port) tt)

pub returns-then-not-net-d : goal.returns-then-not-net-d
unfolding at
returns-then-not-net-d c = held_same _ _ _ _ c.requires.room.most (meet_out c.args.net.ends.now c.args.net.play.now c.args.d (met_in c.args.marks.now c.args.queue.now c.args.n) c.if-not-net-d.true)

pub offset_bounds-net-reverse : goal.offset_bounds-net-reverse
offset_bounds-net-reverse c = omega (arith, turned (goal.at.offset_bounds-net-reverse c).Start, c.reverse.ensures)

pub bounds-net-reverse : goal.bounds-net-reverse
bounds-net-reverse c = omega (arith, turned (goal.at.bounds-net-reverse c).Start, c.reverse.ensures)

pub bounds-marks-q : goal.bounds-marks-q
bounds-marks-q c = inside (goal.at.bounds-marks-q c).After-reverse (ported (goal.at.bounds-marks-q c).Start)

pub returns-then-marks-q : goal.returns-then-marks-q
unfolding at
returns-then-marks-q c =
    held_same _ _ _ _ c.requires.room.most
    (meet_old c.args.net.ends.now c.args.net.play.now c.args.d (met_in c.args.marks.now c.args.queue.now c.args.n) c.if-not-net-d.false (ap (λ (i : ℕ). get_or c.args.marks.now i false) (sym (port (goal.at.returns-then-marks-q c).After-reverse)) ∙ c.if-marks-q.true))

pub bounds-marks-q-2 : goal.bounds-marks-q-2
bounds-marks-q-2 c = inside (goal.at.bounds-marks-q-2 c).After-reverse (ported (goal.at.bounds-marks-q-2 c).Start)

pub bounds-queue-n : goal.bounds-queue-n
bounds-queue-n c =
    let was = goal.at.bounds-queue-n c in
    room c (ported was.Start) (port was.After-reverse)

pub returns : goal.returns
unfolding at
returns c =
    let was = goal.at.returns c in
    rw (port was.After-reverse)
    (held_new c.args.marks.now c.args.queue.now c.args.n (enters c.args.net.ends.now c.args.d) _ (room c (ported was.Start) (port was.After-reverse))
    (meet_new c.args.net.ends.now c.args.net.play.now c.args.d (met_in c.args.marks.now c.args.queue.now c.args.n) c.if-not-net-d.false (unmarked c (port was.After-reverse))))
