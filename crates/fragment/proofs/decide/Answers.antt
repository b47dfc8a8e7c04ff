-- `fragment::decide` meets its contract. The loop's invariant: the fragments found so far and those that the channels from k on name are all fragments; each found one has an admissible land, and what would be chosen of them is held; the numbers tell which lands are passed.
-- Assumes nothing.
use mathlib.Core.Path.{ap}
use Rattle.std.proofs.Common.{rules}
use Rattle.std.specs.Prelude.{Some}
use Rattle.fragment.proofs.Judging.{judging_start, judging_pass, judging_shut, judging_names, judging_step, judging_stuck, judging_ready, judging_held}
use Rattle.fragment.proofs.decide.Goals as goal

pub loop-k-init : goal.loop-k-init
loop-k-init c = (judging_start _ _ _ _ _ _ c.args.net.sized c.requires.ports _ c.requires.marks, c.requires.bars, search rules, search rules, search rules)

pub loop-k-preserved-then-not-begins : goal.loop-k-preserved-then-not-begins
loop-k-preserved-then-not-begins c = (judging_pass _ _ _ _ _ _ c.args.net.sized c.requires.ports _ _ _ c.loop-k.invariant.0 c.loop-k-test.true _ c.begins.ensures c.if-not-begins.true, c.loop-k.invariant.1, search rules, search rules, search rules)

pub weigh_at-requires-clause-shut : goal.weigh_at-requires-clause-shut
weigh_at-requires-clause-shut c = judging_shut _ _ _ _ _ _ c.args.net.sized c.requires.ports _ _ _ c.loop-k.invariant.0 c.loop-k-test.true _ c.begins.ensures c.if-not-begins.false

pub weigh_at-requires-clause-channel : goal.weigh_at-requires-clause-channel
weigh_at-requires-clause-channel c = (judging_names _ _ _ _ _ _ c.args.net.sized c.requires.ports _ _ _ c.loop-k.invariant.0 c.loop-k-test.true _ c.begins.ensures c.if-not-begins.false).0

pub weigh_at-requires-clause-unmarked : goal.weigh_at-requires-clause-unmarked
weigh_at-requires-clause-unmarked c = (judging_names _ _ _ _ _ _ c.args.net.sized c.requires.ports _ _ _ c.loop-k.invariant.0 c.loop-k-test.true _ c.begins.ensures c.if-not-begins.false).1

pub returns-in_default-clause-verdict : goal.returns-in_default-clause-verdict
returns-in_default-clause-verdict c =
    judging_stuck _ _ _ _ _ _ c.args.net.sized c.requires.ports _ _ _ c.loop-k.invariant.0 c.loop-k-test.true _ c.begins.ensures c.if-not-begins.false c.weigh_at.new.desk.marks.now c.in_default.ensures.weighs c.requires.laid c.requires.unlaid

pub loop-k-preserved : goal.loop-k-preserved
loop-k-preserved c =
    (judging_step _ _ _ _ _ _ c.args.net.sized c.requires.ports _ _ _ c.loop-k.invariant.0 c.loop-k-test.true _ c.begins.ensures c.if-not-begins.false _ _ c.in-Some.ensures.weighs _ (ap Some c.prefer.ensures), c.weigh_at.ensures.bars, search rules, search rules, search rules)

pub unreachable-requires : goal.unreachable-requires
unreachable-requires c = judging_held _ _ _ _ _ _ c.args.net.sized c.requires.ports _ _ _ c.loop-k.invariant.0 c.loop-k-test.false c.requires.laid c.requires.unlaid c.in-None.is

pub returns-clause-verdict : goal.returns-clause-verdict
returns-clause-verdict c = judging_ready _ _ _ _ _ _ c.args.net.sized c.requires.ports _ _ _ c.loop-k.invariant.0 c.loop-k-test.false c.requires.laid c.requires.unlaid _ c.in-Some-held.is
