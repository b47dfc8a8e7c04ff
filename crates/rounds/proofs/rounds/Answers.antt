-- `rounds::rounds` meets its contract. The loop's invariant: the slices hold a state on the way, from which the rounds that are left lead where the whole laying leads, and what is told of the lands holds (Round, Under). What follows a round is the end at that state, or a path: then the round has a choice, and the path laid for it is one of the rounds.
-- Assumes nothing.
use mathlib.Core.Path.{sym, ◌∙◌}
use Prim.Native.Nat.{◌+◌, ◌-◌, ◌≤◌}
use native.Mathlib.Omega.{arith}
use lib.ListN.{length}
use Rattle.split.proofs.Laws.{holds_walkable}
use Rattle.rounds.proofs.Going.{ended, lays_ready, count_few, choice_so, next_round}
use Rattle.rounds.proofs.rounds.Goals as goal
use Rattle.rounds.proofs.rounds.Goals.{At-loop-word}

-- at least two lands, and at most two more than there are channels
counted : (c : At-loop-word) → (2 ≤ c.loop-word.laying.count) × (c.loop-word.laying.count ≤ length c.args.net.play.now + 2)
counted c = count_few _ _ _ _ c.requires.plan _ _ _ _ _ _ c.loop-word.invariant.under

-- the round after a path
next : goal.loop-word-preserved
next c =
    let y = lays_ready c.judge-said.result _ (c.loop-word.laying.count - 2) c.args.n (sym c.in-Continue.is ∙ c.after_round-next.ensures) in
    next_round _ _ _ _ c.requires.plan _ _ _ _ _ _ _ _ _ c.loop-word.invariant _ (sym y.0 ∙ c.judge-said.ensures.verdict) _ c.judge-said.ensures.laid y.1
    c.lay_one-at.new.laying c.judge-said.new.desk c.lay_one-at.new.desk c.lay_one-at.new.story _ c.lay_one-at.new.bars c.lay_one-at.ensures.standing c.lay_one-at.ensures.count c.judge-said.auto.laid c.lay_one-at.ensures.kept.0 c.judge-said.ensures.kept c.lay_one-at.ensures.kept.1 c.lay_one-at.auto.story c.lay_one-at.ensures.bars

pub invariant_of-kept : goal.invariant_of-kept
invariant_of-kept c = let U = c.loop-word.invariant.under in record { walkable = holds_walkable _ _ U.state U.stands.kept _ _ _ _ U.stands.holds _ c.requires.plan.layable }

pub judge-said-requires-clause-few : goal.judge-said-requires-clause-few
judge-said-requires-clause-few c = omega (arith, counted (goal.at.judge-said-requires-clause-few c).At-loop-word, c.requires.plan.layable.size2, c.requires.plan.layable.few)

pub returns-in-Break-clause-left : goal.returns-in-Break-clause-left
returns-in-Break-clause-left c = ended _ _ _ _ c.requires.plan _ _ _ _ _ _ c.loop-word.invariant.under _ _ c.args.net.tables _ c.judge-said.ensures.verdict _ (sym c.in-Break.is ∙ c.after_round-next.ensures)

pub lay_one-at-requires-clause-chosen : goal.lay_one-at-requires-clause-chosen
lay_one-at-requires-clause-chosen c =
    let y = lays_ready c.judge-said.result _ (c.loop-word.laying.count - 2) c.args.n (sym c.in-Continue.is ∙ c.after_round-next.ensures) in
    choice_so _ _ _ _ c.requires.plan _ _ _ _ _ _ _ _ _ c.loop-word.invariant _ (sym y.0 ∙ c.judge-said.ensures.verdict) _ c.judge-said.ensures.laid

pub loop-word-smaller : goal.loop-word-smaller
loop-word-smaller c = omega (arith, counted (goal.at.loop-word-smaller c).At-loop-word, (count_few _ _ _ _ c.requires.plan _ _ _ _ _ _ (next c).under).1)

pub loop-word-preserved : goal.loop-word-preserved
loop-word-preserved c = next c
