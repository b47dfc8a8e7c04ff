-- `step::lay_first` meets its contract: the lowest channel in play is found (Playing), the path found is the way back of the first cycle (Crossing), so that the cycle can be laid, and the turns, the lands and the story are then those of the first state (Entering).
-- Assumes nothing.
use mathlib.Core.Path.{◌≡◌, refl, sym, ap, ◌∙◌, subst}
use mathlib.Core.Bool.{Bool, true, false}
use mathlib.Core.List.{List, ◌∷◌}
use Prim.Native.Nat.{ℕ, ◌+◌, ◌-◌, ◌*◌, ◌≤◌}
use native.Mathlib.Omega.{arith}
use lib.ListN.{length, get_or, set, replicate, length-set}
use lib.Dec.{T}
use borrow.Rule.Slice.PartMut.{same_len_mid}
use borrow.Author.Tests.{tests}
use Rattle.std.proofs.Common.{rules}
use Rattle.std.proofs.lemmas.Iterator.{YieldsList-from_slice}
use Rattle.std.proofs.lemmas.Iterator.Search.{position_from_yields_List}
use Rattle.std.specs.declared.option.Option.TheVariants.{Some}
use Rattle.rules.specs.Lists.{at}
use Rattle.rules.specs.Laying.{cycle, first_channel}
use Rattle.way.specs.Marks.{path_over}
use Rattle.laws.proofs.Trails.{second_end}
use Rattle.step.proofs.Writing.{front_room}
use Rattle.step.proofs.Playing.{first_on}
use Rattle.step.proofs.Telling.{first_in, cycle_short}
use Rattle.step.proofs.Crossing.{end_first, round_is, round_ports, round_reaches}
use Rattle.step.proofs.Entering.{ask_begin, laid_cycle}
use Rattle.step.proofs.lay_first.Goals as goal
use Rattle.step.proofs.lay_first.Goals.{After-position, After-unwrap-c, After-fill, After-path_by-n}

-- some channel is in play, and the first one is found
found : (c : After-position) → c.position.result ≡ Some (first_channel (length c.args.net.first.now) c.args.net.ends.now c.args.net.play.now)
unfolding first_channel
found c = first_on c.args.net.play.now c.position.result
    (position_from_yields_List (λ b. b) _ _ c.position.result c.position.ensures.ran (YieldsList-from_slice c.args.net.play.now cc) (λ x b q k. search (rules, tests)))
    (first_in _ _ _ c.requires.plan)

same : (c : After-unwrap-c) → c.position.result ≡ Some (first_channel (length c.args.net.first.now) c.args.net.ends.now c.args.net.play.now) → c.unwrap-c.result ≡ first_channel (length c.args.net.first.now) c.args.net.ends.now c.args.net.play.now
same c e = cc

pub unwrap-c-requires : goal.unwrap-c-requires
unwrap-c-requires c = rw (found (goal.at.unwrap-c-requires c).After-position) refl

-- it is in play
playing : (c : After-unwrap-c) → c.unwrap-c.result ≡ first_channel (length c.args.net.first.now) c.args.net.ends.now c.args.net.play.now → T (at c.args.net.play.now c.unwrap-c.result)
playing c e = subst (λ (k : ℕ). T (at c.args.net.play.now k)) (sym e) (first_in _ _ _ c.requires.plan)

-- before the path is found: all channels but that one may be used, every port is free, and the path goes from the channel's second end to its first
used : (c : After-fill) → set c.copy_from_slice.new.self c.unwrap-c.result false ≡ set c.args.net.play.now c.unwrap-c.result false
used c = ap (λ (s : List Bool). set s c.unwrap-c.result false) c.copy_from_slice.ensures.after

all_free : (c : After-fill) → c.fill.new.self ≡ replicate (length c.args.net.first.now) true
all_free c = let e : c.fill.new.self ≡ replicate (length c.args.desk.now.inside.now) true = search rules in e ∙ ap (λ (m : ℕ). replicate m true) c.requires.desk.1

-- the path closes the first cycle
cyclic : (c : After-path_by-n) → c.unwrap-c.result ≡ first_channel (length c.args.net.first.now) c.args.net.ends.now c.args.net.play.now
    → set c.copy_from_slice.new.self c.unwrap-c.result false ≡ set c.args.net.play.now c.unwrap-c.result false → c.fill.new.self ≡ replicate (length c.args.net.first.now) true
    → 2 * c.unwrap-c.result ∷ path_over c.args.net.ends.now (set c.copy_from_slice.new.self c.unwrap-c.result false) c.fill.new.self (get_or c.args.net.ends.now (2 * c.unwrap-c.result + 1) 0) (get_or c.args.net.ends.now (2 * c.unwrap-c.result) 0)
    ≡ cycle (length c.args.net.first.now) c.args.net.ends.now c.args.net.play.now (first_channel (length c.args.net.first.now) c.args.net.ends.now c.args.net.play.now)
cyclic c e o f =
    let p : T (at c.args.net.play.now c.unwrap-c.result) = subst (λ (k : ℕ). T (at c.args.net.play.now k)) (sym e) (first_in _ _ _ c.requires.plan) in
    round_is _ _ _ c.requires.plan c.unwrap-c.result p _ _ (second_end c.args.net.ends.now c.unwrap-c.result) (end_first c.args.net.ends.now c.unwrap-c.result) _ _ o f
    ∙ ap (cycle (length c.args.net.first.now) c.args.net.ends.now c.args.net.play.now) e

-- the path fits the story
wide_enough : (c : After-path_by-n) → 2 + length (path_over c.args.net.ends.now (set c.copy_from_slice.new.self c.unwrap-c.result false) c.fill.new.self (get_or c.args.net.ends.now (2 * c.unwrap-c.result + 1) 0) (get_or c.args.net.ends.now (2 * c.unwrap-c.result) 0)) ≤ length c.args.story.now
wide_enough c = front_room c.args.story.now _ _ _ 2 c.path_by-n.ensures.darts c.path_by-n.auto.out (omega (arith, c.requires.room))

pub path_by-n-requires-clause-ports : goal.path_by-n-requires-clause-ports
path_by-n-requires-clause-ports c =
    let was = goal.at.path_by-n-requires-clause-ports c in
    let e = same was.After-unwrap-c (found was.After-position) in
    round_ports _ _ _ c.requires.plan c.unwrap-c.result (playing was.After-unwrap-c e) _ _ (second_end c.args.net.ends.now c.unwrap-c.result) (end_first c.args.net.ends.now c.unwrap-c.result) _ (all_free was.After-fill)

pub path_by-n-requires-clause-reached : goal.path_by-n-requires-clause-reached
path_by-n-requires-clause-reached c =
    let was = goal.at.path_by-n-requires-clause-reached c in
    let e = same was.After-unwrap-c (found was.After-position) in
    round_reaches _ _ _ c.requires.plan c.unwrap-c.result (playing was.After-unwrap-c e) _ _ (second_end c.args.net.ends.now c.unwrap-c.result) (end_first c.args.net.ends.now c.unwrap-c.result) _ _ (used was.After-fill) (all_free was.After-fill)

pub overflow_cast-story : goal.overflow_cast-story
overflow_cast-story c =
    let was = goal.at.overflow_cast-story c in
    let e = same was.After-unwrap-c (found was.After-position) in
    omega (arith, c.path_by-n.ensures.number, ap length (cyclic was.After-path_by-n e (used was.After-fill) (all_free was.After-fill)), cycle_short _ _ _ c.requires.plan, c.requires.plan.layable.size2, c.requires.plan.layable.few)

pub begin-requires-clause-cyclic : goal.begin-requires-clause-cyclic
begin-requires-clause-cyclic c =
    let was = goal.at.begin-requires-clause-cyclic c in
    let e = same was.After-unwrap-c (found was.After-position) in
    ask_begin _ _ _ c.requires.plan _ _ _ c.args.story.now _ c.path_by-n.new.out c.path_by-n.result _ _ (cyclic was.After-path_by-n e (used was.After-fill) (all_free was.After-fill)) c.path_by-n.ensures.number refl c.path_by-n.ensures.darts (wide_enough was.After-path_by-n) c.requires.turns c.requires.starts c.requires.sizes c.requires.room

pub returns-clause-standing : goal.returns-clause-standing
returns-clause-standing c =
    let was = goal.at.returns-clause-standing c in
    let e = same was.After-unwrap-c (found was.After-position) in
    let long = same_len_mid {X = ℕ} 2 (length c.args.story.now - 2) c.args.story.now c.path_by-n.new.out c.path_by-n.auto.out in
    rw c.begin.ensures.count (laid_cycle _ _ _ c.requires.plan _ _ _ c.args.story.now _ c.path_by-n.new.out c.path_by-n.result _ _ (cyclic was.After-path_by-n e (used was.After-fill) (all_free was.After-fill)) c.path_by-n.ensures.number refl c.path_by-n.ensures.darts (wide_enough was.After-path_by-n) c.requires.turns c.requires.starts c.requires.sizes c.requires.room _ _ _ _ c.begin.ensures.begun refl (simp length-set long))
