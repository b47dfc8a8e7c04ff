-- `step::cross` meets its contract: the channels and the ports of the fragment are the flags that the path is found by (Crossing).
-- Assumes nothing.
use mathlib.Core.Path.{◌≡◌, ap, ◌∙◌}
use mathlib.Core.List.{List, ◌++◌}
use Prim.Native.Nat.{ℕ}
use lib.ListN.{length, drop}
use Rattle.fragment.specs.declared.Two.{Two}
use Rattle.step.proofs.Crossing.{path_is, path_reaches}
use Rattle.step.proofs.cross.Goals as goal
use Rattle.step.proofs.cross.Goals.{After-fragment_of}

-- as many ports as there are
size : (c : After-fragment_of) → length c.fragment_of.new.desk.inside.now ≡ length c.args.net.first.now
size c = c.fragment_of.ensures.kept.9 ∙ c.two_contacts-x.ensures.kept.9 ∙ c.requires.roomy.of_inside

pub path_by-size-requires-clause-reached : goal.path_by-size-requires-clause-reached
path_by-size-requires-clause-reached c = path_reaches _ _ _ _ _ c.requires.plan c.requires.passable _ _ c.fragment_of.ensures.inside c.fragment_of.ensures.own (size (goal.at.path_by-size-requires-clause-reached c).After-fragment_of) _ _ (ap (λ (t : Two). t.x) c.two_contacts-x.ensures.two) (ap (λ (t : Two). t.y) c.two_contacts-x.ensures.two)

pub returns-clause-crossed : goal.returns-clause-crossed
returns-clause-crossed c =
    let e = path_is _ _ _ _ _ c.requires.plan c.requires.passable _ _ c.fragment_of.ensures.inside c.fragment_of.ensures.own (size (goal.at.returns-clause-crossed c).After-fragment_of) _ _ (ap (λ (t : Two). t.x) c.two_contacts-x.ensures.two) (ap (λ (t : Two). t.y) c.two_contacts-x.ensures.two) in
    record { x = ap (λ (t : Two). t.x) c.two_contacts-x.ensures.two; y = ap (λ (t : Two). t.y) c.two_contacts-x.ensures.two; size = c.path_by-size.ensures.number ∙ ap length e; held = c.path_by-size.ensures.darts ∙ ap (λ (q : List ℕ). q ++ drop (length q) c.args.out.now) e; own = c.fragment_of.ensures.own }
