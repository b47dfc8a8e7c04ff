-- `fragment::fragment_of` meets its contract: the fragment spreads over the laid ports; its ports are those that are marked then and not laid, and its channels are read off them.
-- Assumes nothing.
use mathlib.Core.Path.{◌≡◌, ap, ◌∙◌, subst}
use mathlib.Core.Bool.{Bool, not, ◌&&◌}
use mathlib.Core.List.{List, map}
use Prim.Native.Nat.{ℕ}
use lib.ListN.{length}
use Rattle.rules.specs.Lists.{from, at}
use Rattle.rules.specs.Laying.{fragment_at}
use Rattle.fragment.specs.Fragments.{Spread}
use Rattle.fragment.proofs.Marking.{laid_seed}
use Rattle.fragment.proofs.Owning.{inner_is, fragment_is, own_as}
use Rattle.fragment.proofs.fragment_of.Goals as goal
use Rattle.fragment.proofs.fragment_of.Goals.{After-inner_ports, After-spread}

-- the fragment has spread over the laid ports
over_laid : (c : After-spread) → Spread (length c.args.net.first.now) c.args.net.ends.now c.args.net.play.now c.args.laid.now c.args.k
    c.args.laid.now c.spread.new.marks c.spread.new.queue c.spread.result
over_laid c =
    subst (λ (m : List Bool). Spread (length c.args.net.first.now) c.args.net.ends.now c.args.net.play.now c.args.laid.now c.args.k m c.spread.new.marks c.spread.new.queue c.spread.result)
    c.copy_from_slice.ensures.after c.spread.ensures

ports : (c : After-inner_ports) → (Spread (length c.args.net.first.now) c.args.net.ends.now c.args.net.play.now c.args.laid.now c.args.k
    c.args.laid.now c.spread.new.marks c.spread.new.queue c.spread.result) → c.inner_ports.new.inside ≡ (fragment_at (length c.args.net.first.now) c.args.net.ends.now c.args.net.play.now c.args.laid.now c.args.k).ports
ports c over_laid = c.inner_ports.ensures ∙ ap (λ (n : ℕ). map (λ p. at c.spread.new.marks p && not (at c.args.laid.now p)) (from 0 n)) c.requires.ports ∙ inner_is _ _ _ _ c.requires.ports _ _ _ _ over_laid

pub spread-requires-clause-unmarked : goal.spread-requires-clause-unmarked
spread-requires-clause-unmarked c = laid_seed _ _ _ _ c.args.net.sized c.requires.ports _ _ c.copy_from_slice.ensures.after

pub returns-clause-inside : goal.returns-clause-inside
returns-clause-inside c =
    let was = goal.at.returns-clause-inside c in
    ports was.After-inner_ports (over_laid was.After-spread)

pub returns-clause-own : goal.returns-clause-own
returns-clause-own c =
    let was = goal.at.returns-clause-own c in
    own_as _ c.args.net.ends.now c.args.net.play.now _ _ _ (fragment_is _ _ _ _ _ _ (ports was.After-inner_ports (over_laid was.After-spread))) c.own_channels.ensures
