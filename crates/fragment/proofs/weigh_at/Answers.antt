-- `fragment::weigh_at` meets its contract: the contacts of the fragment are found, and weighed; what is told of them is told of the fragment.
-- Assumes nothing.
use Rattle.fragment.proofs.Weighing.{contacts_weigh}
use Rattle.fragment.proofs.Barring.{bars_places}
use Rattle.fragment.proofs.weigh_at.Goals as goal

pub weigh-requires-clause-places : goal.weigh-requires-clause-places
weigh-requires-clause-places c = bars_places _ _ _ _ _ _ c.requires.bars _ c.requires.channel c.args.net.sized

pub returns-clause-weighs : goal.returns-clause-weighs
returns-clause-weighs c = contacts_weigh _ _ _ _ _ _ _ _ _ _ _ c.contacts_of-n.ensures.contacts c.weigh.ensures.weight
