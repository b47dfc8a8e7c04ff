-- `fragment::two_contacts` meets its contract: the laid ports are marked, the contacts are written, rising, and the first two are read.
-- Assumes nothing.
use mathlib.Core.Path.{refl}
use Rattle.fragment.proofs.Marking.{laid_seed}
use Rattle.fragment.proofs.Contacting.{two_read}
use Rattle.fragment.proofs.two_contacts.Goals as goal

pub contacts_of-requires-clause-unmarked : goal.contacts_of-requires-clause-unmarked
contacts_of-requires-clause-unmarked c = laid_seed _ _ _ _ c.args.net.sized c.requires.ports _ _ c.copy_from_slice.ensures.after

pub returns-clause-two : goal.returns-clause-two
returns-clause-two c = two_read _ _ _ _ _ _ _ _ _ c.contacts_of.ensures.contacts c.requires.two _ _ refl refl
