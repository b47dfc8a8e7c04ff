-- `print::Out::field` meets its contract: a blank, and behind it the digits.
-- Assumes nothing.
use mathlib.Core.List.{[], ◌∷◌}
use Rattle.rules.specs.Listing.{decimal, fields}
use Rattle.print.proofs.Putting.{Writing, whole, begin, room, step, last}
use Rattle.print.proofs.Fields.{fields_one}
use Rattle.print.proofs.Out.field.Goals as goal
use Rattle.print.proofs.Out.field.Goals.{After-byte}

-- the blank is written
blank : (c : After-byte) → Writing (fields (c.args.n ∷ [])) c.args.self.now c.byte.new.self (decimal c.args.n)
blank c = step c.requires (begin _ _) (fields_one _) c.byte.ensures

pub byte-requires : goal.byte-requires
byte-requires c = room c.requires (begin _ c.args.self.now) (fields_one _)

pub decimal-requires : goal.decimal-requires
decimal-requires c = room c.requires (blank (goal.at.decimal-requires c).After-byte) (whole _)

pub returns : goal.returns
returns c = last c.requires (blank (goal.at.returns c).After-byte) c.decimal.ensures
