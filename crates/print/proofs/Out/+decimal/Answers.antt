-- The proof of the cycle of calls {Out::decimal}. The digits of a number of ten or more are those of its tenth and one digit more (`tenth_cut`).
-- Assumes nothing.
use mathlib.Core.Path.{subst}
use mathlib.Core.List.{[], ◌∷◌}
use Prim.Native.Nat.{ℕ, ◌<◌, ◌/◌}
use native.Mathlib.Omega.{arith}
use Rattle.rules.specs.Listing.{decimal}
use Rattle.print.proofs.Putting.{Writing, whole, begin, begin_as, room, step, last}
use Rattle.print.proofs.Digits.{decimal_low, tenth_cut}
use Rattle.print.proofs.Out.+decimal.Goals as goal
use Rattle.print.proofs.Out.+decimal.Goals.{After-digit, then-n-ge10, else-n-ge10}

-- the digits of the tenth are written, where there are any
tenth : (t : ℕ) (c : After-digit t) → Writing (decimal c.args.n) c.args.self.now c.if-n-ge10.self (c.digit.result ∷ [])
tenth t c = rw c.digit.ensures (elim c.if-n-ge10.branch [ then-n-ge10 w ↦ rw w.self-is (step c.requires (begin _ c.args.self.now) (tenth_cut _ w.if-n-ge10.true) w.decimal.ensures) | else-n-ge10 w ↦ rw w.self-is (begin_as _ _ _ (decimal_low _ w.if-n-ge10.false)) ])

pub decimal-requires : goal.decimal-requires
decimal-requires t c = (subst (λ (m : ℕ). c.args.n / 10 < m) c.decreases (omega (arith, c.if-n-ge10.true)), room c.requires (begin _ c.args.self.now) (tenth_cut _ c.if-n-ge10.true))

pub byte-requires : goal.byte-requires
byte-requires t c = room c.requires (tenth t (goal.at.byte-requires t c).After-digit) (whole _)

pub returns : goal.returns
returns t c = last c.requires (tenth t (goal.at.returns t c).After-digit) c.byte.ensures
