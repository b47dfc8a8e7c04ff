-- The measure of the digits is the number.
use Rattle.print.proofs.Out.+decimal.Given as goal

abbrev pub decreases-decimal : goal.decreases-decimal
decreases-decimal l = l.n
