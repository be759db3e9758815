-- The proof of the cycle of calls {unions}. The measure is `bits`. Three calls join the halves; what they ensure and how many numbers are
-- lent to them is said by laws on lists.
-- Assumes nothing.
use Rattle.families.proofs.joining.+unions.Given as goal

abbrev pub decreases-unions : goal.decreases-unions
decreases-unions l = l.bits
