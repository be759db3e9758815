-- `sheet::place_in` meets its contract: the place is where the successors begin, and as many on as there are lower actions.
-- Assumes nothing.
use native.Mathlib.Omega.{arith}
use Rattle.sheet.specs.Offer.{place_in}
use Rattle.sheet.proofs.place_in.Goals as goal

pub overflow_add-result : goal.overflow_add-result
unfolding place_in
overflow_add-result c = omega (arith, c.ones_below.ensures)

pub returns : goal.returns
unfolding place_in
returns c = omega (arith, c.ones_below.ensures)
