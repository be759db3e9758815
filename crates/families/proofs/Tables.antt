-- The tables of the places that have a bit, compared with all 64 places.
-- Assumes nothing.
use mathlib.Core.Path.{◌≡◌}
use mathlib.Core.List.{List, [], ◌∷◌}
use Prim.Native.Nat.{ℕ, ◌<◌}
use native.Mathlib.Omega.{arith}
use lib.ListN.{get_or}
use Rattle.model.specs.Lists.{all, upto}
use Rattle.model.specs.Contract.{has}
use Rattle.model.proofs.Lists.{all-elim}
use Rattle.model.proofs.Actions.{mem-upto}
use Rattle.model.proofs.Masks.{same_bit}
use Rattle.families.specs.declared.TheConstants.{PLACES_WITH}
use Rattle.families.proofs.Gaining.{table_is}

pub places-with : (j : ℕ) → j < 6 → (p : ℕ) → p < 64 → has (get_or PLACES_WITH j 0) p ≡ has p j
unfolding has all upto same_bit
places-with j h =
    table_is (get_or PLACES_WITH j 0) j
    (all-elim (λ i. all (λ p. same_bit (has (get_or PLACES_WITH i 0) p) (has p i)) (upto 0 64)) (mem-upto 6 0 j (omega arith) (omega arith)) tt)
