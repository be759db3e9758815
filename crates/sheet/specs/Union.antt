-- Masks taken together, and how many bits they have.
-- Assumes nothing.
use Rattle.std.specs.Prelude.{List, [], ◌∷◌, ℕ, length}
use Rattle.std.specs.Int.Bits.{bit_or}
use Rattle.model.specs.Lists.{keep, upto}
use Rattle.model.specs.Contract.{has}

-- a mask together with further ones
unfoldable pub union_from : ℕ → List ℕ → ℕ
union_from union [] = union
union_from union (mask ∷ masks) = union_from (bit_or union mask) masks

-- the union of ready sets: "It offers an action if some ready set has it"
unfoldable pub union_of : List ℕ → ℕ
union_of masks = union_from 0 masks

-- how many of the bits below j a mask has; of a union, the place of action j's successor: "one successor byte for each
-- offered action, actions ascending"
unfoldable pub ones_below : ℕ → ℕ → ℕ
ones_below mask j = length (keep (has mask) (upto 0 j))
