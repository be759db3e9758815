-- Tests of masks, as a caller hands them in.
-- Assumes nothing.
use Rattle.std.specs.Prelude.{◌≡◌, Bool, true, false, List, ℕ, ◌<◌}
use Rattle.model.specs.Lists.{any, all}

-- whatever a call gives at a mask is what p gives
abbrev pub Computes : (ℕ → Bool → Type 0) → (ℕ → Bool) → Type 0
Computes gives p = (mask : ℕ) (r : Bool) → mask < 65536 → gives mask r → r ≡ p mask

-- what is asked of masks where a pass decides, and where a failure does
abbrev pub asked : (ℕ → Bool) → Bool → List ℕ → Bool
asked p true masks = any p masks
asked p false masks = all p masks
