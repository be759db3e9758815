-- Families: sets of masks, as bits in a list of numbers.
-- Assumes nothing.
use Rattle.std.specs.Prelude.{◌≡◌, Bool, List, map, ℕ, ◌+◌, ◌*◌, ◌/◌, ◌%◌, ◌^◌, ◌<◌, get_or, T}
use Rattle.std.specs.Int.Bits.{bit_or}
use Rattle.model.specs.Lists.{keep, upto}
use Rattle.model.specs.Contract.{has}

-- mask m is in the family
unfoldable pub in_family : List ℕ → ℕ → Bool
in_family words m = has (get_or words (m / 64) 0) (m % 64)

-- the masks of a family, ascending
unfoldable pub masks_of : List ℕ → List ℕ
masks_of words = keep (in_family words) (upto 0 16384)

-- those among them that number w of the family has
unfoldable pub masks_in : (w word : ℕ) → List ℕ
masks_in w word = map (λ p. 64 * w + p) (keep (has word) (upto 0 64))

-- a family in which every mask has gained an action: its masks are those of the family before, each with action j
pub record Forced (j : ℕ) (words words' : List ℕ) : Type 0 where
  pub comes : (m : ℕ) → m < 16384 → T (in_family words' m) → (f : ℕ) × (f < 16384) × T (in_family words f) × (m ≡ bit_or f (2 ^ j))
  pub gains : (m f : ℕ) → m < 16384 → f < 16384 → T (in_family words f) → m ≡ bit_or f (2 ^ j) → T (in_family words' m)

-- The family of all unions of a mask of one family and a mask of another.
pub record Unions (one other all : List ℕ) : Type 0 where
  pub comes : (m : ℕ) → m < 16384 → T (in_family all m)
      → (f g : ℕ) × (f < 16384) × T (in_family one f) × (g < 16384) × T (in_family other g) × (m ≡ bit_or f g)
  pub gives : (m f g : ℕ) → m < 16384 → f < 16384 → g < 16384 → T (in_family one f) → T (in_family other g) → m ≡ bit_or f g
      → T (in_family all m)
