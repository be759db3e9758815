-- Families of masks, as tests, and a family joined with masks: all unions of one of the family and one of the masks.
-- Assumes nothing.
use Rattle.std.specs.Prelude.{◌≡◌, Bool, ◌||◌, ◌↔◌, ℕ, ◌<◌, T}
use mathlib.Core.List.{List, Memᴰ}
use Rattle.std.specs.Int.Bits.{bit_or}

-- a mask is in the family or not
abbrev pub Family : Type 0
Family = ℕ → Bool

-- a union of a mask of the family and one of the list
abbrev pub Union : Family → List ℕ → ℕ → Type 0
Union F l m = (f g : ℕ) × (f < 16384) × T (F f) × Memᴰ g l × (m ≡ bit_or f g)

-- "ready sets of + are all unions of one from each side"
abbrev pub Joined : Family → List ℕ → Family → Type 0
Joined F l G = (m : ℕ) → m < 16384 → T (G m) ↔ Union F l m

-- what joining does not change
abbrev pub Absorbs : Family → List ℕ → Type 0
Absorbs F l = Joined F l F

-- both families in one
abbrev pub United : Family → Family → Family → Type 0
United F G H = (m : ℕ) → m < 16384 → H m ≡ (F m || G m)
