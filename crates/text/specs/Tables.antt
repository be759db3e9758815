-- What is kept of the places that can be in a state: their ready sets, and the prefixes whose steps can be made from them.
-- Assumes nothing.
use Rattle.std.specs.Prelude.{◌≡◌, ◌⊎◌, List, ℕ, ◌*◌, ◌≤◌, min, length, get_or, take, drop, T}
use Rattle.model.specs.Contract.{has}
use Rattle.nodes.specs.Sets.{sorted}
use Rattle.place_sets.specs.PlaceSets.{set_at}
use Rattle.text.specs.Places.{Sense, sense_at}
use Rattle.text.specs.Cells.{Explained}
use Rattle.text.specs.Steps.{IsPrefix, step_of, PrefixesOf}

module _ (cells bodies : List ℕ) (first : ℕ) where
  -- a place that can be in a state: the first, or one directly behind an action
  abbrev pub IsWanted : ℕ → Type 0
  IsWanted p = (p ≡ first) ⊎ ((i : ℕ) × IsPrefix cells bodies i × (p ≡ (step_of cells bodies i).to))

  -- all places of a set are such places
  abbrev pub AllWanted : ℕ → Type 0
  AllWanted x = (p : ℕ) → T (has x p) → IsWanted p

  -- Tables with room for 256 places: how many ready sets a place has, 9 for more than 8; these, ascending, from place 8·p on, if they are not
  -- more; and the set of the prefixes whose steps can be made from it.
  pub record PlaceTables (sizes masks prefixes : List ℕ) : Type 0 where
    pub sizes_room : length sizes ≡ 256
    pub masks_room : length masks ≡ 2048
    pub prefixes_room : length prefixes ≡ 1024
    pub sizes_are : (senses : List Sense) → Explained cells bodies senses → (p : ℕ) → IsWanted p
        → get_or sizes p 0 ≡ min 9 (length (sorted (sense_at senses p).ready))
    pub masks_are : (senses : List Sense) → Explained cells bodies senses → (p : ℕ) → IsWanted p
        → length (sorted (sense_at senses p).ready) ≤ 8
        → take (length (sorted (sense_at senses p).ready)) (drop (8 * p) masks) ≡ sorted (sense_at senses p).ready
    pub prefixes_are : (senses : List Sense) → Explained cells bodies senses → (p : ℕ) → IsWanted p
        → PrefixesOf cells bodies senses p (set_at prefixes p)
