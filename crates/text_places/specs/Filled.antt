-- What is kept of one place in the tables, and what writing it leaves as it was.
-- Assumes nothing.
use Rattle.std.specs.Prelude.{◌≡◌, List, ℕ, ◌*◌, ◌≤◌, ◌<◌, min, length, get_or, take, drop, T}
use Rattle.model.specs.Contract.{has}
use Rattle.nodes.specs.Sets.{sorted}
use Rattle.place_sets.specs.PlaceSets.{number_of, set_at}
use Rattle.text.specs.Places.{Sense, sense_at}
use Rattle.text.specs.Cells.{Explained}
use Rattle.text.specs.Steps.{PrefixesOf}

-- tables with room for 256 places
pub record Rooms (sizes masks prefixes : List ℕ) : Type 0 where
  pub sizes_room : length sizes ≡ 256
  pub masks_room : length masks ≡ 2048
  pub prefixes_room : length prefixes ≡ 1024

-- What stands for the places below p, and the prefixes of those above it, are as they were.
pub record Left (p : ℕ) (sizes masks prefixes sizes' masks' prefixes' : List ℕ) : Type 0 where
  pub size_left : (k : ℕ) → k < p → get_or sizes' k 0 ≡ get_or sizes k 0
  pub masks_left : (k : ℕ) → k < p → take 8 (drop (8 * k) masks') ≡ take 8 (drop (8 * k) masks)
  pub prefixes_below : (k : ℕ) → k < p → set_at prefixes' k ≡ set_at prefixes k
  pub prefixes_above : (k : ℕ) → p < k → set_at prefixes' k ≡ set_at prefixes k

module _ (cells bodies : List ℕ) where
  -- The tables have what is to be kept of place p: how many ready sets it has, 9 for more than 8; these, ascending, if they are not more;
  -- and the set of the prefixes whose steps can be made from it.
  pub record Kept (p : ℕ) (sizes masks prefixes : List ℕ) : Type 0 where
    pub size_is : (senses : List Sense) → Explained cells bodies senses → get_or sizes p 0 ≡ min 9 (length (sorted (sense_at senses p).ready))
    pub masks_are : (senses : List Sense) → Explained cells bodies senses → length (sorted (sense_at senses p).ready) ≤ 8
        → take (length (sorted (sense_at senses p).ready)) (drop (8 * p) masks) ≡ sorted (sense_at senses p).ready
    pub prefixes_are : (senses : List Sense) → Explained cells bodies senses → PrefixesOf cells bodies senses p (set_at prefixes p)

  -- Place p is written.
  pub record FilledPlace (p : ℕ) (sizes masks prefixes sizes' masks' prefixes' : List ℕ) : Type 0 where
    pub rooms : Rooms sizes' masks' prefixes'
    pub kept : Kept p sizes' masks' prefixes'
    pub left : Left p sizes masks prefixes sizes' masks' prefixes'

  -- Of the places below n all of a set are written. The others have no prefixes yet.
  pub record Filling (wanted : List ℕ) (n : ℕ) (sizes masks prefixes : List ℕ) : Type 0 where
    pub rooms : Rooms sizes masks prefixes
    pub done : (p : ℕ) → p < n → T (has (number_of wanted) p) → Kept p sizes masks prefixes
    pub clear : (p : ℕ) → n ≤ p → set_at prefixes p ≡ 0
