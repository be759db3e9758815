-- The places that can be in a state, as a set: the first, and each that stands directly behind a prefix.
-- Assumes nothing.
use Rattle.std.specs.Prelude.{◌≡◌, List, ℕ, ◌≤◌, ◌<◌, length, T}
use Rattle.model.specs.Contract.{has}
use Rattle.place_sets.specs.PlaceSets.{number_of}
use Rattle.text.specs.Places.{Sense}
use Rattle.text.specs.Cells.{Explained}
use Rattle.text.specs.Steps.{IsPrefix, step_of}

module _ (cells bodies : List ℕ) where
  -- the cells are those of some term, with few recs
  pub record Known : Type 0 where
    pub senses : List Sense
    pub explained : Explained cells bodies senses
    pub some : 0 < length cells
    pub recs : length bodies ≤ 64

  -- A set of places has the first, and those behind the prefixes before place n. All its places have cells.
  pub record Wanting (first n : ℕ) (set : List ℕ) : Type 0 where
    pub room : length set ≡ 4
    pub has_first : T (has (number_of set) first)
    pub has_behind : (i : ℕ) → i < n → IsPrefix cells bodies i → T (has (number_of set) (step_of cells bodies i).to)
    pub inside : (p : ℕ) → T (has (number_of set) p) → p < length cells
