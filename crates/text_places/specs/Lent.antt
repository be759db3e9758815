-- The parts of a term and the tables, as they are lent: what Wanted and Filled say of them.
-- Assumes nothing.
use Rattle.std.specs.Prelude.{◌≡◌, List, ℕ}
use Rattle.text_places.specs.declared.Parts.{Parts}
use Rattle.text_places.specs.declared.Tables.{Tables}
use Rattle.text_places.specs.Wanted.{Known, Wanting}
use Rattle.text_places.specs.Filled.{FilledPlace, Filling}

-- the tables are the same, whatever is written to them
pub record SameTables (t t' : Tables) : Type 0 where
  pub sizes_kept : t'.sizes.ghost_name ≡ t.sizes.ghost_name
  pub masks_kept : t'.masks.ghost_name ≡ t.masks.ghost_name
  pub prefixes_kept : t'.prefixes.ghost_name ≡ t.prefixes.ghost_name

module _ (parts : Parts) where
  abbrev pub KnownParts : Type 0
  KnownParts = Known parts.cells.now parts.bodies.now

  abbrev pub WantingOf : (first n : ℕ) (set : List ℕ) → Type 0
  WantingOf first n set = Wanting parts.cells.now parts.bodies.now first n set

  abbrev pub FilledPlaceIn : (p : ℕ) (t t' : Tables) → Type 0
  FilledPlaceIn p t t' =
      FilledPlace parts.cells.now parts.bodies.now p t.sizes.now t.masks.now t.prefixes.now t'.sizes.now t'.masks.now t'.prefixes.now

  abbrev pub FillingIn : (wanted : List ℕ) (n : ℕ) (t : Tables) → Type 0
  FillingIn wanted n t = Filling parts.cells.now parts.bodies.now wanted n t.sizes.now t.masks.now t.prefixes.now
