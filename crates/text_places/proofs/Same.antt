-- Tables that are lent on and on are the same tables.
-- Assumes nothing.
use mathlib.Core.Path.{◌∙◌}
use Rattle.text_places.specs.declared.Tables.{Tables}
use Rattle.text_places.specs.Lent.{SameTables}

pub same-then : {t u v : Tables} → SameTables t u → SameTables u v → SameTables t v
same-then a b = record {
  sizes_kept = b.sizes_kept ∙ a.sizes_kept;
  masks_kept = b.masks_kept ∙ a.masks_kept;
  prefixes_kept = b.prefixes_kept ∙ a.prefixes_kept;
}
