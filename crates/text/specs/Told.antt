-- Places and links, as the code tells them from the numbers that are kept of them.
-- Assumes nothing.
use Rattle.std.specs.Prelude.{◌≡◌, ℕ, ◌+◌, ◌%◌, ◌<◌}
use Rattle.text.specs.declared.Cell as code
use Rattle.text.specs.declared.Cell.TheVariants.{Prefix, Plus, Inner}
use Rattle.text.specs.declared.Link.{Link}
use Rattle.text.specs.declared.Link.TheVariants.{End, Place, Body}
use Rattle.text.specs.Cells.{Cell}

-- the kind of a cell says which place it is, and its links lead on
abbrev pub Told : Cell → code.Cell → Type 0
Told c (Prefix action next) = (c.kind < 14) × (action ≡ c.kind) × (next ≡ c.left)
Told c (Plus left right) = (c.kind ≡ 14) × (left ≡ c.left) × (right ≡ c.right % 512)
Told c (Inner left right) = (c.kind ≡ 15) × (left ≡ c.left) × (right ≡ c.right % 512)

-- the size of a link says what it leads to
abbrev pub LinkTold : ℕ → Link → Type 0
LinkTold link End = link ≡ 0
LinkTold link (Place p) = (link ≡ p) × (0 < p) × (p < 256)
LinkTold link (Body r) = link ≡ 256 + r
