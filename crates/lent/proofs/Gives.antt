-- What a stored case lends: the front of a table in which all records are the same.
-- Assumes nothing.
use mathlib.Core.Path.{◌≡◌, ◌∙◌, ap}
use mathlib.Core.List.{List}
use Prim.Native.Nat.{ℕ, ◌≤◌}
use lib.ListN.{take, replicate}
use Rattle.std.proofs.lemmas.List.{take-replicate}
use Rattle.table.specs.declared.Record.{Record}
use Rattle.lent.specs.Gives.{before}

-- the front of the table
pub front-made : (k n : ℕ) (y : Record) (table : List Record) → k ≤ n → table ≡ replicate n y → y ≡ before
    → take k table ≡ replicate k before
front-made k n y table within made is =
    ap (λ (t : List Record). take k t) made ∙ take-replicate k n y within ∙ ap (λ (x : Record). replicate k x) is
