-- Connecting with the records that the connecting program lends.
-- Assumes nothing.
use Rattle.std.specs.Prelude.{List, ℕ, replicate}
use Rattle.model.specs.Test.{paper}
use Rattle.model.specs.Connect.{Connected, connect_of}
use Rattle.table.specs.declared.Record.{Record}
use Rattle.table.specs.Records.{blank}

-- "It lends 1,024 records", each of them zero
unfoldable pub own_of : (k : ℕ) → (old new plan : List ℕ) → Connected Record
own_of k old new plan = connect_of blank paper k old new (replicate 1024 blank) plan
