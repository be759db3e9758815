-- Connecting with a table of 1,024 zero records that a function made itself.
-- Assumes nothing.
use mathlib.Core.Path.{◌≡◌, ◌∙◌, ap}
use mathlib.Core.List.{List}
use Prim.Native.Nat.{ℕ}
use lib.ListN.{replicate}
use Rattle.model.specs.Test.{paper}
use Rattle.model.specs.Connect.{Connected, connect_of}
use Rattle.table.specs.declared.Record.{Record}
use Rattle.table.specs.Records.{blank}
use Rattle.connecting.specs.Own.{own_of}

pub own-outcome : (k : ℕ) (old new plan : List ℕ) (z : Record) (table : List Record) (left : Connected Record) → z ≡ blank
    → table ≡ replicate 1024 z → left ≡ connect_of blank paper k old new table plan
    → left ≡ own_of k old new plan
unfolding own_of
own-outcome k old new plan z table left zero made e =
    e ∙ ap (λ (t : List Record). connect_of blank paper k old new t plan) (made ∙ ap (λ (x : Record). replicate 1024 x) zero)
