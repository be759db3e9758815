-- `families::only_empty` meets its contract: all numbers are 0, and then the first is 1.
-- Assumes nothing.
use mathlib.Core.Path.{ap, ◌∙◌}
use Prim.Native.Nat.{ℕ}
use mathlib.Core.List.{List}
use native.Mathlib.Omega.{arith}
use lib.ListN.{get_or, get_or-replicate}
use Rattle.families.proofs.Families.{empty-only}
use Rattle.families.proofs.only_empty.Goals as goal

pub returns : goal.returns
returns c =
    let zeros = c.fill.ensures.after (λ y e. e) in
    empty-only _ (c.fill.ensures.len ∙ c.requires) (λ i h. ap (λ (l : List ℕ). get_or l i 0) zeros ∙ get_or-replicate _ i 0 0 (omega arith))
