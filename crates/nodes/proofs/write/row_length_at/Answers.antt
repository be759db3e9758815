-- `nodes::write::row_length_at` meets its contract: the ready sets of state q are a part of the table.
-- Assumes nothing.
use mathlib.Core.Path.{ap, subst⁻¹, ◌∙◌}
use mathlib.Core.List.{List}
use Prim.Native.Nat.{ℕ, ◌≤◌}
use native.Mathlib.Omega.{arith}
use lib.ListN.{length}
use Rattle.nodes.specs.Tables.{row_size}
use Rattle.nodes.proofs.Tables.{held-few, held-part, held-length}
use Rattle.nodes.proofs.write.row_length_at.Goals as goal

pub overflow_cast-end-2 : goal.overflow_cast-end-2
overflow_cast-end-2 c = omega (arith, held-few c.requires c.args.q (omega arith))

pub overflow_add-end : goal.overflow_add-end
overflow_add-end c = omega (arith, held-few c.requires c.args.q (omega arith))

pub slice_bounds-row_length-end : goal.slice_bounds-row_length-end
slice_bounds-row_length-end c = omega (arith, held-few c.requires c.args.q (omega arith))

pub row_length-requires : goal.row_length-requires
row_length-requires c =
    let q = c.args.q in
    subst⁻¹ (λ (masks : List ℕ). length masks ≤ 8) (held-part c.requires q (omega arith)) (held-length c.requires q (omega arith))

pub returns : goal.returns
returns c =
    c.row_length.ensures ∙ ap row_size (held-part c.requires c.args.q (omega arith))
