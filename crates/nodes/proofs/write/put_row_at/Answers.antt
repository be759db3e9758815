-- `nodes::write::put_row_at` meets its contract: the ready sets of state q are a part of the table.
-- Assumes nothing.
use mathlib.Core.Path.{subst⁻¹}
use mathlib.Core.List.{List}
use Prim.Native.Nat.{ℕ, ◌+◌, ◌*◌, ◌≤◌}
use native.Mathlib.Omega.{arith}
use lib.ListN.{length}
use Rattle.nodes.specs.Tables.{Tables, row_size}
use Rattle.nodes.proofs.Tables.{held-few, held-part, held-length, row-at-written}
use Rattle.nodes.proofs.write.put_row_at.Goals as goal

pub overflow_cast-end-2 : goal.overflow_cast-end-2
overflow_cast-end-2 c =
    omega (arith, held-few c.requires.0.sets c.args.q (omega arith))

pub overflow_add-end : goal.overflow_add-end
overflow_add-end c =
    omega (arith, held-few c.requires.0.sets c.args.q (omega arith))

pub slice_bounds-put_row-end : goal.slice_bounds-put_row-end
slice_bounds-put_row-end c =
    omega (arith, held-few c.requires.0.sets c.args.q (omega arith))

pub put_row-requires : goal.put_row-requires
put_row-requires c =
    let a = c.args in
    let held = c.requires.0 in
    subst⁻¹ (λ (masks : List ℕ). (length masks ≤ 8) × (14 * a.q + 14 ≤ length a.next.now) × (row_size masks ≤ length a.out.now))
    (held-part held.sets a.q (omega arith))
    (held-length held.sets a.q (omega arith), omega (arith, held.sets.few, held.next_room), c.requires.1)

pub returns : goal.returns
returns c =
    let a = c.args in
    let t : Tables = record { sizes = a.sizes.now; ready = a.ready.now; next = a.next.now } in
    row-at-written t a.q (held-part c.requires.0.sets a.q (omega arith)) c.put_row.ensures
