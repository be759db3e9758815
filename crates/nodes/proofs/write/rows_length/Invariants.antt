-- `nodes::write::rows_length` meets its contract. The invariant: the rows before state q have `at` bytes, whatever the successors are, and
-- at most 31 each.
-- Assumes nothing.
use mathlib.Core.Path.{◌≡◌}
use mathlib.Core.List.{List}
use Prim.Native.Nat.{ℕ, ◌+◌, ◌*◌, ◌≤◌}
use lib.ListN.{length}
use Rattle.nodes.specs.SheetBytes.{state_row_bytes, layout_rows}
use Rattle.nodes.specs.Tables.{states_in}
use Rattle.nodes.proofs.Tables.{rows_from}
use Rattle.nodes.proofs.write.rows_length.Given as goal

abbrev pub invariant-loop-q : goal.invariant-loop-q
invariant-loop-q l =
    ((next : List ℕ) → length (layout_rows state_row_bytes (states_in (record { sizes = l.sizes; ready = l.ready; next = next }) l.count))
    ≡ l.at + length (rows_from (record { sizes = l.sizes; ready = l.ready; next = next }) l.count l.q)) × (l.at ≤ 31 * l.q)
