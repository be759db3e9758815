-- `nodes::write::put_index` meets its contract. The invariant, whatever the successors are: all but the entries from state q on are
-- written, up to place 2·q, and the row of state q is at `row`.
-- Assumes nothing.
use mathlib.Core.List.{List}
use Prim.Native.Nat.{ℕ, ◌*◌, ◌≤◌}
use Rattle.nodes.specs.SheetBytes.{state_row_bytes, layout_index}
use Rattle.nodes.specs.Tables.{states_in}
use Rattle.nodes.proofs.Writing.{Writing}
use Rattle.nodes.proofs.Tables.{index_from}
use Rattle.nodes.proofs.write.put_index.Given as goal

abbrev pub invariant-loop-q : goal.invariant-loop-q
invariant-loop-q l =
    ((next : List ℕ) → Writing (layout_index state_row_bytes 0 (states_in (record { sizes = l.sizes; ready = l.ready; next = next }) l.count))
    (index_from (record { sizes = l.sizes; ready = l.ready; next = next }) l.count l.row l.q) (2 * l.q) l.initial.out l.out) × (l.row ≤ 31 * l.q)
