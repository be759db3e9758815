-- `nodes::write::put_rows` meets its contract. The invariant: all but the rows from state q on are written, up to the place `at`.
-- Assumes nothing.
use Rattle.nodes.specs.SheetBytes.{state_row_bytes, layout_rows}
use Rattle.nodes.specs.Tables.{states_in}
use Rattle.nodes.proofs.Writing.{Writing}
use Rattle.nodes.proofs.Tables.{rows_from}
use Rattle.nodes.proofs.write.put_rows.Given as goal

abbrev pub invariant-loop-q : goal.invariant-loop-q
invariant-loop-q l =
    Writing (layout_rows state_row_bytes (states_in (record { sizes = l.sizes; ready = l.ready; next = l.next }) l.count))
    (rows_from (record { sizes = l.sizes; ready = l.ready; next = l.next }) l.count l.q) l.at l.initial.out l.out
