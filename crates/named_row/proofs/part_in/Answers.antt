-- `named_row::part_in` meets its contract: the row ends where the place behind its last successor is.
-- Assumes nothing.
use native.Mathlib.Omega.{arith}
use Rattle.named_row.proofs.Rows.{place-small, begin-small, begin-first, length-small, part-is}
use Rattle.named_row.proofs.part_in.Goals as goal

pub place_in-end-requires : goal.place_in-end-requires
place_in-end-requires c = (omega arith, place-small c.requires _ (omega arith) c.offer_of.ensures)

pub overflow_cast-result : goal.overflow_cast-result
overflow_cast-result c =
    omega (
      arith,
      begin-small c.requires c.row_start-begin.ensures c.offer_of.ensures c.place_in-end.ensures,
    )

pub overflow_sub-result : goal.overflow_sub-result
overflow_sub-result c = begin-first c.requires c.row_start-begin.ensures c.offer_of.ensures c.place_in-end.ensures

pub overflow_cast-result-2 : goal.overflow_cast-result-2
overflow_cast-result-2 c =
    omega (
      arith,
      length-small c.requires c.row_start-begin.ensures c.offer_of.ensures c.place_in-end.ensures,
    )

pub returns : goal.returns
returns c = part-is c.requires c.row_start-begin.ensures c.offer_of.ensures c.place_in-end.ensures _
