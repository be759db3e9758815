-- `nodes::write_sheet` meets its contract: the length is measured first, so 13 leaves the output untouched; then rows, index and trailer
-- are written, each directly behind the one before.
-- Assumes nothing.
use native.Mathlib.Omega.{arith}
use Rattle.nodes.specs.SheetBytes.{sheet_bytes}
use Rattle.nodes.specs.Tables.{Tables, states_in}
use Rattle.nodes.proofs.Answers.{written-whole, written-short, sheet-length, sheet-written}
use Rattle.nodes.proofs.write_sheet.Goals as goal

pub overflow_add-trailer : goal.overflow_add-trailer
overflow_add-trailer c = omega (arith, c.rows_length-rows.ensures.0, c.requires.held.sets.few)

pub overflow_add-trailer-2 : goal.overflow_add-trailer-2
overflow_add-trailer-2 c = omega (arith, c.rows_length-rows.ensures.0, c.requires.held.sets.few)

pub returns-then-out-trailer : goal.returns-then-out-trailer
returns-then-out-trailer c =
    record {
      answered =
          let a = c.args in
          let t : Tables = record { sizes = a.sizes.now; ready = a.ready.now; next = a.next.now } in
          let size = c.rows_length-rows.ensures.1 a.next.now in
          written-short (sheet_bytes a.n 0 (states_in t a.count)) a.out.now
          (omega (arith, sheet-length t a.count a.n, size, c.if-out-trailer.true));
    }

pub put_rows-requires : goal.put_rows-requires
put_rows-requires c =
    let size = c.rows_length-rows.ensures.1 c.args.next.now in
    (c.requires.held, omega (arith, size, c.if-out-trailer.false))

pub overflow_cast-rows : goal.overflow_cast-rows
overflow_cast-rows c =
    omega (arith, c.rows_length-rows.ensures.0, c.requires.held.sets.few)

pub overflow_cast-result : goal.overflow_cast-result
overflow_cast-result c =
    omega (arith, c.rows_length-rows.ensures.0, c.requires.held.sets.few)

pub returns : goal.returns
returns c =
    record {
      answered =
          let a = c.args in
          let t : Tables = record { sizes = a.sizes.now; ready = a.ready.now; next = a.next.now } in
          let size = c.rows_length-rows.ensures.1 a.next.now in
          let length = sheet-length t a.count a.n in
          written-whole (sheet_bytes a.n 0 (states_in t a.count)) a.out.now (omega (arith, length, size)) (omega (arith, length, size))
          (sheet-written t a.count a.n size a.out.now (omega (arith, size)) c.put_rows.ensures
          (c.put_index.ensures a.next.now) c.put_trailer.ensures);
    }
