-- `choosing_rows::Framed::read_all` meets its contract. The invariant: row r stands at `at`, the tables hold those in front of it, and none of
-- them is at fault. Assumes nothing.
use native.Mathlib.Omega.{arith}
use Rattle.choosing_rows.proofs.Reading.{none_read, some_read}
use Rattle.choosing_rows.proofs.AllRows.{all-fault, rows-begin, rows-room, rows-gap, rows_end}
use Rattle.choosing_rows.proofs.AllRows.{rows-entry, rows-bad, rows_on}
use Rattle.choosing_rows.proofs.Framed.read_all.Goals as goal

pub loop-r-init : goal.loop-r-init
loop-r-init c = rows-begin c.requires

pub returns-then-word_at-at : goal.returns-then-word_at-at
returns-then-word_at-at c =
    let l = c.loop-r in
    all-fault (rows-entry l.invariant (omega arith) _ c.word_at.ensures c.if-word_at-at.true)

pub read_row-requires : goal.read_row-requires
read_row-requires c =
    let placed = c.args.self.now.placed in
    rows-room c.loop-r.invariant (omega (arith, placed.few_rows))

pub returns-in_default : goal.returns-in_default
returns-in_default c =
    let l = c.loop-r in
    all-fault
    (rows-bad l.invariant (omega arith) _ c.word_at.ensures c.if-word_at-at.false
    (none_read c.read_row.ensures c.in_default.is))

pub loop-r-preserved : goal.loop-r-preserved
loop-r-preserved c =
    let placed = c.args.self.now.placed in
    let row = some_read c.read_row.ensures c.in-Some.is in
    rows_on c.loop-r.invariant (omega arith) _ c.word_at.ensures c.if-word_at-at.false row.1 (omega arith) (omega arith)
    row.2

pub overflow_sub-result : goal.overflow_sub-result
overflow_sub-result c =
    let placed = c.args.self.now.placed in
    omega (arith, placed.some_row)

pub returns-then-at-index : goal.returns-then-at-index
returns-then-at-index c =
    let l = c.loop-r in
    all-fault (rows-gap l.invariant (omega arith) c.if-at-index.true (omega arith))

pub returns : goal.returns
returns c = rows_end c.loop-r.invariant (omega arith) c.if-at-index.false
