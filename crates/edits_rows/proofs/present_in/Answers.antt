-- `edits_rows::present_in` meets its contract. The loop's invariant: a code of the row is marked, or it stands from place i on.
-- Assumes nothing.
use native.Mathlib.Omega.{arith}
use Rattle.edits_rows.proofs.Marks.{marked-begin, marked_more, marked-ended}
use Rattle.edits_rows.proofs.RowCodes.{codes-number, row-rises, row-among, row-code}
use Rattle.edits_rows.proofs.present_in.Goals as goal

pub loop-i-init : goal.loop-i-init
loop-i-init c = marked-begin (codes-number _ _ _)

pub code_at-requires : goal.code_at-requires
code_at-requires c = (c.requires.within, omega arith)

pub with_code-present-requires : goal.with_code-present-requires
with_code-present-requires c = row-code c.requires (omega arith) c.code_at.ensures

pub loop-i-preserved : goal.loop-i-preserved
loop-i-preserved c =
    marked_more c.loop-i.invariant (omega arith) c.code_at.ensures c.with_code-present.ensures

pub returns : goal.returns
returns c =
    let given = c.requires in
    marked-ended c.loop-i.invariant (omega arith) (row-rises given) (row-among given)
