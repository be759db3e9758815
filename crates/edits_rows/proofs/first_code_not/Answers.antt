-- `edits_rows::first_code_not` meets its contract: the first element that fails a test, along the row. Assumes nothing.
use mathlib.Core.Path.{sym, ap, ◌∙◌}
use native.Mathlib.Omega.{arith}
use Rattle.edits_rows.specs.Rows.{found_of}
use Rattle.edits_rows.proofs.FirstNot.{list-begin, list-none, list-here, list-more}
use Rattle.edits_rows.proofs.RowCodes.{codes-number}
use Rattle.edits_rows.proofs.first_code_not.Goals as goal

pub loop-i-init : goal.loop-i-init
loop-i-init g c = λ passes tells. list-begin (codes-number _ _ _)

pub returns-then-not-test : goal.returns-then-not-test
returns-then-not-test g c = λ passes tells.
    let fails = sym (tells _ _ c.test.ensures) ∙ c.if-not-test.true in
    sym (ap found_of (list-here (c.loop-i.invariant passes tells) 0 c.loop-i-test.true c.code_at-code.ensures fails))

pub loop-i-preserved : goal.loop-i-preserved
loop-i-preserved g c = λ passes tells.
    let holds = sym (tells _ _ c.test.ensures) ∙ c.if-not-test.false in
    list-more (c.loop-i.invariant passes tells) 0 c.loop-i-test.true c.code_at-code.ensures holds

pub returns : goal.returns
returns g c = λ passes tells. sym (ap found_of (list-none (c.loop-i.invariant passes tells) (omega arith)))
