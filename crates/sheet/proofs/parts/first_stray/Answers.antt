-- `sheet::parts::first_stray` meets its contract. The invariant: the masks passed and the first stray one of those left make up
-- the first of all. Assumes nothing.
use Rattle.std.proofs.Common.{sym, ap, ◌∙◌, arith}
use Rattle.model.specs.Sheet.{stray_bit}
use Rattle.model.proofs.RowMasks.{length-words, words-place}
use Rattle.sheet.specs.Answers.{found}
use Rattle.sheet.proofs.Scan.{first-now, first-behind, found-within}
use Rattle.sheet.proofs.parts.first_stray.Goals as goal

pub returns-then-stray_bit : goal.returns-then-stray_bit
returns-then-stray_bit c =
    let given = c.args in
    let i = c.loop-i.i in
    let is = c.word_at.ensures ∙ sym (words-place given.b.now given.count given.at i (omega arith)) in
    let size = length-words given.b.now given.count given.at in
    let here = first-now _ i _ is (omega arith) (stray_bit given.t.n given.t.role) (sym c.stray_bit.ensures ∙ c.if-stray_bit.true) in
    sym (ap (found given.count) (omega (arith, here, c.loop-i.invariant)) ∙ found-within given.count i (omega arith))

pub loop-i-preserved : goal.loop-i-preserved
loop-i-preserved c =
    let given = c.args in
    let i = c.loop-i.i in
    let is = c.word_at.ensures ∙ sym (words-place given.b.now given.count given.at i (omega arith)) in
    let size = length-words given.b.now given.count given.at in
    omega (arith, first-behind _ i _ is (omega arith) (stray_bit given.t.n given.t.role) (sym c.stray_bit.ensures ∙ c.if-stray_bit.false))
