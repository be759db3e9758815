-- `choosing_rows::Framed::read_targets` meets its contract. The invariant: the rows left, together with the set so far, give the same answer.
-- Assumes nothing.
use mathlib.Core.Path.{◌≡◌, refl, sym, ◌∙◌}
use Prim.Native.Nat.{◌+◌, ◌-◌}
use native.Mathlib.Omega.{arith}
use Rattle.sheet.specs.Answers.{trailer_of}
use Rattle.sheet.proofs.Ones.{one_shifted}
use Rattle.choosing_rows.proofs.GroupAnswers.{lent-row, lent-all, targets-none, targets-low, targets-past, targets-next}
use Rattle.choosing_rows.proofs.Framed.read_targets.Goals as goal
use Rattle.choosing_rows.proofs.Framed.read_targets.Goals.{then-row-low-via-then-row-low, then-row-low-via-else-row-low+then-self-row}

pub loop-row-init : goal.loop-row-init
loop-row-init c =
    let left : c.args.count - 0 ≡ c.args.count = omega arith in
    let first : c.args.at + 0 ≡ c.args.at = omega arith in
    rw (left, first) refl

pub returns-then-row-low : goal.returns-then-row-low
returns-then-row-low c =
    let l = c.loop-row in
    let row = lent-row c.args.self.now.bytes.now (trailer_of c.args.self.now.trailer) c.args.count c.args.at l.row-index c.requires c.loop-row-test.true in
    elim c.then-row-low.branch [
      | then-row-low-via-then-row-low w ↦
          sym (l.invariant ∙ targets-low _ _ _ _ _ _ (c.args.count - l.row-index) (omega (arith, row.1)) (omega (arith, row.0, w.if-row-low.true)))
      | then-row-low-via-else-row-low+then-self-row w ↦
          sym (l.invariant
          ∙ targets-past _ _ _ _ _ _ (c.args.count - l.row-index) (omega (arith, row.1)) (omega (arith, row.0, w.if-row-low.false))
          (omega (arith, row.0, w.if-self-row.true)))
    ]

pub loop-row-preserved : goal.loop-row-preserved
loop-row-preserved c =
    let l = c.loop-row in
    let row = lent-row c.args.self.now.bytes.now (trailer_of c.args.self.now.trailer) c.args.count c.args.at l.row-index c.requires c.loop-row-test.true in
    let few = c.args.self.now.placed.few_rows in
    l.invariant
    ∙ targets-next _ _ _ _ _ _ _ _ row.1 _ row.0 c.if-row-low.false c.if-self-row.false
    (one_shifted _ 31 {width = 4294967296} (omega (arith, few, c.if-self-row.false)) (omega arith))

pub returns : goal.returns
returns c =
    let l = c.loop-row in
    sym (l.invariant ∙ targets-none _ _ _ _ _ _ (c.args.count - l.row-index)
    (lent-all c.args.self.now.bytes.now (trailer_of c.args.self.now.trailer) _ _ l.row-index c.requires c.loop-row-test.false))
