-- `sheet::parts::check_masks` meets its contract: each way out is one law of the reading, by what the loop found of the masks.
-- Assumes nothing.
use Rattle.std.proofs.Common.{◌≡◌, ◌+◌, refl, sym, ◌∙◌, arith}
use mathlib.Core.Path.{subst⁻¹}
use lib.Dec.{leb}
use Rattle.model.specs.Sheet.{out_of_order, words_from}
use Rattle.model.proofs.RowMasks.{length-words, words-place}
use Rattle.sheet.specs.Union.{union_of}
use Rattle.sheet.specs.Answers.{trailer_of, found}
use Rattle.sheet.proofs.Union.{union-none, union_more}
use Rattle.sheet.proofs.Scan.{met, met-on, met-count, LowAt, low-on, low-ends}
use Rattle.sheet.proofs.RowAnswers.{masks-noisy, masks-some, masks-low, masks-whole}
use Rattle.sheet.proofs.parts.check_masks.Goals as goal
use Rattle.sheet.proofs.parts.check_masks.Goals.{After-loop-i}

pub loop-i-init : goal.loop-i-init
unfolding union_of
loop-i-init c = (refl, omega arith, omega arith, λ e. refl)

pub loop-i-preserved : goal.loop-i-preserved
loop-i-preserved c =
    let l = c.loop-i in
    let masks = words_from c.args.b.now c.args.count c.args.at in
    let size = length-words c.args.b.now c.args.count c.args.at in
    let mask = c.word_at-mask.result in
    let is = c.word_at-mask.ensures ∙ sym (words-place c.args.b.now c.args.count c.args.at l.i (omega arith)) in
    let more = rw c.from.ensures at c.from-low.ensures in
    let count = met-count l.rising (leb l.least mask) l.low l.i _ l.invariant.2 l.invariant.3 more in
    rw (c.from.ensures, c.from-least.ensures) (
      l.invariant.0 ∙ union_more masks l.i l.union _ is (omega arith),
      subst⁻¹ (LowAt masks (l.i + 1) (mask + 1)) (met-on l.rising l.low l.i l.least mask _ l.invariant.3 more)
          (low-on masks l.i l.least (met l.rising l.low) l.invariant.1 _ is (omega arith)),
      count.0,
      count.1,
    )

-- all masks are passed
union-is : (c : After-loop-i) → c.loop-i.union ≡ union_of (words_from c.args.b.now c.args.count c.args.at)
union-is c =
    let l = c.loop-i in
    sym (l.invariant.0 ∙ union-none _ l.i l.union (omega (arith, length-words c.args.b.now c.args.count c.args.at)))

low-is : (c : After-loop-i) → met c.loop-i.rising c.loop-i.low
    ≡ found c.args.count (out_of_order 0 (words_from c.args.b.now c.args.count c.args.at))
low-is c =
    let l = c.loop-i in
    low-ends _ l.i l.least (met l.rising l.low) l.invariant.1 _ (length-words c.args.b.now c.args.count c.args.at) (omega arith)

pub unwrap-stray-requires : goal.unwrap-stray-requires
unwrap-stray-requires c =
    masks-some _ (trailer_of c.args.t) c.args.q _ _ _ (union-is (goal.at.unwrap-stray-requires c).After-loop-i)
    (sym c.stray_bit.ensures ∙ c.if-stray_bit.true) _ c.first_stray.ensures

pub returns-then-stray_bit : goal.returns-then-stray_bit
returns-then-stray_bit c =
    masks-noisy _ (trailer_of _) _ _ _ _ (union-is (goal.at.returns-then-stray_bit c).After-loop-i)
    (sym c.stray_bit.ensures ∙ c.if-stray_bit.true) _ (sym c.first_stray.ensures ∙ c.unwrap-stray.ensures)

pub returns-then-rising : goal.returns-then-rising
returns-then-rising c =
    masks-whole _ (trailer_of _) _ _ _ _ (union-is (goal.at.returns-then-rising c).After-loop-i)
    (sym c.stray_bit.ensures ∙ c.if-stray_bit.false) _ (low-is (goal.at.returns-then-rising c).After-loop-i) (rw c.if-rising.true refl)

pub returns : goal.returns
returns c =
    masks-low _ (trailer_of _) _ _ _ _ (union-is (goal.at.returns c).After-loop-i)
    (sym c.stray_bit.ensures ∙ c.if-stray_bit.false) _ (low-is (goal.at.returns c).After-loop-i) _ (rw c.if-rising.false refl)
