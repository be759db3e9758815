-- `sheet::parts::check_states` meets its contract. The invariant: the states left, from the next row on, give the same answer.
-- Assumes nothing.
use Rattle.std.proofs.Common.{ℕ, ◌+◌, sym, ap, ◌∙◌, arith}
use Rattle.model.specs.Sheet.{states_from}
use Rattle.sheet.specs.Answers.{trailer_of, fault_of, whole}
use Rattle.sheet.proofs.Whole.{trailer-stands}
use Rattle.sheet.proofs.Answers.{passed-up}
use Rattle.sheet.proofs.RowAnswers.{row_inside}
use Rattle.sheet.proofs.SheetAnswers.{states-gap, states-whole, states-entry, states-fault, states-more}
use Rattle.sheet.proofs.parts.check_states.Goals as goal

pub returns-then-word_at-next : goal.returns-then-word_at-next
returns-then-word_at-next c =
    let l = c.loop-q in
    sym (l.invariant.0 ∙ states-entry _ _ _ _ _ c.word_at.ensures _ (omega arith) c.if-word_at-next.true)

pub check_row-requires : goal.check_row-requires
check_row-requires c =
    let g = trailer-stands _ c.requires.whole.0 in
    omega arith

pub returns-in_err-next : goal.returns-in_err-next
returns-in_err-next c =
    let l = c.loop-q in
    passed-up fault_of c.from_residual.result _ c.from_residual.ensures.1
    ∙ sym
    (l.invariant.0
    ∙ states-fault _ _ _ _ _ c.word_at.ensures c.if-word_at-next.false _ (omega arith) _ c.in_err-next.ensures)

pub loop-q-preserved : goal.loop-q-preserved
loop-q-preserved c =
    let l = c.loop-q in (
      l.invariant.0
          ∙ states-more _ _ _ _ _ c.word_at.ensures c.if-word_at-next.false _ (omega arith) _ c.in_ok-next.ensures
          ∙ ap (λ (n : ℕ). whole (states_from c.args.b.now (trailer_of c.args.t) n (l.q + 1) c.in_ok-next.next)) (omega arith),
      row_inside _ (trailer_of c.args.t) _ _ _ c.in_ok-next.ensures,
    )

pub overflow_sub-result : goal.overflow_sub-result
overflow_sub-result c =
    let g = trailer-stands _ c.requires.whole.0 in
    omega arith

pub returns-then-next-index : goal.returns-then-next-index
returns-then-next-index c =
    let l = c.loop-q in
    sym (l.invariant.0 ∙ states-gap _ _ _ _ _ (omega arith) (λ e. omega arith) _ (omega arith))

pub returns : goal.returns
returns c =
    let l = c.loop-q in
    sym (l.invariant.0 ∙ states-whole _ _ _ _ _ (omega arith) (omega arith))
