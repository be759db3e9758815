-- `named_row::find_in` meets its contract: the sheet is refused, the state is not in it, or its row is found.
-- Assumes nothing.
use Rattle.std.proofs.Common.{rules, sym, ap, ◌∙◌, arith}
use Rattle.model.specs.Sheet.{in_place}
use Rattle.sheet.specs.Answers.{reading_of}
use Rattle.sheet.specs.Whole.{IsSheet}
use Rattle.sheet.proofs.Answers.{passed-up, placed, placed-answer}
use Rattle.named_row.specs.Answers.{why_of}
use Rattle.named_row.proofs.Rows.{found-fault, found-no-state, found-row}
use Rattle.named_row.proofs.find_in.Goals as goal
use Rattle.named_row.proofs.find_in.Goals.{In_ok-map_err}

pub returns-in_err-map_err : goal.returns-in_err-map_err
unfolding in_place
returns-in_err-map_err c =
    passed-up why_of c.from_residual.result _ c.from_residual.ensures.1
    ∙ found-fault _ _ _ _
    (sym (ap (reading_of why_of) c.in_err-map_err.was)
    ∙ placed-answer why_of _ _ _ c.check_sheet.ensures _ (λ f r made. search rules) _ c.map_err.ensures.cases)

-- where the check passes, the bytes are a sheet
is-sheet : (c : In_ok-map_err) → IsSheet c.args.b.now
unfolding in_place
is-sheet c =
    placed c.args.sheet _
    (sym (ap (reading_of why_of) c.in_ok-map_err.was)
    ∙ placed-answer why_of _ _ _ c.check_sheet.ensures _ (λ f r made. search rules) _ c.map_err.ensures.cases)

pub state_count-requires : goal.state_count-requires
state_count-requires c = is-sheet c

pub returns-then-state_count-q : goal.returns-then-state_count-q
returns-then-state_count-q c =
    found-no-state _ _ _ (is-sheet (goal.at.returns-then-state_count-q c).In_ok-map_err)
    (omega (arith, c.if-state_count-q.true, c.state_count.ensures))

pub part_in-requires : goal.part_in-requires
part_in-requires c =
    record {
      sheet = is-sheet (goal.at.part_in-requires c).In_ok-map_err;
      state = omega (arith, c.if-state_count-q.false, c.state_count.ensures);
    }

pub returns : goal.returns
returns c =
    found-row _ _ _ (is-sheet (goal.at.returns c).In_ok-map_err)
    (omega (arith, c.if-state_count-q.false, c.state_count.ensures)) _ c.part_in.ensures
