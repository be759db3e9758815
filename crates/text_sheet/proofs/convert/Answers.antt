-- `text_sheet::convert` meets its contract: a text that cannot be read is refused, and else its states decide.
-- Assumes nothing.
use Rattle.text_sheet.proofs.Texts.{long-refused}
use Rattle.text_sheet.proofs.Refusing.{text-refused, states-refused, states-written}
use Rattle.text_sheet.proofs.convert.Goals as goal

pub returns-then-text-gt-LONGEST : goal.returns-then-text-gt-LONGEST
returns-then-text-gt-LONGEST c = (long-refused c.args.text.now c.if-text-gt-LONGEST.true).says c.args.sheet.now

pub returns-in_err-read_term : goal.returns-in_err-read_term
returns-in_err-read_term c = text-refused _ c.from_residual.ensures.1 c.in_err-read_term.ensures c.args.sheet.now

pub returns-in_err-write_states : goal.returns-in_err-write_states
returns-in_err-write_states c =
    states-refused _ _ _ c.from_residual-in_err-write_states.ensures.1 (c.in_err-write_states.ensures c.args.text.now c.in_ok-read_term.ensures)

pub returns : goal.returns
returns c = states-written _ _ (c.in_ok-write_states.ensures c.args.text.now c.in_ok-read_term.ensures)
