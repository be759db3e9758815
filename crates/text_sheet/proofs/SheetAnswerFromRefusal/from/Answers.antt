-- A refusal in a struct has its number, and its sheet.
-- Assumes nothing.
use mathlib.Core.Path.{refl}
use Rattle.model.specs.Sheet.{plain}
use Rattle.nodes.specs.Answer.{refused_as}
use Rattle.text_sheet.specs.Refusals.{refusal_of}
use Rattle.text_sheet.proofs.SheetAnswerFromRefusal.from.Goals as goal

pub returns-in-TooLong : goal.returns-in-TooLong
unfolding refusal_of refused_as plain
returns-in-TooLong c = rw c.in-TooLong.is refl

pub returns-in-NoText : goal.returns-in-NoText
unfolding refusal_of refused_as plain
returns-in-NoText c = rw (c.refused.ensures, c.in-NoText.is) refl

pub returns-in-AtFault : goal.returns-in-AtFault
unfolding refusal_of refused_as plain
returns-in-AtFault c = rw (c.refused-in-AtFault.ensures, c.in-AtFault.is) refl

pub returns-in-NoSheet : goal.returns-in-NoSheet
unfolding refusal_of
returns-in-NoSheet c = rw c.in-NoSheet.is c.into.ensures
