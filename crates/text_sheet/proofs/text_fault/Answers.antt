-- `text_sheet::text_fault` meets its contract: the refusal tells which byte it is.
-- Assumes nothing.
use mathlib.Core.Path.{◌∙◌}
use native.Mathlib.Omega.{arith}
use Rattle.text_sheet.specs.Refusals.{fault_of}
use Rattle.text_sheet.proofs.Texts.{long-refused}
use Rattle.text_sheet.proofs.Refusing.{fault-there, fault-none}
use Rattle.text_sheet.proofs.text_fault.Goals as goal

pub returns-then-text-gt-LONGEST : goal.returns-then-text-gt-LONGEST
unfolding fault_of
returns-then-text-gt-LONGEST c = (long-refused c.args.text.now c.if-text-gt-LONGEST.true).fault

pub overflow_cast-result : goal.overflow_cast-result
overflow_cast-result c = omega (arith, c.place_of_byte.ensures, (fault-there c.in-Err.ensures c.in-NoText.is).1)

pub returns-in-NoText : goal.returns-in-NoText
returns-in-NoText c = c.place_of_byte.ensures ∙ (fault-there c.in-Err.ensures c.in-NoText.is).0

pub returns-in-TooLong : goal.returns-in-TooLong
returns-in-TooLong c = fault-none c.in-Err.ensures c.in-TooLong.is
