-- `text_sheet::from_text` meets its contract: a struct has what was written, or what refuses it.
-- Assumes nothing.
use Rattle.text_sheet.proofs.Refusing.{answered}
use Rattle.text_sheet.proofs.from_text.Goals as goal

pub returns : goal.returns
returns c = record { outcome = answered _ _ _ c.from.ensures c.convert.ensures }
