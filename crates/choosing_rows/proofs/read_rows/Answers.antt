-- `choosing_rows::read_rows` meets its contract: the tests of trailer and length, then all rows.
-- Assumes nothing.
use Rattle.choosing_rows.proofs.SheetAnswers.{sheet-frame, sheet-read}
use Rattle.choosing_rows.proofs.read_rows.Goals as goal

pub returns-in_default : goal.returns-in_default
returns-in_default c = sheet-frame _ c.in_default.ensures

pub returns : goal.returns
returns c =
    let sheet = c.in-Some.ensures in
    sheet-read _ sheet.0 _ sheet.2 (rw sheet.1 at c.read_all.ensures) c.is_none.ensures
