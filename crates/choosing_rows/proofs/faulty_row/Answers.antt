-- `choosing_rows::faulty_row` meets its contract: bytes with a wrong trailer or length have no row at fault, and the rows of others are
-- read into tables of zeros. Assumes nothing.
use mathlib.Core.Path.{◌∙◌}
use Rattle.choosing_rows.proofs.BlankRows.{blank-rows}
use Rattle.choosing_rows.proofs.SheetAnswers.{fault-frame, fault-is}
use Rattle.choosing_rows.proofs.faulty_row.Goals as goal

pub returns-in_err-sheet : goal.returns-in_err-sheet
returns-in_err-sheet c = c.from_residual.ensures ∙ fault-frame _ c.in_err-sheet.ensures

pub read_all-requires : goal.read_all-requires
read_all-requires c = blank-rows

pub returns : goal.returns
returns c =
    let sheet = c.in_ok-sheet.ensures in
    fault-is _ sheet.0 _ sheet.2 (rw sheet.1 at c.read_all.ensures)
