-- `sheet::check_sheet` meets its contract: a law for each answer, in the order of refusals 1 to 3, then the states.
-- Assumes nothing.
use mathlib.Core.Path.{sym, ◌∙◌}
use Rattle.sheet.proofs.SheetAnswers.{sheet-size, sheet-trailer, sheet-index, sheet-states}
use Rattle.sheet.proofs.check_sheet.Goals as goal

pub returns-then-b-lt6 : goal.returns-then-b-lt6
returns-then-b-lt6 c = sheet-size _ c.then-b-lt6.either

pub returns-then-not-good_trailer : goal.returns-then-not-good_trailer
returns-then-not-good_trailer c =
    sheet-trailer _ c.if-b-lt6.false c.if-b-gt2118.false _ c.read_trailer-t.ensures
    (sym c.good_trailer.ensures ∙ c.if-not-good_trailer.true)

pub returns-then-t-b : goal.returns-then-t-b
returns-then-t-b c =
    sheet-index _ c.if-b-lt6.false c.if-b-gt2118.false _ c.read_trailer-t.ensures
    (sym c.good_trailer.ensures ∙ c.if-not-good_trailer.false) c.if-t-b.true

pub returns : goal.returns
returns c =
    c.check_states.ensures
    ∙ sheet-states _ c.if-b-lt6.false c.if-b-gt2118.false _ c.read_trailer-t.ensures
    (sym c.good_trailer.ensures ∙ c.if-not-good_trailer.false) c.if-t-b.false
