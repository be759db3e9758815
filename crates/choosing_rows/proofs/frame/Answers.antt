-- `choosing_rows::frame` meets its contract: its tests are those of the definition, in their order.
-- Assumes nothing.
use mathlib.Core.Path.{◌≡◌, refl, sym, ◌∙◌}
use mathlib.Core.Bool.{true}
use borrow.Author.Tests.{eq-eqb, ne_eqb}
use Rattle.choosing.specs.Read.{framed}
use Rattle.choosing_rows.proofs.SheetAnswers.{frame-short, frame-trailer, frame-length, frame-placed}
use Rattle.choosing_rows.proofs.frame.Goals as goal
use Rattle.choosing_rows.proofs.frame.Goals.{Else-trailer-b}

pub returns-then-b-lt6 : goal.returns-then-b-lt6
returns-then-b-lt6 c = sym (frame-short _ c.if-b-lt6.true)

pub returns-then-not-trailer_fits : goal.returns-then-not-trailer_fits
returns-then-not-trailer_fits c =
    sym (frame-trailer _ _ c.read_trailer-trailer.ensures c.if-b-lt6.false
    (sym c.trailer_fits.ensures ∙ c.if-not-trailer_fits.true))

pub returns-then-trailer-b : goal.returns-then-trailer-b
returns-then-trailer-b c =
    sym (frame-length _ _ c.read_trailer-trailer.ensures c.if-b-lt6.false (sym c.trailer_fits.ensures ∙ c.if-not-trailer_fits.false))
    ∙ ne_eqb _ _ c.if-trailer-b.true

-- the bytes passed all tests
passed : (c : Else-trailer-b) → framed c.args.b.now ≡ true
passed c =
    sym (frame-length _ _ c.read_trailer-trailer.ensures c.if-b-lt6.false (sym c.trailer_fits.ensures ∙ c.if-not-trailer_fits.false))
    ∙ eq-eqb _ _ c.if-trailer-b.false

pub invariant_of-result : goal.invariant_of-result
invariant_of-result c =
    record { placed = frame-placed _ _ c.read_trailer-trailer.ensures (passed (goal.at.invariant_of-result c).Else-trailer-b) }

pub returns : goal.returns
returns c = (passed (goal.at.returns c).Else-trailer-b, refl, c.read_trailer-trailer.ensures)
