-- `text_sheet::read_term` meets its contract: what is read is the text without its blanks.
-- Assumes nothing.
use mathlib.Core.Path.{refl, ap, sym, ◌∙◌}
use mathlib.Core.Option.{some}
use native.Mathlib.Omega.{arith}
use Rattle.text.specs.Grammar.{Tree}
use Rattle.text_reading.specs.Reading.{fault_in, going}
use Rattle.text_places.proofs.Wanting.{link-leads}
use Rattle.text_sheet.proofs.Texts.{text-read-is, read-stopped, read-wrong, RightCells, right-cells, term-read}
use Rattle.text_sheet.proofs.Refusing.{reading-refused}
use Rattle.text_sheet.proofs.read_term.Goals as goal
use Rattle.text_sheet.proofs.read_term.Goals.{In_default}

pub returns-in_err-read : goal.returns-in_err-read
returns-in_err-read c =
    reading-refused _ _ c.from_residual.ensures.1
    (read-stopped c.args.text.now c.requires.short (text-read-is c.strip-count.ensures.0 c.in_err-read.ensures) refl)

pub returns-in-Some : goal.returns-in-Some
returns-in-Some c =
    read-wrong c.args.text.now c.requires.short (text-read-is c.strip-count.ensures.0 c.in_ok-read.ensures) refl
    (ap fault_in c.in-Some.is ∙ ap some (sym c.from.ensures))

-- with no variable at fault
right : (c : In_default) → (t : Tree) × RightCells c.args.text.now (going c.in_ok-read.read) c.read_text.new.cells c.read_text.new.bodies t
right c =
    right-cells c.args.text.now c.requires.short (text-read-is c.strip-count.ensures.0 c.in_ok-read.ensures) refl
    (ap fault_in c.in_default.is) c.requires.none

pub shared_ref_as_front-place_of : goal.shared_ref_as_front-place_of
shared_ref_as_front-place_of c = omega (arith, (right c).1.fits.1)

pub place_of-first-requires : goal.place_of-first-requires
place_of-first-requires c = link-leads _ _ (right (goal.at.place_of-first-requires c).In_default).1.first-ends-at

pub returns : goal.returns
returns c = term-read (right (goal.at.returns c).In_default).1 c.place_of-first.ensures
