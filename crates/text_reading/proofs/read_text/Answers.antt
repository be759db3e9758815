-- `text_reading::read_text` meets its contract: what was read is a whole text if nothing is left behind it.
-- Assumes nothing.
use mathlib.Core.Path.{refl}
use Rattle.std.proofs.Common.{rules}
use Rattle.std.proofs.lemmas.Result.{err_from_is_err_and}
use Rattle.text_reading.proofs.Whole.{kept, text-fails, text-goes-on, text-ends}
use Rattle.text_reading.proofs.read_text.Goals as goal

pub returns-in_err-link : goal.returns-in_err-link
returns-in_err-link c =
    let e = err_from_is_err_and c.from_residual.result c.from_residual.ensures.1 in
    rw (e.1, e.2) (kept (text-fails c.in_err-link.ensures.left refl) (search rules) (search rules))

pub returns-then-reader-text : goal.returns-then-reader-text
returns-then-reader-text c =
    kept (text-goes-on c.in_ok-link.ensures.left refl c.if-reader-text.true (refl, refl)) (search rules) (search rules)

pub returns : goal.returns
returns c = kept (text-ends c.in_ok-link.ensures.left refl c.if-reader-text.false c.requires.1) (search rules) (search rules)
