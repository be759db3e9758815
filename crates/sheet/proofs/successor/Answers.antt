-- `sheet::successor` meets its contract: by `successor-at` the successor of an offered action is the byte at the place of the offer.
-- Assumes nothing.
use mathlib.Core.Path.{◌∙◌}
use native.Mathlib.Omega.{arith}
use Rattle.sheet.proofs.SuccessorAt.{successor-within, successor-stands}
use Rattle.sheet.proofs.successor.Goals as goal

pub successor_in-requires : goal.successor_in-requires
successor_in-requires c =
    let pre = c.requires in
    (omega (arith, pre.action), successor-within pre c.offer_of.ensures)

pub returns : goal.returns
returns c =
    let pre = c.requires in
    c.successor_in.ensures ∙ successor-stands pre c.offer_of.ensures
