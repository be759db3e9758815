-- `sheet::role` meets its contract: the trailer's number is that of the contract read.
-- Assumes nothing.
use mathlib.Core.Path.{ap, ◌∙◌}
use Rattle.model.specs.Sheet.{Trailer}
use Rattle.sheet.proofs.Whole.{sheet-stands}
use Rattle.sheet.proofs.role.Goals as goal

pub read_trailer-requires : goal.read_trailer-requires
read_trailer-requires c = (sheet-stands _ c.requires).long

pub returns : goal.returns
returns c = ap (λ (t : Trailer). t.role) c.read_trailer.ensures ∙ (sheet-stands _ c.requires).role
