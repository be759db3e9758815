-- `sheet::state_count` meets its contract: the trailer's count is that of the states read.
-- Assumes nothing.
use mathlib.Core.Path.{sym, ap, ◌∙◌}
use Rattle.model.specs.Sheet.{Trailer}
use Rattle.sheet.proofs.Whole.{sheet-stands}
use Rattle.sheet.proofs.state_count.Goals as goal

pub read_trailer-requires : goal.read_trailer-requires
read_trailer-requires c = (sheet-stands _ c.requires).long

pub returns : goal.returns
returns c = ap (λ (t : Trailer). t.count) c.read_trailer.ensures ∙ sym (sheet-stands _ c.requires).states.size
