-- `sheet::ready_count` meets its contract: a row begins with the count of its state's ready sets.
-- Assumes nothing.
use mathlib.Core.Path.{ap, ◌∙◌}
use native.Mathlib.Omega.{arith}
use Rattle.model.specs.Bytes.{byte}
use Rattle.sheet.proofs.Whole.{row-stands, row_within}
use Rattle.sheet.proofs.ready_count.Goals as goal

pub bounds-b-row_start : goal.bounds-b-row_start
bounds-b-row_start c =
    omega (arith, row_within c.requires)

pub returns : goal.returns
unfolding byte
returns c =
    ap (byte c.args.b.now) c.row_start.ensures ∙ (row-stands c.requires).count
