-- `pair::check_in_place` meets its contract: a fault is made that of the sheet in its place.
-- Assumes nothing.
use Rattle.std.proofs.Common.{rules}
use Rattle.model.specs.Sheet.{in_place}
use Rattle.pair.specs.Pairs.{refusal_of}
use Rattle.sheet.proofs.Answers.{placed-answer}
use Rattle.pair.proofs.check_in_place.Goals as goal

pub returns : goal.returns
unfolding in_place
returns c =
    placed-answer refusal_of _ _ _ c.check_sheet.ensures _ (λ f r made. search rules) _ c.map_err.ensures.cases
