-- `convert::convert` meets its contract: the answer says what came of converting. Assumes nothing.
use mathlib.Core.Path.{◌∙◌}
use Rattle.nodes.proofs.Answers.{answered-as}
use Rattle.convert.specs.Answer.{refusal_of}
use Rattle.convert.proofs.convert.Goals as goal

pub returns : goal.returns
returns c = record { outcome = answered-as refusal_of c.converted.result c.into.result _ c.into.ensures ∙ c.converted.ensures }
