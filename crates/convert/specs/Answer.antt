-- What a refusal of the code says.
-- Assumes nothing.
use Rattle.model.specs.Sheet.{Refusal, plain}
use Rattle.nodes.specs.Answer as nodes
use Rattle.convert.specs.declared.Refusal as code
use Rattle.convert.specs.declared.Refusal.TheVariants.{OtherForm, Circle, States}

-- "17 a choosing sheet of any other form, 18 a circle", or why there is no sheet of its states
unfoldable pub refusal_of : code.Refusal → Refusal
refusal_of OtherForm = plain 17 0
refusal_of Circle = plain 18 0
refusal_of (States e) = nodes.refusal_of e
