-- A refusal in a struct has its number. Assumes nothing.
use mathlib.Core.Path.{refl}
use Rattle.model.specs.Sheet.{plain}
use Rattle.nodes.specs.Answer.{refused_as}
use Rattle.convert.specs.Answer.{refusal_of}
use Rattle.convert.proofs.SheetAnswerFromRefusal.from.Goals as goal

pub returns-in-OtherForm : goal.returns-in-OtherForm
unfolding refusal_of refused_as plain
returns-in-OtherForm c = rw (c.refused.ensures, c.in-OtherForm.is) refl

pub returns-in-Circle : goal.returns-in-Circle
unfolding refusal_of refused_as plain
returns-in-Circle c = rw (c.refused-in-Circle.ensures, c.in-Circle.is) refl

pub returns-in-States : goal.returns-in-States
unfolding refusal_of
returns-in-States c = rw c.in-States.is c.into.ensures
