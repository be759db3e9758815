-- A refusal in a struct has its number. Assumes nothing.
use mathlib.Core.Path.{refl}
use Rattle.model.specs.Sheet.{plain}
use Rattle.nodes.specs.Answer.{refusal_of, refused_as}
use Rattle.nodes.proofs.SheetAnswerFromRefusal.from.Goals as goal
use Rattle.nodes.proofs.SheetAnswerFromRefusal.from.Goals.{in-NoRoom, in-ManyStates, in-ManyReadySets}

pub returns : goal.returns
unfolding refusal_of refused_as plain
returns c =
    elim c.match-e.branch [
      | in-NoRoom w ↦ rw (c.refused.ensures, w.refused-is, w.in-NoRoom.is) refl
      | in-ManyStates w ↦ rw (c.refused.ensures, w.refused-is, w.in-ManyStates.is) refl
      | in-ManyReadySets w ↦ rw (c.refused.ensures, w.refused-is, w.in-ManyReadySets.is) refl
    ]
