-- A link leads to places below it or to the body of a rec, and from a body only to recs below it: so a measure is the bound of recs first
-- and then the weight of the link. The loop goes along a chain of choices. Assumes nothing.
use Prim.Native.Nat.{◌+◌, ◌*◌}
use Rattle.text.proofs.Ends.{weight}
use Rattle.text_ready.proofs.Choosing.{Choosing}
use Rattle.text_ready.proofs.Parts.+joining.Given as goal

abbrev pub decreases-add_part : goal.decreases-add_part
decreases-add_part l = l.bound * 2048 + (4 * weight l.link + 2)

abbrev pub decreases-join : goal.decreases-join
decreases-join l = l.bound * 2048 + (4 * weight l.link + 1)

abbrev pub decreases-join_body : goal.decreases-join_body
decreases-join_body l = l.r * 2048 + 2000

abbrev pub decreases-join_rec : goal.decreases-join_rec
decreases-join_rec l = l.r * 2048 + 1500

abbrev pub decreases-join_choice : goal.decreases-join_choice
decreases-join_choice l = l.bound * 2048 + 4 * weight l.place

abbrev pub invariant-join_choice-loop-left : goal.invariant-join_choice-loop-left
invariant-join_choice-loop-left l = Choosing l.self.cells.now l.self.bodies.now l.self.held.now l.place l.bound l.recs l.start l.all l.kept l.at

abbrev pub decreases-join_choice-loop-left : goal.decreases-join_choice-loop-left
decreases-join_choice-loop-left l = weight l.at
