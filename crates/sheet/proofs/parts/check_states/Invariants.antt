-- `sheet::parts::check_states` meets its contract. The invariant: the states left, from the next row on, give the same answer.
-- Assumes nothing.
use Rattle.std.proofs.Common.{◌≡◌, ◌-◌, ◌≤◌}
use Rattle.model.specs.Sheet.{states_from}
use Rattle.sheet.specs.Answers.{trailer_of, whole}
use Rattle.sheet.proofs.parts.check_states.Given as goal

abbrev pub invariant-loop-q : goal.invariant-loop-q
invariant-loop-q l =
    (whole (states_from l.b (trailer_of l.t) l.t.count 0 0) ≡ whole (states_from l.b (trailer_of l.t) (l.t.count - l.q) l.q l.next)) ×
    (l.next ≤ l.t.index)
