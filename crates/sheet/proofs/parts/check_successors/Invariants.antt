-- `sheet::parts::check_successors` meets its contract. The invariant: the successors left give the same answer.
-- Assumes nothing.
use Rattle.std.proofs.Common.{◌≡◌, ◌+◌, ◌-◌}
use Rattle.model.specs.Sheet.{successors_from}
use Rattle.sheet.specs.Answers.{trailer_of, whole}
use Rattle.sheet.proofs.parts.check_successors.Given as goal

abbrev pub invariant-loop-i : goal.invariant-loop-i
invariant-loop-i l =
    whole (successors_from l.b (trailer_of l.t) l.q l.count l.at)
    ≡ whole (successors_from l.b (trailer_of l.t) l.q (l.at + l.count - l.i) l.i)
