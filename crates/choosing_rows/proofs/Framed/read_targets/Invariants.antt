-- `choosing_rows::Framed::read_targets` meets its contract. The invariant: the rows left, together with the set so far, give the same answer.
-- Assumes nothing.
use mathlib.Core.Path.{◌≡◌}
use Prim.Native.Nat.{◌+◌, ◌-◌}
use Rattle.sheet.specs.Answers.{trailer_of}
use Rattle.choosing.specs.Read.{targets_from}
use Rattle.choosing_rows.specs.Answers.{set_in}
use Rattle.choosing_rows.proofs.Framed.read_targets.Given as goal

abbrev pub invariant-loop-row : goal.invariant-loop-row
invariant-loop-row l =
    set_in 0 (l.at + l.count) (targets_from l.self.bytes.now (trailer_of l.self.trailer) l.count 0 l.at)
    ≡ set_in l.set (l.at + l.count)
    (targets_from l.self.bytes.now (trailer_of l.self.trailer) (l.count - l.row-index) l.low (l.at + l.row-index))
