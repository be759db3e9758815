-- `plan::read::good_rows` meets its contract. The loop's invariant: all rows can be read if those from row p, at i, can.
-- Assumes nothing.
use mathlib.Core.Path.{◌≡◌}
use Prim.Native.Nat.{◌-◌}
use Rattle.model.specs.Plan.{read_rows}
use Rattle.plan.specs.Layout.{is_some}
use Rattle.plan.proofs.read.good_rows.Given as goal

abbrev pub invariant-loop-p : goal.invariant-loop-p
invariant-loop-p l =
    is_some (read_rows l.plan l.index l.count l.n l.count 0 0) ≡ is_some (read_rows l.plan l.index l.count l.n (l.count - l.p) l.p l.i)
