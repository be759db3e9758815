-- `sheet::offered` meets its contract. The invariant: the union so far, with the ready sets from i on, is that of all.
-- Assumes nothing.
use Rattle.std.proofs.Common.{◌≡◌, length, drop}
use Rattle.model.specs.Contract.{state}
use Rattle.model.specs.Sheet.{contract_in}
use Rattle.sheet.specs.Union.{union_from, union_of}
use Rattle.sheet.proofs.offered.Given as goal

abbrev pub invariant-loop-i : goal.invariant-loop-i
invariant-loop-i l =
    (union_of (state (contract_in l.b) l.q).ready ≡ union_from l.union (drop l.i (state (contract_in l.b) l.q).ready)) ×
    (l.i-end ≡ length (state (contract_in l.b) l.q).ready)
