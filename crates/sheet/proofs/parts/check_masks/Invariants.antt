-- `sheet::parts::check_masks` meets its contract. The invariant: the union so far with those of the masks left is the union of all, and the
-- first mask out of order was met, or it is as far on as `least` says. Assumes nothing.
use Rattle.std.proofs.Common.{◌≡◌, ◌≤◌, true, drop}
use Rattle.model.specs.Sheet.{words_from}
use Rattle.sheet.specs.Union.{union_from, union_of}
use Rattle.sheet.proofs.Scan.{LowAt, met}
use Rattle.sheet.proofs.parts.check_masks.Given as goal

abbrev pub invariant-loop-i : goal.invariant-loop-i
invariant-loop-i l =
    (union_of (words_from l.b l.count l.at) ≡ union_from l.union (drop l.i (words_from l.b l.count l.at))) ×
    LowAt (words_from l.b l.count l.at) l.i l.least (met l.rising l.low) ×
    (l.low ≤ l.i) × (l.rising ≡ true → l.low ≡ l.i)
