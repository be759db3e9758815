-- `sheet::parts::first_stray` meets its contract. The invariant: the masks passed and the first stray one of those left make up
-- the first of all. Assumes nothing.
use Rattle.std.proofs.Common.{◌≡◌, ◌+◌, drop}
use Rattle.model.specs.Lists.{place}
use Rattle.model.specs.Sheet.{stray_bit, words_from}
use Rattle.sheet.proofs.parts.first_stray.Given as goal

abbrev pub invariant-loop-i : goal.invariant-loop-i
invariant-loop-i l =
    place (stray_bit l.t.n l.t.role) (words_from l.b l.count l.at)
    ≡ l.i + place (stray_bit l.t.n l.t.role) (drop l.i (words_from l.b l.count l.at))
