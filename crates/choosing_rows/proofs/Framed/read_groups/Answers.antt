-- `choosing_rows::Framed::read_groups` meets its contract. The invariant: the groups of the actions below j are read and stand in the table.
-- Assumes nothing.
use native.Mathlib.Omega.{arith}
use Rattle.choosing_rows.proofs.Reading.{read_none, read_some, none_read, some_read}
use Rattle.choosing_rows.proofs.OpenRows.{groups-begin, groups-end, groups-bad, groups-on}
use Rattle.choosing_rows.proofs.Framed.read_groups.Goals as goal

pub loop-j-init : goal.loop-j-init
loop-j-init c = groups-begin c.requires.1

pub read_action-requires : goal.read_action-requires
read_action-requires c =
    let v = c.loop-j.invariant in
    (omega arith, omega arith, v.blank)

pub returns-in_err-i : goal.returns-in_err-i
returns-in_err-i c =
    let l = c.loop-j in
    rw c.from_residual.ensures (read_none (groups-bad l.invariant (omega arith) (none_read c.read_action.ensures c.in_err-i.was)))

pub loop-j-preserved : goal.loop-j-preserved
loop-j-preserved c =
    let l = c.loop-j in
    let action = some_read c.read_action.ensures c.in_ok-i.was in
    groups-on l.invariant (omega arith) (omega arith) action.1 action.2

pub shape_of-targets : goal.shape_of-targets
shape_of-targets c = c.loop-j.invariant.room

pub returns : goal.returns
returns c = let end = groups-end c.loop-j.invariant (omega arith) in read_some end.0 end.1
