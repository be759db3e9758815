-- `nodes::write::put_successors` meets its contract. The invariant: all but the successors of the actions from j on are written, up to the
-- place `at`.
-- Assumes nothing.
use Rattle.nodes.specs.Tables.{successors_of}
use Rattle.nodes.proofs.Writing.{Writing}
use Rattle.nodes.proofs.Tables.{successors_from}
use Rattle.nodes.proofs.write.put_successors.Given as goal

abbrev pub invariant-loop-j : goal.invariant-loop-j
invariant-loop-j l =
    Writing (successors_of l.next l.base l.actions) (successors_from l.next l.base l.actions l.j) l.at l.initial.out l.out
