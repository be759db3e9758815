-- `runs::followed` meets its contract: the loop passes the attempts five bytes at a time, and those that are left lead the run where all of
-- them lead the start. Assumes nothing.
use mathlib.Core.Path.{◌≡◌}
use Rattle.std.specs.Slice.Iter.{chunks_exact_rest, chunks_exact_size}
use Rattle.model.specs.Plan.{rows_in}
use Rattle.runs.specs.Runs.{client_of, service_of, run_of, InStates}
use Rattle.runs.proofs.Following.{Followed}
use Rattle.runs.proofs.followed.Given as goal

abbrev pub invariant-loop-attempt : goal.invariant-loop-attempt
invariant-loop-attempt g l =
    (goal.iterator-loop-attempt g).can_next l.attempt-iterator
    × (goal.iterator-loop-attempt g).is_finite l.attempt-iterator
    × (chunks_exact_size l.attempt-iterator ≡ 5)
    × Followed (client_of l.parties) (service_of l.parties) (rows_in l.parties.plan.now) l.attempts (run_of l.initial.run) (run_of l.run)
    (chunks_exact_rest l.attempt-iterator)
    × InStates l.parties l.run
