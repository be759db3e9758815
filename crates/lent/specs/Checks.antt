-- What the two calls of a stored plan give: the check, and what is at fault.
-- Assumes nothing.
use Rattle.std.specs.Prelude.{◌≡◌}
use Rattle.table.specs.declared.Record.{Record}
use Rattle.connect.specs.declared.Answer.{Answer}
use Rattle.connect.specs.Answers.{answer_of}
use Rattle.edits.specs.Check.{CheckedPlan, BlamedPlan}
use Rattle.edits_walk.specs.declared.Fault.{Fault}
use Rattle.edits_walk.specs.Faults.{fault_by}
use Rattle.lent.specs.declared.Outcome.{Outcome}
use Rattle.lent.specs.Counts.{count_of}

-- the answer is that of the check's outcome, and the lent records are counted as it leaves them
pub record GivesCheck (o : CheckedPlan Record) (r : Outcome Answer) : Type 0 where
  pub answered : answer_of r.answer ≡ o.answer
  pub zeros : r.zero ≡ count_of 0 o.work
  pub sames : r.same ≡ count_of 1 o.work

-- the same of the fault
pub record GivesFault (o : BlamedPlan Record) (r : Outcome Fault) : Type 0 where
  pub told : fault_by r.answer ≡ o.fault
  pub zeros : r.zero ≡ count_of 0 o.work
  pub sames : r.same ≡ count_of 1 o.work
