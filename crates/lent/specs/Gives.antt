-- What a stored case lends, and what its call gives.
-- Assumes nothing.
use Rattle.std.specs.Prelude.{◌≡◌, List, ℕ}
use Rattle.model.specs.Connect.{Connected}
use Rattle.table.specs.declared.Record.{Record}
use Rattle.table.specs.Records.{every_number}
use Rattle.connect.specs.declared.Answer.{Answer}
use Rattle.connect.specs.Answers.{answer_of}
use Rattle.lent.specs.declared.Outcome.{Outcome}
use Rattle.lent.specs.Counts.{count_of}

-- a lent record before the call: every number is 1
unfoldable pub before : Record
before = every_number 1

-- the answer and the plan are those of a call's outcome, and the lent records are counted as it leaves them
pub record Gives (o : Connected Record) (r : Outcome Answer) (plan : List ℕ) : Type 0 where
  pub answered : answer_of r.answer ≡ o.answer
  pub written : plan ≡ o.plan
  pub zeros : r.zero ≡ count_of 0 o.work
  pub sames : r.same ≡ count_of 1 o.work
