-- `connecting::connect_own` meets its contract. A table of 1,024 zero records is made and lent, which is what the definition connects with.
-- So answer and plan are those of that definition. Assumes nothing.
use Rattle.std.proofs.Common.{refl, ap}
use Rattle.model.specs.Connect.{Connected}
use Rattle.table.specs.declared.Record.{Record}
use Rattle.connecting.proofs.Own.{own-outcome}
use Rattle.connecting.proofs.connect_own.Goals as goal

pub returns-clause-answered : goal.returns-clause-answered
returns-clause-answered c =
    ap (λ (r : Connected Record). r.answer) (own-outcome _ _ _ _ _ _ _ c.zero_record-work.ensures refl c.connect.ensures.outcome)

pub returns-clause-planned : goal.returns-clause-planned
returns-clause-planned c =
    ap (λ (r : Connected Record). r.plan) (own-outcome _ _ _ _ _ _ _ c.zero_record-work.ensures refl c.connect.ensures.outcome)
