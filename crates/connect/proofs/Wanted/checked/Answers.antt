-- `connect::Wanted::checked` meets its contract: a pair that is refused, a k that is refused, or neither.
-- Assumes nothing.
use Rattle.std.proofs.lemmas.Result.{err_from_is_err_and}
use Rattle.connect.proofs.Outcomes.{pair-checked, rank-checked, good-checked}
use Rattle.connect.proofs.Wanted.checked.Goals as goal

pub returns-in_err-check_pair : goal.returns-in_err-check_pair
returns-in_err-check_pair c =
    let why = err_from_is_err_and c.from_residual.result c.from_residual.ensures.1 in
    record { admits = rw (why.1, why.2) (pair-checked _ _ _ c.check_pair.ensures c.in_err-check_pair.was) }

pub returns-then-self-gt3 : goal.returns-then-self-gt3
returns-then-self-gt3 c = record { admits = rank-checked _ _ _ c.check_pair.ensures c.in_ok-check_pair.was c.if-self-gt3.true }

pub returns : goal.returns
returns c = record { admits = good-checked _ _ _ c.check_pair.ensures c.in_ok-check_pair.was c.if-self-gt3.false }
