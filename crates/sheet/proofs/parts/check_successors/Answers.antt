-- `sheet::parts::check_successors` meets its contract. The invariant: the successors left give the same answer.
-- Assumes nothing.
use Rattle.std.proofs.Common.{◌+◌, sym, ap, ◌∙◌, arith, ℕ}
use Rattle.model.specs.Bytes.{byte}
use Rattle.model.specs.Sheet.{successors_from}
use Rattle.sheet.specs.Answers.{trailer_of, whole}
use Rattle.sheet.proofs.RowAnswers.{successors-none, successors-fault, successors-more}
use Rattle.sheet.proofs.parts.check_successors.Goals as goal

pub returns-then-t-b : goal.returns-then-t-b
unfolding byte
returns-then-t-b c =
    sym (c.loop-i.invariant ∙ successors-fault _ _ _ _ _ (omega arith) (omega arith))

pub loop-i-preserved : goal.loop-i-preserved
unfolding byte
loop-i-preserved c =
    c.loop-i.invariant ∙ successors-more _ _ _ _ _ (omega arith) (omega arith)
    ∙ ap (λ (n : ℕ). whole (successors_from c.args.b.now (trailer_of c.args.t) c.args.q n (c.loop-i.i + 1))) (omega arith)

pub returns : goal.returns
returns c =
    sym (c.loop-i.invariant ∙ successors-none _ _ _ _ _ (omega arith))
