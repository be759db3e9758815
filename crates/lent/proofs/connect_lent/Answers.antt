-- `lent::connect_lent` meets its contract. A table is made in which every record holds ones, and its front is lent, as long as asked. The
-- front of such a table is as many such records, so the outcome is that of the contract. Assumes nothing.
use Rattle.std.proofs.Common.{refl, ap, ◌∙◌, List}
use Rattle.model.specs.Connect.{Connected, connect_of}
use Rattle.moves.specs.Modes.{mode_of}
use Rattle.table.specs.declared.Record.{Record}
use Rattle.table.specs.Records.{blank}
use Rattle.connect.specs.declared.Answer.{Answer}
use Rattle.connect.specs.Answers.{answer_of}
use Rattle.lent.specs.declared.Outcome.{Outcome}
use Rattle.lent.specs.Counts.{count_of}
use Rattle.lent.proofs.Gives.{front-made}
use Rattle.lent.proofs.connect_lent.Goals as goal

pub returns : goal.returns
returns c =
    let a = c.args in
    let made = front-made a.count 5000 c.record_before-work.result _ c.requires.few refl c.record_before-work.ensures in
    let lent = λ (t : List Record). connect_of blank (mode_of a.mode) a.k a.old.now a.new.now t a.plan.now in
    let outcome = c.connect_mode-answer.ensures.outcome ∙ ap lent made in
    let e = c.counted.ensures in
    record {
      answered = ap (λ (r : Outcome Answer). answer_of r.answer) e ∙ ap (λ (o : Connected Record). o.answer) outcome;
      written = ap (λ (o : Connected Record). o.plan) outcome;
      zeros = ap (λ (r : Outcome Answer). r.zero) e ∙ ap (λ (o : Connected Record). count_of 0 o.work) outcome;
      sames = ap (λ (r : Outcome Answer). r.same) e ∙ ap (λ (o : Connected Record). count_of 1 o.work) outcome;
    }
