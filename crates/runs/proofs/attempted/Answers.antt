-- `runs::attempted` meets its contract. Where the masks are a choice, the step is given and the need is met, the move is ready and is the
-- model's; where one of the three fails, the model's run stays as it is too. Assumes nothing.
use mathlib.Core.Path.{ap, ◌∙◌}
use Rattle.model.specs.Bytes.{byte}
use Rattle.model.specs.Run.{attempted}
use Rattle.runs.specs.Runs.{run_of}
use Rattle.runs.proofs.Moving.{move-ready}
use Rattle.runs.proofs.Attempting.{attempt-made, attempt-unmet, attempt-refused, attempt-unchosen, attempt-read}
use Rattle.runs.proofs.attempted.Goals as goal
use Rattle.runs.proofs.attempted.Goals.{in-Ok+else-is_choice, else-is_choice-via-then-is_choice+else-need_met, else-is_choice-via-else-is_choice, in_default}

pub moved-requires : goal.moved-requires
moved-requires g c =
    move-ready _ _ _ _ c.requires.at.0 c.requires.at.1
    c.is_choice.ensures
    c.if-is_choice.true
    c.need_met.ensures
    c.if-need_met.true

pub returns-then-need_met : goal.returns-then-need_met
unfolding run_of byte
returns-then-need_met g c =
    let after = c.moved.ensures in
    let made =
    attempt-made _ _ _ _ _ _ _
    c.step-step.ensures
    c.is_choice.ensures
    c.if-is_choice.true
    c.need_met.ensures
    c.if-need_met.true
    c.in-Ok.is
    after.0 in
    (made ∙ ap (attempted _ _ _ _) (attempt-read _ c.word_at-R.ensures c.word_at-S.ensures), after.1)

pub returns : goal.returns
unfolding run_of byte
returns g c =
    let read = attempt-read c.args.attempt.now c.word_at-R.ensures c.word_at-S.ensures in (
      elim c.match-step.branch [
        | in-Ok+else-is_choice w ↦
            let choice = w.is_choice.ensures in
            elim w.else-is_choice.branch [
              | else-is_choice-via-then-is_choice+else-need_met v ↦
                  attempt-unmet _ _ _ _ _ _ _ choice v.if-is_choice.true v.need_met.ensures v.if-need_met.false ∙ ap (attempted _ _ _ _) read
              | else-is_choice-via-else-is_choice v ↦
                  attempt-unchosen _ _ _ _ _ _ _ choice v.if-is_choice.false ∙ ap (attempted _ _ _ _) read
            ]
        | in_default w ↦ attempt-refused _ _ _ _ _ _ _ c.step-step.ensures w.in_default.is ∙ ap (attempted _ _ _ _) read
      ],
      c.requires.at,
    )
