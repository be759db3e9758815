-- `edits_rows::undelivered` meets its contract: where the second part of the test is asked, a ready set has what it asks exactly if it has hope.
-- Assumes nothing.
use mathlib.Core.Path.{sym, ap, ◌∙◌}
use Rattle.std.proofs.Common.{rules}
use Rattle.moves.specs.Present.{codes_of}
use Rattle.model.specs.Test.{hope}
use Rattle.edits_rows.specs.Rows.{found_of}
use Rattle.edits_rows.proofs.Judging.{due-hope, not-due}
use Rattle.edits_rows.proofs.undelivered.Goals as goal

pub returns-then-not-due : goal.returns-then-not-due
returns-then-not-due c =
    let due = sym c.due.ensures ∙ c.if-not-due.true in
    sym (ap found_of (not-due _ _ due))

pub returns : goal.returns
returns c =
    let due = sym c.due.ensures ∙ c.if-not-due.false in
    c.first_ready_not.ensures (hope (codes_of c.args.present)) (λ x r e. search rules) ∙ ap found_of (due-hope _ _ due)
