-- `sheet::ready_set` meets its contract: the masks follow the count, two bytes each.
-- Assumes nothing.
use mathlib.Core.Path.{ap, ◌∙◌}
use Prim.Native.Nat.{ℕ, ◌+◌, ◌*◌}
use native.Mathlib.Omega.{arith}
use Rattle.model.specs.Bytes.{word}
use Rattle.sheet.proofs.Whole.{row-stands, row_within}
use Rattle.sheet.proofs.ready_set.Goals as goal

pub overflow_add-row_start : goal.overflow_add-row_start
overflow_add-row_start c = omega (arith, row_within c.requires.0)

pub overflow_add-row_start-2 : goal.overflow_add-row_start-2
overflow_add-row_start-2 c = omega (arith, row_within c.requires.0)

pub word_at-requires : goal.word_at-requires
word_at-requires c = record { within = omega (arith, row_within c.requires.0) }

pub returns : goal.returns
returns c =
    c.word_at.ensures ∙ ap (λ (p : ℕ). word c.args.b.now
    (p + 1 + 2 * c.args.i)) c.row_start.ensures
    ∙ (row-stands c.requires.0).masks _
    c.requires.1
