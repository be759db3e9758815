-- `sheet::row_start` meets its contract: the index stands before the trailer, with a place for every state.
-- Assumes nothing.
use mathlib.Core.Path.{ap, ◌∙◌}
use Prim.Native.Nat.{ℕ, ◌+◌, ◌*◌}
use native.Mathlib.Omega.{arith}
use Rattle.model.specs.Bytes.{word}
use Rattle.model.specs.Sheet.{trailer, row_start}
use Rattle.sheet.proofs.Whole.{sheet-stands, entry-within}
use Rattle.sheet.proofs.row_start.Goals as goal

pub overflow_sub-b : goal.overflow_sub-b
overflow_sub-b c =
    let s = sheet-stands _ c.requires.sheet in
    omega arith

pub word_at-index-requires : goal.word_at-index-requires
word_at-index-requires c =
    record {
      within =
          let s = sheet-stands _ c.requires.sheet in
          omega arith;
    }

pub word_at-requires : goal.word_at-requires
unfolding trailer
word_at-requires c = record { within = omega (arith, entry-within c.requires) }

pub returns : goal.returns
unfolding trailer row_start
returns c =
    c.word_at.ensures ∙ ap (λ (i : ℕ). word c.args.b.now
    (i + 2 * c.args.q)) c.word_at-index.ensures
