-- `text_ready::Parts::join_ready` meets its contract: the family that holds only the empty mask, joined with the place, holds its ready sets.
-- Assumes nothing.
use mathlib.Core.Path.{ap, ◌∙◌}
use mathlib.Core.List.{List}
use Prim.Native.Nat.{ℕ, min}
use lib.ListN.{length, take}
use Rattle.little_endian.specs.Front.{front}
use Rattle.text_ready.proofs.Masks.{masks-are-ready}
use Rattle.text_ready.proofs.Parts.join_ready.Goals as goal

pub returns : goal.returns
returns c =
    let p = c.args.self.now in
    let written = c.masks.ensures in
    λ senses x k.
    let e =
    masks-are-ready p.cells.now p.bodies.now p.held.now c.requires.2 c.only_empty.ensures.1 c.join.ensures senses x k c.requires.1 in (
      written.0 ∙ ap (λ (l : List ℕ). min 9 (length l)) e,
      written.1 ∙ ap (λ (l : List ℕ). front (take 8 l) c.args.out.now) e,
    )
