-- `text_places::Parts::wanted` meets its contract. The loop's invariant: the set has the first place and those behind the prefixes before
-- place p.
-- Assumes nothing.
use mathlib.Core.Path.{◌≡◌, subst, subst⁻¹}
use Prim.Native.Nat.{ℕ, ◌+◌}
use native.Mathlib.Omega.{arith}
use lib.ListN.{length}
use Rattle.place_sets.specs.declared.PlaceSet.{PlaceSet}
use Rattle.text_places.specs.Wanted.{Wanting}
use Rattle.text_places.proofs.Wanting.{wanting-first, link-leads, behind-ends, wanting-prefix, wanting-choice, told-choice}
use Rattle.text_places.proofs.Parts.wanted.Goals as goal
use Rattle.text_places.proofs.Parts.wanted.Goals.{in-Prefix, in_default}

pub loop-p-init : goal.loop-p-init
loop-p-init c = wanting-first _ _ c.args.first c.requires.inside c.alone-wanted.ensures (omega arith)

pub place_of-requires : goal.place_of-requires
place_of-requires c =
    let parts = c.args.self.now in
    let told = c.in-Prefix.ensures in
    link-leads parts.cells.now parts.bodies.now
    (behind-ends parts.cells.now parts.bodies.now c.requires.known c.loop-p.p c.loop-p.auto.p c.loop-p-test.true told.0 told.2)

pub loop-p-preserved : goal.loop-p-preserved
loop-p-preserved c =
    let l = c.loop-p in
    let cells = c.args.self.now.cells.now in
    let bodies = c.args.self.now.bodies.now in
    elim c.match-from.branch [
      | in-Prefix w ↦
          let told = w.in-Prefix.ensures in
          let added = w.add_place.ensures in
          subst⁻¹ (λ (set : PlaceSet). Wanting cells bodies c.args.first (l.p + 1) set.0) w.wanted-is
          (wanting-prefix cells bodies c.requires.known l.p l.auto.p c.loop-p-test.true l.invariant told.0 told.2 w.place_of.ensures added.0
          added.1)
      | in_default w ↦
          subst⁻¹ (λ (set : PlaceSet). Wanting cells bodies c.args.first (l.p + 1) set.0) w.wanted-is
          (wanting-choice cells bodies c.requires.known l.p l.auto.p c.loop-p-test.true l.invariant
          (told-choice _ _ c.from.ensures w.in_default.not-Prefix))
    ]

pub returns : goal.returns
returns c =
    let l = c.loop-p in
    let parts = c.args.self.now in
    let end : l.p ≡ length parts.cells.now = omega arith in
    subst (λ (n : ℕ). Wanting parts.cells.now parts.bodies.now c.args.first n l.wanted.0) end l.invariant
