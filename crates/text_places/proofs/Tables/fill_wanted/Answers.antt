-- `text_places::Tables::fill_wanted` meets its contract. The loop's invariant: all places of the set before place p are written.
-- Assumes nothing.
use mathlib.Core.Path.{◌≡◌, subst, subst⁻¹, sym, ◌∙◌}
use Prim.Native.Nat.{ℕ, ◌+◌}
use native.Mathlib.Omega.{arith}
use lib.ListN.{length}
use Rattle.text_places.specs.declared.Tables.{Tables}
use Rattle.text_places.specs.Lent.{SameTables, FillingIn}
use Rattle.text_places.proofs.Same.{same-then}
use Rattle.text_places.proofs.Filling.{filling-more, filling_skip}
use Rattle.text_places.proofs.Tables.fill_wanted.Goals as goal
use Rattle.text_places.proofs.Tables.fill_wanted.Goals.{then-has_place, else-has_place}

pub loop-p-preserved : goal.loop-p-preserved
loop-p-preserved c =
    let l = c.loop-p in
    let parts = c.args.parts.now in
    let is = l.invariant.filled in
    let next : Tables → Type 0 = λ t. record {
      same : SameTables c.args.self.now t;
      filled : FillingIn parts c.args.wanted.now.0 (l.p + 1) t;
    } in
    elim c.if-has_place.branch [
      | then-has_place w ↦
          subst⁻¹ next w.self-is
          (record { same = same-then l.invariant.same w.fill_place.ensures.same; filled = filling-more _ _ is w.fill_place.ensures.filled })
      | else-has_place w ↦
          subst⁻¹ next w.self-is
          (record { same = l.invariant.same; filled = filling_skip _ _ is (sym c.has_place.ensures ∙ w.if-has_place.false) })
    ]

pub returns : goal.returns
returns c =
    let l = c.loop-p in
    let parts = c.args.parts.now in
    let end : l.p ≡ length parts.cells.now = omega arith in
    record {
      same = l.invariant.same;
      filled =
          subst (λ (n : ℕ). FillingIn parts c.args.wanted.now.0 n l.self) end l.invariant.filled;
    }
