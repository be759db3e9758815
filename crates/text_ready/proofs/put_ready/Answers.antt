-- `text_ready::put_ready` meets its contract: the family that is held of a body at the place has the place's ready sets, and so has what
-- joining gives. Assumes nothing.
use mathlib.Core.Path.{◌≡◌, sym, ap, subst⁻¹, ◌∙◌}
use mathlib.Core.List.{List}
use Prim.Native.Nat.{ℕ, min}
use native.Mathlib.Omega.{arith}
use lib.ListN.{length, take, get_or, length-take, length-drop}
use lib.Dec.{T, eqb, eqb→eq}
use Rattle.std.proofs.lemmas.List.Quantifiers.{position-Some}
use Rattle.little_endian.specs.Front.{front}
use Rattle.families.specs.Families.{masks_of}
use Rattle.text_ready.proofs.Masks.{held-are-ready}
use Rattle.text_ready.proofs.put_ready.Goals as goal

pub masks-requires : goal.masks-requires
masks-requires c =
    let held = c.in-Some-held_body.ensures in
    (simp (held.1, length-take, length-drop) (omega (arith, held.0)), c.requires.2)

pub returns-in-Some-held_body : goal.returns-in-Some-held_body
returns-in-Some-held_body c =
    let a = c.args in
    let r = c.in-Some.r in
    let body = c.in-Some-held_body.ensures in
    let written = c.masks.ensures in
    let found = position-Some (λ body. eqb body a.place) a.bodies.now r 0 (sym c.in-Some.ensures) in
    let at : get_or a.bodies.now r 0 ≡ a.place = eqb→eq _ _ (subst⁻¹ T found.1 tt) in
    λ senses x k.
    let e = ap masks_of body.1 ∙ held-are-ready a.cells.now a.bodies.now a.held.now r c.requires.4 c.requires.3 at body.0 senses x k in (
      written.0 ∙ ap (λ (l : List ℕ). min 9 (length l)) e,
      written.1 ∙ ap (λ (l : List ℕ). front (take 8 l) a.out.now) e,
    )
