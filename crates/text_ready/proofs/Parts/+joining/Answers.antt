-- `join` does what a cell says, by the laws of Settled; `join_choice` goes along a chain of choices, by those of Choosing. Each call leads
-- to a smaller bound of recs, or to a lighter link below the same bound. Assumes nothing.
use mathlib.Core.Path.{◌≡◌, refl, sym, ap, subst, subst⁻¹, ◌∙◌}
use mathlib.Core.Bool.{true}
use Prim.Native.Nat.{ℕ, ◌+◌, ◌*◌, ◌%◌, ◌^◌, ◌<◌}
use native.Mathlib.Omega.{arith}
use lib.Bits.{bit_or}
use lib.Dec.{T}
use lib.Pow.{pow-lt}
use Rattle.model.specs.Contract.{has}
use lib.ListN.{get_or, length-take, length-drop}
use Rattle.text.specs.Cells.{Ends}
use Rattle.text_ready.specs.Ready.{Choice}
use Rattle.text.proofs.Ends.{weight, weight-most, lighter, lighter-other, to-body, rec-ends, inside-cells, told-link, to-parts}
use Rattle.text_ready.proofs.Settled.{at-link, end-joined, prefix-joined, plus-joined, part-added}
use Rattle.text_ready.proofs.Settled.{body-known, body-joined, held-joined, body-noted}
use Rattle.text_ready.proofs.Choosing.{choosing-none, choosing-more, choosing-ends, parts-of}
use Rattle.text_ready.proofs.Parts.+joining.Goals as goal

pub add_part-returns : goal.add_part-returns
add_part-returns t c = let p = c.args.self.now in
    λ kept. part-added p.cells.now p.bodies.now p.held.now c.args.link c.args.recs kept c.join-then.result c.join-then.ensures
    c.unite.ensures.0 c.unite.ensures.1

pub join-join_body-requires : goal.join-join_body-requires
join-join_body-requires t c =
    let p = c.args.self.now in
    let body = to-body p.cells.now p.bodies.now c.args.bound c.in-Body.r c.requires c.in-Body.ensures in
    let below : c.in-Body.r < c.args.bound = body.below in
    (omega (arith, below), rec-ends p.cells.now p.bodies.now body)

pub join-returns-in-End : goal.join-returns-in-End
join-returns-in-End t c =
    let p = c.args.self.now in
    at-link p.cells.now p.bodies.now p.held.now (sym c.in-End.ensures)
    (end-joined p.cells.now p.bodies.now p.held.now c.args.recs c.told-family)

pub join-returns-in-Prefix : goal.join-returns-in-Prefix
join-returns-in-Prefix t c =
    let p = c.args.self.now in
    let place = c.in-Place.ensures in
    let ends = subst (Ends p.cells.now p.bodies.now c.args.bound) place.0 c.requires in
    let told = c.in-Prefix.ensures in
    let forced = c.gain.ensures in
    at-link p.cells.now p.bodies.now p.held.now (sym place.0)
    (prefix-joined p.cells.now p.bodies.now p.held.now c.in-Place.p c.args.recs place.1 place.2
    (inside-cells p.cells.now p.bodies.now ends place.1 place.2) told.1 (omega (arith, told)) forced.0 forced.1)

pub join-join-then-requires : goal.join-join-then-requires
join-join-then-requires t c =
    let p = c.args.self.now in
    let place = c.in-Place.ensures in
    let ends = subst (Ends p.cells.now p.bodies.now c.args.bound) place.0 c.requires in
    let told = c.in-Plus.ensures in
    let parts = to-parts p.cells.now p.bodies.now ends place.1 place.2 (omega (arith, told)) in
    let less = lighter c.in-Place.p _ place.2 parts.left-falls in (
      omega (arith, less, ap weight told.1, ap weight place.0),
      subst⁻¹ (Ends p.cells.now p.bodies.now c.args.bound) told.1 parts.left-ends,
    )

pub join-join-requires : goal.join-join-requires
join-join-requires t c =
    let p = c.args.self.now in
    let place = c.in-Place.ensures in
    let ends = subst (Ends p.cells.now p.bodies.now c.args.bound) place.0 c.requires in
    let told = c.in-Plus.ensures in
    let parts = to-parts p.cells.now p.bodies.now ends place.1 place.2 (omega (arith, told)) in
    let is = told-link p.cells.now p.bodies.now parts.right-ends p.few_recs told.2 in
    let less = lighter c.in-Place.p _ place.2 parts.right-falls in (
      omega (arith, less, ap weight is, ap weight place.0),
      subst⁻¹ (Ends p.cells.now p.bodies.now c.args.bound) is parts.right-ends,
    )

pub join-returns-in-Plus : goal.join-returns-in-Plus
join-returns-in-Plus t c =
    let p = c.args.self.now in
    let place = c.in-Place.ensures in
    let ends = subst (Ends p.cells.now p.bodies.now c.args.bound) place.0 c.requires in
    let told = c.in-Plus.ensures in
    let parts = to-parts p.cells.now p.bodies.now ends place.1 place.2 (omega (arith, told)) in
    let is = told-link p.cells.now p.bodies.now parts.right-ends p.few_recs told.2 in
    at-link p.cells.now p.bodies.now p.held.now (sym place.0)
    (plus-joined p.cells.now p.bodies.now p.held.now c.in-Place.p c.args.recs c.join-then.result c.join.result place.1 place.2
    (inside-cells p.cells.now p.bodies.now ends place.1 place.2) told.0
    (at-link p.cells.now p.bodies.now p.held.now told.1 c.join-then.ensures)
    (at-link p.cells.now p.bodies.now p.held.now is c.join.ensures))

pub join_body-returns-then-has : goal.join_body-returns-then-has
join_body-returns-then-has t c =
    let p = c.args.self.now in
    let body = to-body p.cells.now p.bodies.now (c.args.r + 1) c.args.r c.requires refl in
    let set = c.if-has.ensures in
    let known : true ≡ has c.args.recs c.args.r = subst (λ (x : ℕ). true ≡ has x c.args.r) set.1 set.2 in
    body-known p.cells.now p.bodies.now p.held.now c.args.r c.args.recs (omega (arith, body.inside)) (subst T known tt) c.told-family

pub join_body-returns-then-same : goal.join_body-returns-then-same
join_body-returns-then-same t c =
    let p = c.args.self.now in
    let body = to-body p.cells.now p.bodies.now (c.args.r + 1) c.args.r c.requires refl in
    let few : c.args.r < 64 = omega (arith, body.inside, p.few_recs) in
    let bit : 1 * 2 ^ c.args.r % 2 ^ 64 ≡ 2 ^ c.args.r = omega (arith, pow-lt {j = 64} few) in
    body-noted p.cells.now p.bodies.now p.held.now c.args.r c.args.recs c.join_rec-then.result
    (ap (bit_or c.join_rec-then.result) bit) (c.same.ensures.0 (subst⁻¹ T c.if-same.true tt)) c.join_rec-then.ensures

pub join_choice-loop-left-init : goal.join_choice-loop-left-init
join_choice-loop-left-init t c = let p = c.args.self.now in
    choosing-none p.cells.now p.bodies.now p.held.now c.args.place c.args.bound c.args.recs _ c.requires.0

pub join_choice-add_part-kept-requires : goal.join_choice-add_part-kept-requires
join_choice-add_part-kept-requires t c =
    let p = c.args.self.now in
    let inner = c.in-Some.ensures in
    let small : c.loop-left.at < 256 = omega (arith, inner.0.inside, p.few_places) in
    let parts = parts-of p.cells.now p.bodies.now p.held.now c.loop-left.invariant.ends inner.0 small in
    let is = told-link p.cells.now p.bodies.now parts.right-ends p.few_recs inner.2 in
    let less = lighter c.loop-left.at _ small parts.right-falls in (
      omega (arith, less, ap weight is, c.loop-left.invariant.falls),
      subst⁻¹ (Ends p.cells.now p.bodies.now c.args.bound) is parts.right-ends,
    )

pub join_choice-loop-left-smaller : goal.join_choice-loop-left-smaller
join_choice-loop-left-smaller t c =
    let p = c.args.self.now in
    let inner = c.in-Some.ensures in
    let small : c.loop-left.at < 256 = omega (arith, inner.0.inside, p.few_places) in
    let parts = parts-of p.cells.now p.bodies.now p.held.now c.loop-left.invariant.ends inner.0 small in
    subst⁻¹ (λ (x : ℕ). weight x < weight c.loop-left.at) inner.1 (lighter c.loop-left.at _ small parts.left-falls)

pub join_choice-loop-left-preserved : goal.join_choice-loop-left-preserved
join_choice-loop-left-preserved t c =
    let p = c.args.self.now in
    let inner = c.in-Some.ensures in
    let small : c.loop-left.at < 256 = omega (arith, inner.0.inside, p.few_places) in
    let parts = parts-of p.cells.now p.bodies.now p.held.now c.loop-left.invariant.ends inner.0 small in
    let is = told-link p.cells.now p.bodies.now parts.right-ends p.few_recs inner.2 in
    choosing-more p.cells.now p.bodies.now p.held.now c.loop-left.invariant inner.0 small inner.1 is
    (c.add_part-kept.ensures c.loop-left.kept)

pub join_choice-add_part-last-requires : goal.join_choice-add_part-last-requires
join_choice-add_part-last-requires t c =
    let p = c.args.self.now in
    let small : c.args.place < 256 = omega (arith, c.requires.1.inside, p.few_places) in
    let other : c.loop-left.at ≡ c.args.place → ⊥ = λ e. c.in_default.ensures (subst⁻¹ (Choice p.cells.now) e c.requires.1) in
    let less = lighter-other c.args.place c.loop-left.at small c.loop-left.invariant.falls other in
    (omega (arith, less), c.loop-left.invariant.ends)

pub join_choice-returns : goal.join_choice-returns
join_choice-returns t c = let p = c.args.self.now in
    choosing-ends p.cells.now p.bodies.now p.held.now c.loop-left.invariant (c.add_part-last.ensures c.loop-left.kept)

pub join_rec-join-requires : goal.join_rec-join-requires
join_rec-join-requires t c = (c.told-family, simp (c.in-Some.ensures.1, length-take, length-drop) (omega (arith, c.in-Some.ensures.0)))

pub join_rec-returns-in-Some : goal.join_rec-returns-in-Some
join_rec-returns-in-Some t c = let p = c.args.self.now in
    let body = to-body p.cells.now p.bodies.now (c.args.r + 1) c.args.r c.requires refl in
    let held = c.in-Some.ensures in
    body-joined p.cells.now p.bodies.now p.held.now c.args.r c.args.recs c.args.recs body.place
    (held-joined p.cells.now p.bodies.now p.held.now c.args.r c.args.recs held.0 held.1 c.join.ensures.0 c.join.ensures.1)

pub join_rec-join-requires-2 : goal.join_rec-join-requires-2
join_rec-join-requires-2 t c =
    let p = c.args.self.now in
    let body = to-body p.cells.now p.bodies.now (c.args.r + 1) c.args.r c.requires refl in
    (omega (arith, weight-most (get_or p.bodies.now c.args.r 0)), body.ends)

pub join_rec-returns : goal.join_rec-returns
join_rec-returns t c = let p = c.args.self.now in
    let body = to-body p.cells.now p.bodies.now (c.args.r + 1) c.args.r c.requires refl in
    body-joined p.cells.now p.bodies.now p.held.now c.args.r c.args.recs c.join-2.result body.place c.join-2.ensures
