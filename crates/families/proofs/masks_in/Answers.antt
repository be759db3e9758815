-- `families::masks_in` meets its contract. The loop's invariant: n of the number's masks are written, and those of `rest` are left.
-- Assumes nothing.
use mathlib.Core.List.{[]}
use mathlib.Core.Path.{◌≡◌, refl, sym, subst}
use Prim.Native.Nat.{ℕ}
use native.Mathlib.Omega.{arith}
use lib.Count.{trailing_le}
use Rattle.families.specs.Families.{masks_in}
use Rattle.families.proofs.MasksOf.{in-none, in-less, in-lowest}
use Rattle.little_endian.proofs.OneByOne.{writing-none, writing-length, writing-end, writing-over, writing_more}
use Rattle.families.proofs.masks_in.Goals as goal

pub loop-rest-init : goal.loop-rest-init
loop-rest-init c = (omega arith, omega arith, writing-none _ _ refl)

pub returns-then-n-room : goal.returns-then-n-room
returns-then-n-room c =
    let l = c.loop-rest in
    let some = c.loop-rest-test.true in
    writing-over l.invariant.2 _ _ c.if-n-room.true (omega (arith, c.if-n-room.true))
    (in-lowest c.args.w l.rest some l.invariant.1 refl)

pub loop-rest-preserved : goal.loop-rest-preserved
loop-rest-preserved c =
    let l = c.loop-rest in
    let a = c.args in
    let some = c.loop-rest-test.true in (
      omega (arith, c.if-n-room.false),
      omega (arith, in-less a.w l.rest some l.invariant.1, l.invariant.1),
      writing_more l.invariant.2 (omega (arith, c.if-n-room.false)) refl refl
          (in-lowest a.w l.rest some l.invariant.1 refl),
    )

pub returns : goal.returns
returns c =
    let l = c.loop-rest in
    let w = c.args.w in
    writing-end l.invariant.2 (subst (λ (x : ℕ). masks_in w x ≡ []) (sym c.loop-rest-test.false) (in-none w)) _ l.invariant.0
