-- `text_reading::strip` meets its contract. The invariant: the bytes before one are dropped to the first ones of `out`.
-- Assumes nothing.
use mathlib.Core.Path.{refl}
use Prim.Native.Nat.{◌<◌}
use native.Mathlib.Omega.{arith}
use lib.ListN.{length, length-set}
use Rattle.text_reading.proofs.Stripping.{none-stripped, blank-left, byte-kept, more-stripped}
use Rattle.text_reading.proofs.strip.Goals as goal

pub loop-b-init : goal.loop-b-init
loop-b-init c = none-stripped c.args.text.now c.args.out.now c.requires.1

pub loop-b-preserved-then-b-eq32 : goal.loop-b-preserved-then-b-eq32
loop-b-preserved-then-b-eq32 c =
    more-stripped c.loop-b.invariant c.loop-b-test.true refl (blank-left c.loop-b.out c.loop-b.count _ c.if-b-eq32.true)

pub loop-b-preserved : goal.loop-b-preserved
loop-b-preserved c =
    let so_far = c.loop-b.invariant in
    let room : c.loop-b.count < length c.loop-b.out = omega (arith, so_far.few, so_far.room) in
    more-stripped so_far c.loop-b-test.true (length-set c.loop-b.out _ _) (byte-kept c.loop-b.out c.loop-b.count _ room c.if-b-eq32.false)
