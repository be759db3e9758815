-- The proof of the cycle of calls {unions}. The measure is `bits`. Three calls join the halves; what they ensure and how many numbers are
-- lent to them is said by laws on lists.
-- Assumes nothing.
use mathlib.Core.Path.{sym, subst, ◌∙◌}
use mathlib.Core.Logic.{inl, inr}
use Prim.Native.Nat.{◌<◌}
use native.Mathlib.Omega.{arith}
use lib.ListN.{length, length-set}
use lib.Dec.{T}
use lib.Pow.{pow_pos}
use Rattle.families.proofs.Halving.{joined-none}
use Rattle.families.proofs.Numbers.{no-masks, number-joined, first-sizes, second-sizes, length₃, numbers-joined}
use Rattle.families.proofs.joining.+unions.Goals as goal

pub returns-then-no_mask : goal.returns-then-no_mask
returns-then-no_mask t c =
    let none = c.no_mask.ensures.0 (subst T (sym c.if-no_mask.true) tt) in
    (c.requires.out_long, joined-none (inl (λ f u. no-masks _ none f u.1)))

pub returns-then-no_mask-2 : goal.returns-then-no_mask-2
returns-then-no_mask-2 t c =
    let none = c.no_mask-2.ensures.0 (subst T (sym c.if-no_mask-2.true) tt) in
    (c.requires.out_long, joined-none (inr (λ g u. no-masks _ none g u.1)))

pub returns-then-bits-eq0 : goal.returns-then-bits-eq0
returns-then-bits-eq0 t c =
    let a = c.args in
    let there : 0 < length a.out.now = omega (arith, c.requires.out_long, pow_pos a.bits) in (
      length-set a.out.now 0 _ ∙ c.requires.out_long,
      rw c.if-bits-eq0.true (number-joined a.one.now a.other.now a.out.now _ there c.unions_within.ensures),
    )

pub unions-requires : goal.unions-requires
unions-requires t c = (omega arith, first-sizes c.requires c.if-bits-eq0.false)

pub unions-requires-2 : goal.unions-requires-2
unions-requires-2 t c = (omega arith, second-sizes c.requires c.if-bits-eq0.false c.unions.new.out c.unions.ensures.0)

pub returns : goal.returns
returns t c =
    let given = c.requires in
    let some = c.if-bits-eq0.false in
    let xs = c.unions.new.out in
    let ys = c.unions-2.new.out in
    let zs = c.unions-3.new.out in (
      length₃ given some xs c.unions.ensures.0 ys c.unions-2.ensures.0 zs c.unions-3.ensures.0,
      numbers-joined given some xs c.unions.ensures.0 ys c.unions-2.ensures.0 zs c.unions-3.ensures.0 c.either_half.new.both
          c.either_half.ensures.1 c.unions.ensures.1 c.unions-2.ensures.1 c.unions-3.ensures.1,
    )
