-- `text_reading::Scope::in_rec` meets its contract: one bit more in one mask, one less in the other, asked variable by variable.
-- Assumes nothing.
use mathlib.Core.Path.{ap}
use Prim.Native.Nat.{ℕ}
use native.Mathlib.Omega.{arith}
use lib.ListN.{set}
use Rattle.text_reading.proofs.Masks.{bit_is, bit-small, listed_more, listed-fewer}
use Rattle.text_reading.proofs.Scope.in_rec.Goals as goal

pub overflow_sub-self : goal.overflow_sub-self
overflow_sub-self c = bit-small c.args.v (omega arith)

pub returns : goal.returns
returns c =
    let a = c.args in
    let h = c.requires in
    record {
      recs_are = listed_more a.self.recs a.v h (bit_is a.v h);
      prefixed_are = listed-fewer a.self.prefixed a.v h (bit_is a.v h);
      owners_are = ap (λ (v : ℕ). set a.self.owners v a.number) c.from.ensures;
    }
