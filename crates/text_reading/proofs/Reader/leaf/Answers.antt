-- `text_reading::Reader::leaf` meets its contract: 0, a variable, or neither.
-- Assumes nothing.
use mathlib.Core.Path.{refl}
use Prim.Native.Nat.{◌+◌}
use native.Mathlib.Omega.{arith}
use native.Mathlib.Nat.{add-zero}
use Rattle.std.proofs.lemmas.Result.{err_from_is_err_and}
use Rattle.text_reading.proofs.Bytes.{next_is, next-not, here}
use Rattle.text_reading.proofs.Leaves.{nought-read, nothing_read, variable-read, fault-or}
use Rattle.text_reading.proofs.Reader.leaf.Goals as goal

pub returns-then-eq : goal.returns-then-eq
returns-then-eq c =
    record { same = (refl, refl, refl); left = nought-read c.requires (next_is c.args.self.now.text.now c.args.self.now.at c.byte.ensures c.eq.ensures c.if-eq.true) }

pub returns-in_err-v : goal.returns-in_err-v
returns-in_err-v c =
    let e = err_from_is_err_and c.from_residual.result c.from_residual.ensures.1 in
    let n = next-not c.args.self.now.text.now c.args.self.now.at c.byte.ensures c.eq.ensures c.if-eq.false in
    let k = simp add-zero at c.in_err-v.ensures in
    rw (e.1, e.2) (record { same = (refl, refl, refl); left = nothing_read c.requires n k.1 (refl, k.0) })

pub fault_at-requires : goal.fault_at-requires
fault_at-requires c =
    let v = c.in_ok-v.ensures in
    let h = here c.args.self.now.text.now (c.args.self.now.at + 0) v.is in
    omega (arith, v.within, c.requires.short, h)

pub returns : goal.returns
returns c =
    let n = next-not c.args.self.now.text.now c.args.self.now.at c.byte.ensures c.eq.ensures c.if-eq.false in
    let k = simp add-zero at c.in_ok-v.ensures in
    record {
      same = (refl, refl, refl);
      left = variable-read c.requires n k _ _ (rw (c.from-2.ensures, c.from.ensures) refl) (rw (c.or-self.ensures, fault-or, c.fault_at.ensures) refl);
    }
