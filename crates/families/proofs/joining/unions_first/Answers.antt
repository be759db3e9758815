-- `families::joining::unions_first` meets its contract: the union with the empty mask changes nothing.
-- Assumes nothing.
use mathlib.Core.Path.{◌≡◌, subst}
use mathlib.Core.Bool.{true}
use Prim.Native.Nat.{ℕ}
use lib.Dec.{T}
use Rattle.model.specs.Contract.{has}
use Rattle.families.proofs.Halving.{first-there}
use Rattle.families.proofs.joining.unions_first.Goals as goal

pub returns-then-has : goal.returns-then-has
returns-then-has c =
    let set = c.if-has.ensures in
    let there : true ≡ has c.args.other 0 = subst (λ (x : ℕ). true ≡ has x 0) set.1 set.2 in
    first-there c.args.word c.args.other (subst T there tt)
