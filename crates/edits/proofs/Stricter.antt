-- What is accepted in the settled mode is accepted in the paper's, `settled-stricter`: the same pairs are walked, and each is sound in the
-- paper's mode too, which asks less.
-- Assumes nothing.
use mathlib.Core.List.{List}
use Prim.Native.Nat.{ℕ}
use native.Mathlib.Omega.{arith}
use Rattle.model.specs.Contract.{Contract}
use Rattle.model.specs.Test.{paper, settled, is_settled}
use Rattle.model.specs.Plan.{Move}
use Rattle.edits.specs.Promises.{IsSound, SettledStricter}
use Rattle.edits.proofs.Decides.{check-decides}
use Rattle.edits.proofs.Passed.{passed}

-- sound pairs are sound in the paper's mode
paper-sound : (limits : List ℕ) (old new : Contract) (rows : List (List Move)) → IsSound settled limits old new rows
    → IsSound paper limits old new rows
unfolding is_settled
paper-sound limits old new rows sound x r =
    let s = sound x r in
    record { within = s.within; meets = s.meets; passes = record { passes = s.passes.passes; delivers = λ g. absurd g } }

pub settled-stricter : SettledStricter
settled-stricter R blank old new plan work z =
    let c = passed blank settled old new plan work z in
    let strict = check-decides R blank settled old new plan work c.sheets c.plan-is c.reads c.plan-reads c.names in
    let plain = check-decides R blank paper old new plan work c.sheets c.plan-is c.reads c.plan-reads c.names in
    let sound = (strict.accepts (λ y. omega (arith, y, z))).0 z in
    (plain.accepts (λ y. omega (arith, strict.capacity.1 (plain.capacity.0 y), z))).1 (paper-sound _ _ _ _ sound)
