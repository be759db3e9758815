-- Two sheets that the check takes as a client's and a service's have a state 0 each, where a run starts.
-- Assumes nothing.
use mathlib.Core.Path.{◌≡◌}
use mathlib.Core.List.{List}
use Prim.Native.Nat.{ℕ}
use Rattle.std.specs.Prelude.{Result, Ok}
use native.Mathlib.Omega.{arith}
use Rattle.model.specs.Sheet.{read_both}
use Rattle.sheet.specs.Whole.{IsSheet, IsState}
use Rattle.sheet.proofs.Whole.{states-some}
use Rattle.sheet.specs.Answers.{reading_of, whole}
use Rattle.pair.specs.Pairs.{refusal_of}
use Rattle.pair.specs.declared.Refusal.{Refusal}
use Rattle.pair.proofs.Pairs.{good-both, both-sheets}

at_start : (b : List ℕ) → IsSheet b → IsState b 0
at_start b is_sheet = record { sheet = is_sheet; state = omega (arith, states-some b is_sheet) }

pub both-at-start : (client service : List ℕ) {r : Result (Unit {0}) Refusal}
    → reading_of refusal_of r ≡ whole (read_both 1 0 client service) → {u : Unit {0}} → r ≡ Ok u → IsState client 0 × IsState service 0
both-at-start client service e good =
    let sheets = both-sheets 1 0 client service _ (good-both 1 0 client service e good) in
    (at_start client sheets.0, at_start service sheets.1)
