-- The answers of the checks, for what the model reads.
-- Assumes nothing.
use Rattle.std.specs.Prelude.{Option, Result, Ok, Err, Bool, ◌&&◌, ℕ, leb, eqb, ltb}
use Rattle.std.specs.Bool.{then_some}
use Rattle.model.specs.Sheet as model
use Rattle.model.specs.Sheet.{Reading, good, refusal, then}
use Rattle.sheet.specs.declared.parts.Trailer as declared
use Rattle.sheet.specs.declared.Fault.{Fault}
use Rattle.sheet.specs.declared.Fault.TheVariants.{Length, Trailer, Index, Row, Ready, Action, Successor}

-- the trailer that a struct holds
abbrev pub trailer_of : declared.Trailer → model.Trailer
trailer_of t =
    record { index = t.index; count = t.count; n = t.n; role = t.role; closing = t.closing }

-- each number of a trailer in its range: 1 to so many states, n 0 to 7, a role up to the highest, and its closing byte
abbrev pub trailer_within : model.Trailer → (states role closing : ℕ) → Bool
trailer_within t states role closing =
    leb 1 t.count && leb t.count states && leb t.n 7 && leb t.role role && eqb t.closing closing

-- what a fault says: its number in document 01's table, and for 4 to 7 the state and the offset of the byte at fault
abbrev pub fault_of : Fault → model.Fault
fault_of Length = record { number = 1; state = 0; offset = 0 }
fault_of Trailer = record { number = 2; state = 0; offset = 0 }
fault_of Index = record { number = 3; state = 0; offset = 0 }
fault_of (Row state offset) = record { number = 4; state = state; offset = offset }
fault_of (Ready state offset) = record { number = 5; state = state; offset = offset }
fault_of (Action state offset) = record { number = 6; state = state; offset = offset }
fault_of (Successor state offset) = record { number = 7; state = state; offset = offset }

-- a result as a reading, by what its errors say
abbrev pub reading_of : {A E F : Type 0} → (E → F) → Result A E → Reading F A
reading_of says (Ok a) = good a
reading_of says (Err e) = refusal (says e)

-- a reading of which a function of what was read is handed on, or nothing but that it is good
abbrev pub on_result : {A B F : Type 0} → (A → B) → Reading F A → Reading F B
on_result f r = then r (λ a. good (f a))

abbrev pub whole : {A F : Type 0} → Reading F A → Reading F (Unit {0})
whole r = on_result (λ a. tt) r

-- where the row behind a row begins
abbrev pub behind_of : model.Row → ℕ
behind_of row = row.behind

-- a place among so many, or none where it is not among them
abbrev pub found : ℕ → ℕ → Option ℕ
found count i = then_some (ltb i count) i
