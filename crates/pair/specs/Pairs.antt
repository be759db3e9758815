-- What a refusal of two sheets says.
-- Assumes nothing.
use Rattle.model.specs.Sheet as model
use Rattle.sheet.specs.Answers.{fault_of}
use Rattle.pair.specs.declared.Refusal.{Refusal}
use Rattle.pair.specs.declared.Refusal.TheVariants.{Sheet, Role, Names}

-- its number in document 01's table; "A refusal 1 to 8 carries the sheet (for 8 the first in the wrong role), others 0, and for 4 to 7 the
-- state (else 0)"; the offset of the byte at fault
abbrev pub refusal_of : Refusal → model.Refusal
refusal_of (Sheet place fault) =
    let f = fault_of fault in
    record { number = f.number; sheet = place; state = f.state; offset = f.offset }
refusal_of (Role place) = record { number = 8; sheet = place; state = 0; offset = 0 }
refusal_of Names = record { number = 9; sheet = 0; state = 0; offset = 0 }
