-- The answers of the functions, for what the definitions give; and where in memory a part stands.
-- Assumes nothing.
use Rattle.std.specs.Prelude.{◌≡◌, List, ℕ, ◌+◌}
use Rattle.std.specs.Borrow.{Bor}
use Rattle.model.specs.Sheet.{Refusal}
use Rattle.sheet.specs.Answers.{fault_of}
use Rattle.named_row.specs.Row as row
use Rattle.named_row.specs.Row.{whole_of, cut}
use Rattle.named_row.specs.declared.Part.{Part}
use Rattle.named_row.specs.declared.RowRefusal.{RowRefusal}
use Rattle.named_row.specs.declared.Why.{Why}
use Rattle.named_row.specs.declared.Why.TheVariants as W

-- a part and a refusal as structs
unfoldable pub part_of : row.Part → Part
part_of p = record { sheet = p.sheet; offset = p.offset; length = p.length }

unfoldable pub refusal_of : Refusal → RowRefusal
refusal_of r = record { number = r.number; sheet = r.sheet; state = r.state; offset = r.offset }

-- what is said where there is no row: "1 to 7 if the named one is broken, 15 for a state not in it", "8 with sheet 0 for a sheet other than
-- 1 or 2"
abbrev pub why_of : Why → Refusal
why_of (W.Sheet sheet fault) =
    let f = fault_of fault in
    record { number = f.number; sheet = sheet; state = f.state; offset = f.offset }
why_of W.State = record { number = 15; sheet = 0; state = 0; offset = 0 }
why_of W.Unnamed = record { number = 8; sheet = 0; state = 0; offset = 0 }

-- The slice r is this part of one of two slices: it has the part's bytes, and it stands in memory where the part does, so many bytes behind
-- the first byte of its sheet. A pointer is a block of memory and a place in it.
pub record IsPart (p : row.Part) (first second r : Bor (List ℕ)) : Type 0 where
  pub bytes : r.now ≡ cut p (whole_of p first second).now
  pub block : r.ref_ptr.0 ≡ (whole_of p first second).ref_ptr.0
  pub place : r.ref_ptr.1 ≡ (whole_of p first second).ref_ptr.1 + p.offset
