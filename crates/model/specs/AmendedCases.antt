-- Small sheets with masks out of order and forbidden bits, each with both answers. All are services over one name: bits 0 and 7 are actions,
-- all others are forbidden.
-- Assumes nothing.
use Rattle.std.specs.Prelude.{List, [], ◌∷◌, ℕ}
use Rattle.model.specs.Sheet.{Fault}

-- masks 0080, 0001: the second is out of order
abbrev pub unsorted : List ℕ
unsorted = 0x02 ∷ 0x80 ∷ 0x00 ∷ 0x01 ∷ 0x00 ∷ 0x00 ∷ 0x00 ∷ 0x05 ∷ 0x00 ∷ 0x01 ∷ 0x01 ∷ 0x00 ∷ 0xC5 ∷ []

-- masks 0080, 0002: the second is out of order and has a forbidden bit
abbrev pub both_faults : List ℕ
both_faults = 0x02 ∷ 0x80 ∷ 0x00 ∷ 0x02 ∷ 0x00 ∷ 0x00 ∷ 0x00 ∷ 0x05 ∷ 0x00 ∷ 0x01 ∷ 0x01 ∷ 0x00 ∷ 0xC5 ∷ []

-- masks 0080, 0001, 8001: the second is out of order, the third has bit 15
abbrev pub noise_behind : List ℕ
noise_behind =
    0x03 ∷ 0x80 ∷ 0x00 ∷ 0x01 ∷ 0x00 ∷ 0x01 ∷ 0x80 ∷ 0x00 ∷ 0x00 ∷ 0x07 ∷ 0x00 ∷ 0x01 ∷ 0x01 ∷ 0x00 ∷ 0xC5 ∷ []

-- masks 8000, 0001: the first has bit 15, which puts the second out of order
abbrev pub noise_first : List ℕ
noise_first = 0x02 ∷ 0x00 ∷ 0x80 ∷ 0x01 ∷ 0x00 ∷ 0x00 ∷ 0x00 ∷ 0x05 ∷ 0x00 ∷ 0x01 ∷ 0x01 ∷ 0x00 ∷ 0xC5 ∷ []

-- state 0 with masks 0080, 0001, state 1 with mask 8000: bit 15 is in another row
abbrev pub noise_elsewhere : List ℕ
noise_elsewhere =
    0x02 ∷ 0x80 ∷ 0x00 ∷ 0x01 ∷ 0x00 ∷ 0x01 ∷ 0x00 ∷ 0x80 ∷ 0x00 ∷ 0x00 ∷ 0x05 ∷ 0x00 ∷ 0x08 ∷ 0x00 ∷ 0x02 ∷ 0x01 ∷ 0x00 ∷ 0xC5 ∷ []

-- state 0 at its end, state 1 with masks 0080, 0001, 0102
abbrev pub second_state : List ℕ
second_state =
    0x01 ∷ 0x00 ∷ 0x00 ∷ 0x03 ∷ 0x80 ∷ 0x00 ∷ 0x01 ∷ 0x00 ∷ 0x02 ∷ 0x01 ∷ 0x00 ∷ 0x00 ∷ 0x03 ∷ 0x00 ∷ 0x0A ∷ 0x00 ∷ 0x02 ∷ 0x01 ∷ 0x00 ∷ 0xC5
    ∷ []

-- a sheet, its answer before the request, and its answer
pub record AmendedCase : Type 0 where
  pub bytes : List ℕ
  pub before : Fault
  pub now : Fault

abbrev fault : (number state offset : ℕ) → Fault
fault number state offset = record { number = number; state = state; offset = offset }

abbrev case : List ℕ → Fault → Fault → AmendedCase
case bytes before now = record { bytes = bytes; before = before; now = now }

unfoldable pub amended_cases : List AmendedCase
amended_cases =
    case unsorted (fault 5 0 3) (fault 5 0 3)
    ∷ case both_faults (fault 5 0 3) (fault 6 0 3)
    ∷ case noise_behind (fault 5 0 3) (fault 6 0 5)
    ∷ case noise_first (fault 6 0 1) (fault 6 0 1)
    ∷ case noise_elsewhere (fault 5 0 3) (fault 5 0 3)
    ∷ case second_state (fault 5 1 6) (fault 6 1 8)
    ∷ []
