-- The cases of document 01's table that answer 12, in the paper's mode and in the settled one of document 02, request 5/13, each with the
-- client that defeats every adapter as a client sheet.
-- Assumes nothing.
use Rattle.std.specs.Prelude.{List, [], ◌∷◌, ℕ}
use Rattle.model.specs.Cases.{take_a_1, end_1, send_a_1, take_a_2, internal_2, take_a_send_c_4, take_a_send_d_4, take_c_take_a_3, take_a_take_c_3}
use Rattle.model.specs.RunCases.{send_c_send_a_3}
use Rattle.model.specs.Test.{Mode, paper, settled}

-- ---- the clients that model has not, each named for its term and its n; a client's end is its success mark

-- the client !a
abbrev pub client_send_a_1 : List ℕ
client_send_a_1 = 0x01 ∷ 0x80 ∷ 0x00 ∷ 0x01 ∷ 0x01 ∷ 0x00 ∷ 0x40 ∷ 0x00 ∷ 0x00 ∷ 0x04 ∷ 0x00 ∷ 0x07 ∷ 0x00 ∷ 0x02 ∷ 0x01 ∷ 0x01 ∷ 0xC5 ∷ []

-- the client a
abbrev pub client_take_a_1 : List ℕ
client_take_a_1 = 0x01 ∷ 0x01 ∷ 0x00 ∷ 0x01 ∷ 0x01 ∷ 0x00 ∷ 0x40 ∷ 0x00 ∷ 0x00 ∷ 0x04 ∷ 0x00 ∷ 0x07 ∷ 0x00 ∷ 0x02 ∷ 0x01 ∷ 0x01 ∷ 0xC5 ∷ []

-- the client !a
abbrev pub client_send_a_2 : List ℕ
client_send_a_2 = 0x01 ∷ 0x80 ∷ 0x00 ∷ 0x01 ∷ 0x01 ∷ 0x00 ∷ 0x40 ∷ 0x00 ∷ 0x00 ∷ 0x04 ∷ 0x00 ∷ 0x07 ∷ 0x00 ∷ 0x02 ∷ 0x02 ∷ 0x01 ∷ 0xC5 ∷ []

-- the client !a.c
abbrev pub client_send_a_take_c_4 : List ℕ
client_send_a_take_c_4 =
    0x01 ∷ 0x80 ∷ 0x00 ∷ 0x01 ∷ 0x01 ∷ 0x04 ∷ 0x00 ∷ 0x02 ∷ 0x01 ∷ 0x00 ∷ 0x40 ∷ 0x00 ∷ 0x00 ∷ 0x04 ∷ 0x00 ∷ 0x08 ∷ 0x00 ∷ 0x0B ∷ 0x00
    ∷ 0x03 ∷ 0x04 ∷ 0x01 ∷ 0xC5 ∷ []

-- ---- the list

-- a mode, a pair, its k, and the client's bytes
pub record DefeatedCase : Type 0 where
  pub mode : Mode
  pub old : List ℕ
  pub new : List ℕ
  pub k : ℕ
  pub client : List ℕ

abbrev case : Mode → List ℕ → List ℕ → ℕ → List ℕ → DefeatedCase
case mode old new k client = record { mode = mode; old = old; new = new; k = k; client = client }

-- M3, M5, M7, M10, M12; then those that only the settled mode refuses, M4 and M8
unfoldable pub defeated_cases : List DefeatedCase
defeated_cases =
    case paper take_a_1 end_1 0 client_send_a_1
    ∷ case paper send_a_1 end_1 3 client_take_a_1
    ∷ case paper take_a_2 internal_2 0 client_send_a_2
    ∷ case paper take_a_send_c_4 take_a_send_d_4 0 client_send_a_take_c_4
    ∷ case paper take_c_take_a_3 take_a_take_c_3 0 send_c_send_a_3
    ∷ case settled take_a_1 end_1 1 client_send_a_1
    ∷ case settled take_a_2 internal_2 1 client_send_a_2
    ∷ []
