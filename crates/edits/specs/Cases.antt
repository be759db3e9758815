-- Plans from other hands, as rows of one list: what the check answers in a mode, and what is at fault.
-- Assumes nothing.
use Rattle.std.specs.Prelude.{List, [], ◌∷◌, ℕ}
use Rattle.model.specs.Test.{Mode, paper, settled}
use Rattle.model.specs.Cases.{take_a_2, external_2, end_1, take_a_1, send_a_1, internal_2, take_c_take_a_3, take_a_take_c_3, m1_plan, m13_plan}

-- M1's plan, its only move struck out
abbrev pub m1_struck : List ℕ
m1_struck = 0x00 ∷ 0x00 ∷ 0x00 ∷ 0x00 ∷ 0x00 ∷ 0x00 ∷ 0x01 ∷ 0x00 ∷ 0x00 ∷ 0x00 ∷ 0x02 ∷ 0x00 ∷ 0x00 ∷ 0x00 ∷ 0x02 ∷ 0x00 ∷ 0x02 ∷ 0x00 ∷ []

-- M6's plan: the service's message is taken in
abbrev pub m6_plan : List ℕ
m6_plan = 0x01 ∷ 0x27 ∷ 0x01 ∷ 0x00 ∷ 0x00 ∷ 0x00 ∷ 0x00 ∷ 0x00 ∷ 0x00 ∷ 0x04 ∷ 0x00 ∷ 0x00 ∷ 0x00 ∷ 0x05 ∷ 0x00 ∷ 0x00 ∷ 0x00 ∷ 0x02 ∷ 0x00 ∷ 0x01 ∷ 0x01 ∷ []

-- the same with 0 for k
abbrev pub m6_narrow : List ℕ
m6_narrow = 0x01 ∷ 0x27 ∷ 0x01 ∷ 0x00 ∷ 0x00 ∷ 0x00 ∷ 0x00 ∷ 0x00 ∷ 0x00 ∷ 0x04 ∷ 0x00 ∷ 0x00 ∷ 0x00 ∷ 0x05 ∷ 0x00 ∷ 0x00 ∷ 0x00 ∷ 0x02 ∷ 0x00 ∷ 0x01 ∷ 0x00 ∷ []

-- M6's plan, its only move struck out; row 1 is no longer reached
abbrev pub m6_struck : List ℕ
m6_struck = 0x00 ∷ 0x00 ∷ 0x00 ∷ 0x00 ∷ 0x00 ∷ 0x00 ∷ 0x01 ∷ 0x00 ∷ 0x00 ∷ 0x00 ∷ 0x02 ∷ 0x00 ∷ 0x00 ∷ 0x00 ∷ 0x02 ∷ 0x00 ∷ 0x01 ∷ 0x01 ∷ []

-- one row with a move that nobody can make: code 32, where the service takes no message and none waits
abbrev pub m6_dead : List ℕ
m6_dead = 0x01 ∷ 0x20 ∷ 0x00 ∷ 0x00 ∷ 0x00 ∷ 0x00 ∷ 0x00 ∷ 0x00 ∷ 0x04 ∷ 0x00 ∷ 0x00 ∷ 0x00 ∷ 0x01 ∷ 0x00 ∷ 0x01 ∷ 0x01 ∷ []

-- M4's plan, in the paper's mode: the client's message is taken in and never delivered
abbrev pub m4_plan : List ℕ
m4_plan =
    0x01 ∷ 0x10 ∷ 0x01 ∷ 0x00 ∷ 0x00 ∷ 0x00 ∷ 0x00 ∷ 0x00 ∷ 0x00 ∷ 0x04 ∷ 0x00 ∷ 0x00 ∷ 0x00 ∷ 0x05 ∷ 0x00 ∷ 0x00
    ∷ 0x00 ∷ 0x02 ∷ 0x00 ∷ 0x01 ∷ 0x01 ∷ []

-- M8's plan, in the paper's mode: the message that was taken in is delivered to one ready set of two
abbrev pub m8_plan : List ℕ
m8_plan =
    0x02 ∷ 0x00 ∷ 0x01 ∷ 0x00 ∷ 0x10 ∷ 0x02 ∷ 0x00 ∷ 0x00 ∷ 0x01 ∷ 0x20 ∷ 0x01 ∷ 0x00 ∷ 0x00 ∷ 0x00 ∷ 0x00 ∷ 0x00 ∷ 0x07 ∷ 0x00 ∷ 0x00
    ∷ 0x00 ∷ 0x08 ∷ 0x00 ∷ 0x00 ∷ 0x00 ∷ 0x0C ∷ 0x00 ∷ 0x00 ∷ 0x00 ∷ 0x03 ∷ 0x00 ∷ 0x02 ∷ 0x01 ∷ []

-- M13's plan, with code 32 struck out of row 3: the two messages that wait there are never delivered
abbrev pub m13_struck : List ℕ
m13_struck =
    0x01 ∷ 0x12 ∷ 0x01 ∷ 0x00 ∷ 0x02 ∷ 0x00 ∷ 0x02 ∷ 0x00 ∷ 0x10 ∷ 0x03 ∷ 0x00 ∷ 0x01 ∷ 0x22 ∷ 0x04 ∷ 0x00 ∷ 0x00 ∷ 0x00 ∷ 0x00 ∷ 0x00
    ∷ 0x00 ∷ 0x00 ∷ 0x04 ∷ 0x00 ∷ 0x00 ∷ 0x00 ∷ 0x0B ∷ 0x00 ∷ 0x00 ∷ 0x00 ∷ 0x0F ∷ 0x00 ∷ 0x00 ∷ 0x00 ∷ 0x10 ∷ 0x00 ∷ 0x00 ∷ 0x00 ∷ 0x11
    ∷ 0x00 ∷ 0x00 ∷ 0x00 ∷ 0x05 ∷ 0x00 ∷ 0x03 ∷ 0x01 ∷ []

-- mode, sheets, plan and records lent; the number, and of a 21 the condition, the code, the ready set and the plan state
pub record EditCase : Type 0 where
  pub mode : Mode
  pub old : List ℕ
  pub new : List ℕ
  pub plan : List ℕ
  pub records : ℕ
  pub number : ℕ
  pub condition : ℕ
  pub code : ℕ
  pub ready : ℕ
  pub state : ℕ

abbrev case : Mode → (old new plan : List ℕ) → (records number condition code ready state : ℕ) → EditCase
case mode old new plan records number condition code ready state = record {
  mode = mode;
  old = old;
  new = new;
  plan = plan;
  records = records;
  number = number;
  condition = condition;
  code = code;
  ready = ready;
  state = state;
}

unfoldable pub edit_cases : List EditCase
edit_cases =
    case paper take_a_2 external_2 m1_plan 2 0 0 0 0 0
    ∷ case paper take_a_2 external_2 m1_plan 1 11 0 0 0 0
    ∷ case paper take_a_2 external_2 m1_plan 0 11 0 0 0 0
    ∷ case paper take_a_2 external_2 m1_struck 2 21 3 0 3 0
    ∷ case paper end_1 send_a_1 m6_plan 2 0 0 0 0 0
    ∷ case paper end_1 send_a_1 m6_struck 1 0 0 0 0 0
    ∷ case paper end_1 send_a_1 m6_narrow 2 21 1 39 0 0
    ∷ case paper end_1 send_a_1 m6_dead 1 21 1 32 0 0
    ∷ case paper take_a_2 external_2 m6_plan 2 9 0 0 0 0
    ∷ case paper take_a_2 send_a_1 m6_plan 2 9 0 0 0 0
    ∷ case paper take_a_2 external_2 [] 2 14 0 0 0 0
    ∷ case paper [] external_2 m1_plan 2 1 0 0 0 0
    ∷ case paper take_a_1 end_1 m4_plan 2 0 0 0 0 0
    ∷ case settled take_a_1 end_1 m4_plan 2 21 4 0 0 1
    ∷ case paper take_a_2 internal_2 m8_plan 3 0 0 0 0 0
    ∷ case settled take_a_2 internal_2 m8_plan 3 21 4 0 2 2
    ∷ case settled take_c_take_a_3 take_a_take_c_3 m13_plan 5 0 0 0 0 0
    ∷ case settled take_c_take_a_3 take_a_take_c_3 m13_struck 5 21 4 0 1 3
    ∷ case paper take_c_take_a_3 take_a_take_c_3 m13_struck 5 0 0 0 0 0
    ∷ case settled take_a_2 external_2 m1_plan 2 0 0 0 0 0
    ∷ case settled take_a_2 external_2 m1_struck 2 21 3 0 3 0
    ∷ case settled end_1 send_a_1 m6_plan 2 0 0 0 0 0
    ∷ []
