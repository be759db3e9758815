-- Runs to compute. Document 01, "The client check and the run": attempts with the plans of M13, M8 and one more pair, and what
-- the run comes to.
-- Assumes nothing.
use Rattle.std.specs.Prelude.{Bool, true, false, List, [], ◌∷◌, ℕ}
use Rattle.model.specs.Run.{Run, Attempt}
use Rattle.model.specs.Cases.{take_a_2, internal_2, take_c_take_a_3, take_a_take_c_3}

-- ---- the sheets that the cases M1 to M13 have not, each named for its term and its n; a client's end is its success mark

-- a.!a for ever
abbrev pub reply_for_ever_1 : List ℕ
reply_for_ever_1 = 0x01 ∷ 0x01 ∷ 0x00 ∷ 0x01 ∷ 0x01 ∷ 0x80 ∷ 0x00 ∷ 0x00 ∷ 0x00 ∷ 0x00 ∷ 0x04 ∷ 0x00 ∷ 0x08 ∷ 0x00 ∷ 0x02 ∷ 0x01 ∷ 0x00 ∷ 0xC5 ∷ []

-- the client !a.a for ever
abbrev pub ask_for_ever_1 : List ℕ
ask_for_ever_1 = 0x01 ∷ 0x80 ∷ 0x00 ∷ 0x01 ∷ 0x01 ∷ 0x01 ∷ 0x00 ∷ 0x00 ∷ 0x00 ∷ 0x00 ∷ 0x04 ∷ 0x00 ∷ 0x08 ∷ 0x00 ∷ 0x02 ∷ 0x01 ∷ 0x01 ∷ 0xC5 ∷ []

-- the client !a(+)0, which may also be content at once
abbrev pub ask_or_end_2 : List ℕ
ask_or_end_2 = 0x02 ∷ 0x80 ∷ 0x00 ∷ 0x00 ∷ 0x40 ∷ 0x01 ∷ 0x01 ∷ 0x00 ∷ 0x40 ∷ 0x00 ∷ 0x00 ∷ 0x06 ∷ 0x00 ∷ 0x09 ∷ 0x00 ∷ 0x02 ∷ 0x02 ∷ 0x01 ∷ 0xC5 ∷ []

-- the client !c.!a
abbrev pub send_c_send_a_3 : List ℕ
send_c_send_a_3 = 0x01 ∷ 0x00 ∷ 0x02 ∷ 0x01 ∷ 0x01 ∷ 0x80 ∷ 0x00 ∷ 0x02 ∷ 0x01 ∷ 0x00 ∷ 0x40 ∷ 0x00 ∷ 0x00 ∷ 0x04 ∷ 0x00 ∷ 0x08 ∷ 0x00 ∷ 0x0B ∷ 0x00 ∷ 0x03 ∷ 0x03 ∷ 0x01 ∷ 0xC5 ∷ []

-- the client !c.!b
abbrev pub send_c_send_b_3 : List ℕ
send_c_send_b_3 = 0x01 ∷ 0x00 ∷ 0x02 ∷ 0x01 ∷ 0x01 ∷ 0x00 ∷ 0x01 ∷ 0x02 ∷ 0x01 ∷ 0x00 ∷ 0x40 ∷ 0x00 ∷ 0x00 ∷ 0x04 ∷ 0x00 ∷ 0x08 ∷ 0x00 ∷ 0x0B ∷ 0x00 ∷ 0x03 ∷ 0x03 ∷ 0x01 ∷ 0xC5 ∷ []

-- ---- the list

-- "A choice is an R and an S"
pub record Choice : Type 0 where
  pub R : ℕ
  pub S : ℕ

-- what a run comes to
pub record RunFigures : Type 0 where
  -- the client complies with the old contract
  pub complies : Bool
  -- "three states, client, service and plan", after the list
  pub ends : Run
  -- the most moves of codes 32+j that come in a row
  pub alone : ℕ
  -- "at most 2 times k times n"
  pub most : ℕ
  -- all choices that are standstills after the list
  pub standstills : List Choice

-- a pair that connects, a client, and the attempts that the run is fed
pub record RunCase : Type 0 where
  pub old : List ℕ
  pub new : List ℕ
  pub k : ℕ
  pub client : List ℕ
  pub attempts : List Attempt
  pub says : RunFigures

abbrev try : (R S code : ℕ) → Attempt
try R S code = record { R = R; S = S; code = code }

abbrev stand : (R S : ℕ) → Choice
stand R S = record { R = R; S = S }

abbrev coming : Bool → (client service plan alone most : ℕ) → List Choice → RunFigures
coming complies client service plan alone most standstills =
    record { complies = complies; ends = record { client = client; service = service; plan = plan }; alone = alone; most = most; standstills = standstills }

-- M13
abbrev m13 : List ℕ → List Attempt → RunFigures → RunCase
m13 client attempts says =
    record { old = take_c_take_a_3; new = take_a_take_c_3; k = 1; client = client; attempts = attempts; says = says }

-- M8, whose new service has two ready sets
abbrev m8 : List Attempt → RunFigures → RunCase
m8 attempts says = record { old = take_a_2; new = internal_2; k = 1; client = ask_or_end_2; attempts = attempts; says = says }

-- a service behind itself
abbrev itself : List Attempt → RunFigures → RunCase
itself attempts says =
    record { old = reply_for_ever_1; new = reply_for_ever_1; k = 1; client = ask_for_ever_1; attempts = attempts; says = says }

unfoldable pub runs : List RunCase
runs =
    -- c waits, a is passed straight, c is delivered: the end, a standstill with the success mark
    m13 send_c_send_a_3 (try 0x200 0x01 18 ∷ try 0x80 0x01 0 ∷ try 0x4000 0x04 34 ∷ []) (coming true 2 2 4 1 6 (stand 0x4000 0x00 ∷ []))
    -- both wait and are delivered in a row, with two refused attempts between: a code that the row does not hold, masks that
    -- are no choice
    ∷ m13 send_c_send_a_3
    (try 0x200 0x01 18 ∷ try 0x80 0x01 16 ∷ try 0x4000 0x01 32 ∷ try 0x4000 0x04 36 ∷ try 0x4000 0x01 34 ∷ try 0x4000 0x04 34 ∷ [])
    (coming true 2 2 4 2 6 (stand 0x4000 0x00 ∷ []))
    -- masks that are no choice: of another client state, of another service state, each with an action too many
    ∷ m13 send_c_send_a_3 (try 0x80 0x01 18 ∷ try 0x200 0x04 18 ∷ try 0x280 0x01 18 ∷ try 0x200 0x05 18 ∷ []) (coming true 0 0 0 0 6 [])
    -- codes that the row does not hold: one whose need is met, two in no range, and one of the row before
    ∷ m13 send_c_send_a_3 (try 0x200 0x01 32 ∷ try 0x200 0x01 14 ∷ try 0x200 0x01 255 ∷ try 0x200 0x01 18 ∷ try 0x80 0x01 32 ∷ try 0x80 0x01 18 ∷ [])
    (coming true 1 0 1 0 6 [])
    -- needs that are not met: j not in S, the partner not in R; a client that may be content at once stands still only with the
    -- success mark
    ∷ m8 (try 0x80 0x02 0 ∷ try 0x4000 0x01 0 ∷ try 0x4000 0x01 16 ∷ []) (coming true 0 0 0 0 4 (stand 0x4000 0x01 ∷ stand 0x4000 0x02 ∷ []))
    -- 32+j whose j is not in S: with that S the choice is a standstill, with the service's other ready set it is not
    ∷ m8 (try 0x80 0x02 16 ∷ try 0x4000 0x02 32 ∷ []) (coming true 1 0 2 0 4 (stand 0x4000 0x02 ∷ []))
    -- a taken and a sent by the service alone, as many in a row as the bound allows; the client's moves end the row
    ∷ itself (try 0x80 0x01 16 ∷ try 0x01 0x01 32 ∷ try 0x01 0x80 39 ∷ try 0x01 0x01 23 ∷ try 0x80 0x01 16 ∷ try 0x01 0x01 32 ∷ [])
    (coming true 1 1 1 2 2 [])
    -- a client that does not comply comes to a standstill without the success mark
    ∷ m13 send_c_send_b_3 (try 0x200 0x01 18 ∷ try 0x100 0x01 0 ∷ try 0x100 0x01 16 ∷ []) (coming false 1 0 1 0 6 (stand 0x100 0x01 ∷ []))
    ∷ []
