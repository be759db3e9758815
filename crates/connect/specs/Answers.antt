-- The answer of connecting, for what the model gives.
-- Assumes nothing.
use Rattle.std.specs.Prelude.{◌≡◌, false, List, [], ℕ, ◌≤◌, Result, Ok, Err}
use Rattle.model.specs.Sheet.{contract_in}
use Rattle.model.specs.Connect as model
use Rattle.model.specs.Connect.{Outcome, connected, limit_of, outcome_of, clears}
use Rattle.sheet.specs.Whole.{IsSheet}
use Rattle.moves.specs.declared.Mode.{Mode}
use Rattle.moves.specs.Modes.{mode_of, test_of}
use Rattle.little_endian.specs.Front.{front}
use Rattle.pair.specs.Pairs.{refusal_of}
use Rattle.connect.specs.declared.Accepted.{Accepted}
use Rattle.connect.specs.declared.Answer.{Answer}
use Rattle.connect.specs.declared.NoPlan.{NoPlan}
use Rattle.connect.specs.declared.NoPlan.TheVariants.{Pair, Rank, Capacity, NoAdapter, Room}

-- the model's answer that a struct holds
unfoldable pub answer_of : Answer → model.Answer
answer_of r =
    record {
      number = r.number;
      sheet = r.sheet;
      state = r.state;
      offset = r.offset;
      situations = r.situations;
      states = r.states;
      rounds = r.rounds;
      length = r.length;
    }

-- "Counts (situations, plan states, rounds): 0 0 0 for 1 to 11": the answer of such a refusal
unfoldable pub refusing : (number sheet state offset : ℕ) → model.Answer
refusing number sheet state offset =
    record {
      number = number;
      sheet = sheet;
      state = state;
      offset = offset;
      situations = 0;
      states = 0;
      rounds = 0;
      length = 0;
    }

-- an answer given after situations were counted
unfoldable pub counting : (number situations states rounds length : ℕ) → model.Answer
counting number situations states rounds length =
    record { number = number; sheet = 0; state = 0; offset = 0; situations = situations; states = states; rounds = rounds; length = length }

-- what a refusal answers: its number in document 01's table, for 1 to 9 what the pair's refusal says, and for 12 and 13 counts
abbrev pub answer_for : NoPlan → model.Answer
answer_for (Pair why) = let r = refusal_of why in refusing r.number r.sheet r.state r.offset
answer_for Rank = refusing 10 0 0 0
answer_for Capacity = refusing 11 0 0 0
answer_for (NoAdapter situations rounds) = counting 12 situations 0 rounds 0
answer_for (Room situations states rounds) = counting 13 situations states rounds 0

-- what a plan that is written answers
abbrev pub answer_with : Accepted → model.Answer
answer_with a = counting 0 a.situations a.states a.rounds a.length

-- either
abbrev pub answer_in : Result Accepted NoPlan → model.Answer
answer_in (Ok accepted) = answer_with accepted
answer_in (Err why) = answer_for why

-- what follows for two sheets that are admitted, with so many records and so much room lent
abbrev pub connected_from : Mode → (k : ℕ) (old new : List ℕ) (records room : ℕ) → Outcome
connected_from mode k old new records room = connected (test_of mode old new) k (contract_in old) (contract_in new) (limit_of records) room

-- an outcome is answered, and its bytes stand in front of the lent plan
pub record Writes (o : Outcome) (r : Result Accepted NoPlan) (plan plan' : List ℕ) : Type 0 where
  pub answer : answer_in r ≡ o.answer
  pub written : plan' ≡ front o.bytes plan

-- the check of the sheets, of the pair and of k admits them, and what follows is the outcome
pub record Admitted (k : ℕ) (old new : List ℕ) : Type 0 where
  pub old_sheet : IsSheet old
  pub new_sheet : IsSheet new
  pub rank : k ≤ 3
  pub good : (mode : Mode) (records room : ℕ) → outcome_of (mode_of mode) records room k old new ≡ connected_from mode k old new records room

-- or it refuses them, which is the outcome already and leaves the records as they were
pub record Refused (k : ℕ) (old new : List ℕ) (why : NoPlan) : Type 0 where
  pub bad : (mode : Mode) (records room : ℕ) → outcome_of (mode_of mode) records room k old new ≡ record { answer = answer_for why; bytes = [] }
  pub uncleared : clears (answer_for why).number ≡ false

abbrev pub Admits : (k : ℕ) (old new : List ℕ) → Result (Unit {0}) NoPlan → Type 0
Admits k old new (Ok admitted) = Admitted k old new
Admits k old new (Err why) = Refused k old new why
