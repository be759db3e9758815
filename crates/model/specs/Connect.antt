-- Connecting: the whole answer for any bytes. Document 01, "Which pairs connect" and "Refusals and their order".
-- Assumes nothing.
use Rattle.std.specs.Prelude.{Bool, cond, ◌||◌, List, [], ◌∷◌, ◌++◌, map, ℕ, min, length, drop, eqb, ltb, leb}
use Rattle.model.specs.Contract.{Contract}
use Rattle.model.specs.Sheet.{Reading, good, refusal, Both, Refusal, plain, read_both}
use Rattle.model.specs.Situation.{Situation, same, start, alike, codes, next}
use Rattle.model.specs.Test.{Mode, test}
use Rattle.model.specs.Search.{search_from, member}
use Rattle.model.specs.Rounds.{Sifted, sifted}
use Rattle.model.specs.Plan.{Move, plan_rows, plan_bytes}

-- what connecting answers: number, sheet and state, with "the offset of the byte at fault ... beside the state" (document 02, request
-- 6/13); "Counts (situations, plan states, rounds)"; "the plan's length, 0 on a refusal"
pub record Answer : Type 0 where
  pub number : ℕ
  pub sheet : ℕ
  pub state : ℕ
  pub offset : ℕ
  pub situations : ℕ
  pub states : ℕ
  pub rounds : ℕ
  pub length : ℕ

-- the answer, and the bytes that go into the front of the lent plan
pub record Outcome : Type 0 where
  pub answer : Answer
  pub bytes : List ℕ

-- a refusal 1 to 11: the counts are 0 0 0
unfoldable pub refused : Refusal → Outcome
refused r =
    record {
      answer =
          record {
            number = r.number;
            sheet = r.sheet;
            state = r.state;
            offset = r.offset;
            situations = 0;
            states = 0;
            rounds = 0;
            length = 0;
          };
      bytes = [];
    }

-- an answer given after situations were counted, with the plan that is written
unfoldable pub counted : (number situations states rounds : ℕ) → List ℕ → Outcome
counted number situations states rounds bytes =
    record {
      answer =
          record {
            number = number;
            sheet = 0;
            state = 0;
            offset = 0;
            situations = situations;
            states = states;
            rounds = rounds;
            length = length bytes;
          };
      bytes = bytes;
    }

-- 13, "the plan is longer than the lent plan", or acceptance; "for 13 all are real"
unfoldable pub emitted : (n k room situations rounds : ℕ) → List (List Move) → Outcome
emitted n k room situations rounds rows =
    let bytes = plan_bytes n k rows in
    cond (leb (length bytes) room) (counted 0 situations (length rows) rounds bytes) (counted 13 situations (length rows) rounds [])

module _ (k : ℕ) (old new : Contract) where
  -- the plan's rows, for the situations that never leave
  unfoldable pub rows_for : List Situation → List (List Move)
  rows_for kept = plan_rows same codes (next (alike k) old new) kept start

-- with a test of situations, A being the codes of the moves that count
module _ (passes : (A : List ℕ) → Situation → Bool) (k : ℕ) (old new : Contract) where
  -- what never leaves, and the rounds figure
  unfoldable pub sifted_of : List Situation → Sifted Situation
  sifted_of reached = sifted same codes (next (alike k) old new) passes reached

  -- 12, "the start is removed", or what follows; "for 12 the plan states are 0"
  unfoldable pub related : (room : ℕ) → List Situation → Outcome
  related room reached =
      let left = sifted_of reached in
      cond (member same start left.kept) (emitted old.n k room (length reached) left.rounds (rows_for k old new left.kept))
      (counted 12 (length reached) 0 left.rounds [])

  -- 11, "reached situations exceed the lent records or 4,096": the search was cut off. Or what follows.
  unfoldable pub found : (room : ℕ) → (reached beyond : List Situation) → Outcome
  found room reached [] = related room reached
  found room reached (s ∷ beyond) = refused (plain 11 0)

  -- refusals 11 to 13 and acceptance
  unfoldable pub connected : (limit room : ℕ) → Outcome
  connected limit room =
      let search = search_from same codes (next (alike k) old new) limit start in
      found room search.done search.todo

-- no situations above the lent records or 4,096
unfoldable pub limit_of : ℕ → ℕ
limit_of records = min records 4096

-- 10, "k above 3", or what follows
unfoldable pub ranked : Mode → (k records room : ℕ) → Reading Refusal Both → Outcome
ranked mode k records room (refusal r) = refused r
ranked mode k records room (good sheets) =
    cond (leb k 3) (connected (test mode sheets.one sheets.two) k sheets.one sheets.two (limit_of records) room)
    (refused (plain 10 0))

-- the answer and the plan, for so many lent records and so much room for the plan
unfoldable pub outcome_of : Mode → (records room k : ℕ) → (old new : List ℕ) → Outcome
outcome_of mode records room k old new = ranked mode k records room (read_both 0 0 old new)

-- an answer after which each record is zero: acceptance, or a refusal above 10
unfoldable pub clears : ℕ → Bool
clears number = eqb number 0 || ltb 10 number

-- The answer, and what was lent as it is afterwards.
pub record Connected (R : Type 0) : Type 0 where
  pub answer : Answer
  pub plan : List ℕ
  pub work : List R

-- The whole outcome of connecting, `blank` being the record that "is zero". The plan: "bytes beyond it are untouched".
-- The work table: "unchanged by refusals 1 to 10 ...; after every other call, accepted ones included, each record in it is
-- zero".
unfoldable pub connect_of : {R : Type 0} → R → Mode → (k : ℕ) → (old new : List ℕ) → (work : List R) → (plan : List ℕ) → Connected R
connect_of blank mode k old new work plan =
    let o = outcome_of mode (length work) (length plan) k old new in
    record {
      answer = o.answer;
      plan = o.bytes ++ drop (length o.bytes) plan;
      work = cond (clears o.answer.number) (map (λ r. blank) work) work;
    }
