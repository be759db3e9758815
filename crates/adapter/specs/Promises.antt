-- Demand 3, what a no means, what a settled plan does, what a check of a plan says, and what converting says, of choosing sheets and of texts, in the words of the entry
-- points' own contracts: what each ensures of its answer. The mode is the one that the entry point is told, or the paper's.
-- Assumes nothing.
use Rattle.std.specs.Prelude.{◌≡◌, true, List, ◌∷◌, ◌++◌, ℕ, ◌*◌, ◌≤◌, ◌<◌, length, take, T}
use Rattle.model.specs.Bytes.{byte}
use Rattle.model.specs.Contract.{Contract, has}
use Rattle.model.specs.Sheet.{Sheet, good, read_sheet, contract_in}
use Rattle.model.specs.Situation.{alike}
use Rattle.model.specs.Plan.{read_plan, rows_in, step_of}
use Rattle.model.specs.Test.{Mode, settled}
use Rattle.model.specs.Connect.{connect_of}
use Rattle.model.specs.Client.{complies_of}
use Rattle.model.specs.Run.{begin, Attempt, row_at_run, run_from, most_alone, Standstill}
use Rattle.model.specs.Demands.{Follows, Settles}
use Rattle.why.specs.Demanding.{demanding}
use Rattle.why.specs.Game.{Defeats}
use Rattle.plan.specs.Step.{stepped_of}
use Rattle.plan.specs.declared.Stepped.{Stepped}
use Rattle.comply.specs.Answer.{compliance_of}
use Rattle.comply.specs.declared.Compliance.{Compliance}
use Rattle.table.specs.declared.Record.{Record}
use Rattle.table.specs.Records.{blank}
use Rattle.connect.specs.Answers.{answer_of}
use Rattle.connect.specs.declared.Answer.{Answer}
use Rattle.edits.specs.Check.{check_plan_of}
use Rattle.edits.specs.Promises.{rank_of}
use Rattle.nodes.specs.declared.SheetAnswer as nodes
use Rattle.choosing.specs.Convert.{convert_into}
use Rattle.choosing.specs.Promises.{ConvertingSays}
use Rattle.nodes.specs.Answer.{written_by}
use Rattle.text.specs.Convert.{text_into, text_fault_of}
use Rattle.text.specs.Promises.{TextSays, FaultOf}

-- what holds of a plan's bytes, for a list of attempts with a client
pub record RunsByAnswers (k : ℕ) (client old : List ℕ) (user new : Contract) (bytes : List ℕ) (attempts : List Attempt) : Type 0 where
  -- at each attempt, what stepping answers is 0 and the row's next state if the row holds the code, else 16 and 0
  pub steps : (before after : List Attempt) (a : Attempt) → attempts ≡ before ++ a ∷ after
      → (answer : Stepped) → answer ≡ stepped_of (step_of bytes (run_from user new (rows_in bytes) begin before).plan a.code)
      → Follows (row_at_run user new (rows_in bytes) (run_from user new (rows_in bytes) begin before)) a.code
      (record { number = answer.number; state = answer.state })
  -- where the client check of client and old contract answers yes, a standstill has the success mark
  pub no_standstill : (answer : Compliance) → answer ≡ compliance_of (complies_of client old) → answer.number ≡ 0 → answer.yes ≡ true
      → (R S : ℕ) → Standstill user new (rows_in bytes) (run_from user new (rows_in bytes) begin attempts) R S → T (has R 14)
  -- at most 2 times k times n service-alone moves come in a row
  pub few_alone : most_alone user new (rows_in bytes) attempts ≤ 2 * k * new.n

-- Whatever connecting ensured of an accepting answer and of the lent plan, its first `length` bytes are a plan whose runs do not
-- hang.
abbrev pub EntryDemand-3 : Type 0
EntryDemand-3 =
    (mode : Mode) (k : ℕ) (old new : List ℕ) (answer : Answer) (work work' : List Record) (plan plan' : List ℕ) (client : List ℕ) (user : Sheet)
    (attempts : List Attempt)
    → record { answer = answer_of answer; plan = plan'; work = work' } ≡ connect_of blank mode k old new work plan → answer.number ≡ 0
    → read_sheet client ≡ good user
    → RunsByAnswers k client old user.contract (contract_in new) (take answer.length plan') attempts

-- Whatever connecting ensured of an accepting answer in the settled mode: no run of the plan stands still, for whichever client, where the old
-- state has an empty ready set and a message still waits for the service.
abbrev pub EntrySettledRuns : Type 0
EntrySettledRuns =
    (k : ℕ) (old new : List ℕ) (answer : Answer) (work work' : List Record) (plan plan' : List ℕ) (user : Contract) (attempts : List Attempt)
    → record { answer = answer_of answer; plan = plan'; work = work' } ≡ connect_of blank settled k old new work plan → answer.number ≡ 0
    → Settles k user (contract_in old) (contract_in new) (take answer.length plan') attempts

-- Whatever connecting ensured of an answer 12: the most demanding client that the old contract satisfies defeats every adapter.
abbrev pub EntryRefusedForGood : Type 0
EntryRefusedForGood =
    (mode : Mode) (k : ℕ) (old new : List ℕ) (answer : Answer) (work work' : List Record) (plan plan' : List ℕ)
    → record { answer = answer_of answer; plan = plan'; work = work' } ≡ connect_of blank mode k old new work plan → answer.number ≡ 12
    → Defeats mode (alike k) (contract_in old) (contract_in new) (demanding mode (contract_in old))

-- Whatever the check of a plan ensured of an accepting answer: the plan's runs do not hang, whoever wrote it.
abbrev pub EntryAnyHand : Type 0
EntryAnyHand =
    (mode : Mode) (old new plan : List ℕ) (answer : Answer) (work work' : List Record) (client : List ℕ) (user : Sheet) (attempts : List Attempt)
    → record { answer = answer_of answer; work = work' } ≡ check_plan_of blank mode old new plan work → answer.number ≡ 0
    → read_sheet client ≡ good user
    → RunsByAnswers (rank_of (read_plan plan)) client old user.contract (contract_in new) plan attempts

-- Whatever the check of a plan told settled ensured of an accepting answer: the plan does the same as one that was connected settled.
abbrev pub EntryAnyHandSettles : Type 0
EntryAnyHandSettles =
    (old new plan : List ℕ) (answer : Answer) (work work' : List Record) (user : Contract) (attempts : List Attempt)
    → record { answer = answer_of answer; work = work' } ≡ check_plan_of blank settled old new plan work → answer.number ≡ 0
    → Settles (rank_of (read_plan plan)) user (contract_in old) (contract_in new) plan attempts

-- Whatever connecting ensured of an accepting answer and of the lent plan, and the check of that plan in the same mode with a record per
-- plan state ensured of its answer: that answer is 0.
abbrev pub EntryOursPass : Type 0
EntryOursPass =
    (mode : Mode) (k : ℕ) (old new : List ℕ) (answer checked : Answer) (work work' records records' : List Record) (plan plan' : List ℕ)
    → record { answer = answer_of answer; plan = plan'; work = work' } ≡ connect_of blank mode k old new work plan → answer.number ≡ 0
    → answer.states ≤ length records
    → record { answer = answer_of checked; work = records' } ≡ check_plan_of blank mode old new (take answer.length plan') records
    → checked.number ≡ 0

-- Whatever converting ensured of its answer and of the lent output says what it should of the choosing sheet's bytes.
abbrev pub EntryConverting : Type 0
EntryConverting =
    (choosing : List ℕ) (answer : nodes.SheetAnswer) (sheet sheet' : List ℕ) → ((i : ℕ) → byte choosing i < 256)
    → written_by answer sheet' ≡ convert_into choosing sheet → ConvertingSays choosing sheet (written_by answer sheet')

-- Whatever converting a text ensured of its answer and of the lent output says what it should of the text.
abbrev pub EntryTyping : Type 0
EntryTyping =
    (text : List ℕ) (answer : nodes.SheetAnswer) (sheet sheet' : List ℕ)
    → written_by answer sheet' ≡ text_into text sheet → TextSays text sheet (written_by answer sheet')

-- And so does whatever the entry for the byte at fault ensured, of the number that converting answered: for 22 and 23 where, else 0.
abbrev pub EntryTextFault : Type 0
EntryTextFault =
    (text : List ℕ) (answer : nodes.SheetAnswer) (sheet sheet' : List ℕ) (fault : ℕ)
    → written_by answer sheet' ≡ text_into text sheet → fault ≡ text_fault_of text → FaultOf text answer.number fault
