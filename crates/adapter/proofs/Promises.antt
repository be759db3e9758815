-- The promises over the entry points' contracts. What connecting ensures is what `connect_of` gives, the check of a plan `check_plan_of`, and
-- converting `convert_into` and `text_into`; so `demand-3`, `settled-runs`, `refused-for-good`, `any-hand`, `any-hand-settles`, `ours-pass`,
-- `converting`, `typing` and `fault-says` speak of them.
-- Assumes nothing.
use mathlib.Core.Path.{◌≡◌, sym, ap, subst, subst⁻¹, ◌∙◌}
use mathlib.Core.List.{List}
use Prim.Native.Nat.{ℕ, ◌≤◌}
use lib.ListN.{length, take}
use Rattle.model.specs.Test.{Mode, settled}
use Rattle.model.specs.Connect.{Connected, connect_of}
use Rattle.model.specs.Sheet.{Sheet, good, read_sheet, contract_in}
use Rattle.model.specs.Plan as model
use Rattle.model.specs.Plan.{read_plan}
use Rattle.model.specs.Run.{Attempt}
use Rattle.model.specs.Demands.{emitted_plan, Follows, Runs, Settles}
use Rattle.model.proofs.ClientCheck.{yes-complies}
use Rattle.model.proofs.Demand3.{demand-3, settled-runs}
use Rattle.why.proofs.NoMeansNone.{refused-for-good}
use Rattle.table.specs.declared.Record.{Record}
use Rattle.table.specs.Records.{blank}
use Rattle.plan.specs.Step.{stepped_of}
use Rattle.plan.specs.declared.Stepped.{Stepped}
use Rattle.comply.specs.Answer.{compliance_of}
use Rattle.connect.specs.Answers.{answer_of}
use Rattle.connect.specs.declared.Answer.{Answer}
use Rattle.comply.specs.declared.Compliance.{Compliance}
use Rattle.edits.specs.Check.{CheckedPlan, check_plan_of}
use Rattle.edits.specs.Promises.{rank_of}
use Rattle.edits.proofs.AnyHand.{any-hand, any-hand-settles}
use Rattle.edits.proofs.Ours.{ours-pass}
use Rattle.choosing.specs.Promises.{ConvertingSays}
use Rattle.choosing.proofs.Says.{converting}
use Rattle.nodes.specs.Answer.{Written, written_by}
use Rattle.text.specs.Convert.{text_into}
use Rattle.text.specs.Promises.{TextSays, FaultOf}
use Rattle.text.proofs.Says.{typing}
use Rattle.text.proofs.Faults.{fault-says}
use Rattle.adapter.specs.Promises.{RunsByAnswers, EntryDemand-3, EntrySettledRuns, EntryRefusedForGood, EntryAnyHand, EntryAnyHandSettles}
use Rattle.adapter.specs.Promises.{EntryOursPass, EntryConverting, EntryTyping, EntryTextFault}

module _ (mode : Mode) (k : ℕ) (old new : List ℕ) (answer : Answer) (work work' : List Record) (plan plan' : List ℕ)
    (ensured : record { answer = answer_of answer; plan = plan'; work = work' } ≡ connect_of blank mode k old new work plan) where
  same_bytes : emitted_plan (connect_of blank mode k old new work plan) ≡ take answer.length plan'
  unfolding answer_of
  same_bytes = ap emitted_plan (sym ensured)

  number_is : (number : ℕ) → answer.number ≡ number → (connect_of blank mode k old new work plan).answer.number ≡ number
  unfolding answer_of
  number_is number z = ap (λ (c : Connected Record). c.answer.number) (sym ensured) ∙ z

  same-states : answer.states ≡ (connect_of blank mode k old new work plan).answer.states
  unfolding answer_of
  same-states = ap (λ (c : Connected Record). c.answer.states) ensured

check-number : (mode : Mode) (old new plan : List ℕ) (answer : Answer) (work work' : List Record)
    → record { answer = answer_of answer; work = work' } ≡ check_plan_of blank mode old new plan work
    → answer.number ≡ (check_plan_of blank mode old new plan work).answer.number
unfolding answer_of
check-number mode old new plan answer work work' ensured = ap (λ (c : CheckedPlan Record). c.answer.number) ensured

-- a record of the answer's fields is what stepping gives
same_step : (answer : Stepped) (s : model.Stepped) → answer ≡ stepped_of s → record { number = answer.number; state = answer.state } ≡ s
unfolding stepped_of
same_step answer s e = λ i. record { number = (e i).number; state = (e i).state }

-- what is said of the runs of a plan, in the words of what stepping and the client check answer
runs-by-answers : (k : ℕ) (client old new bytes : List ℕ) (user : Sheet) (attempts : List Attempt) → read_sheet client ≡ good user
    → Runs k user.contract (contract_in old) (contract_in new) bytes attempts
    → RunsByAnswers k client old user.contract (contract_in new) bytes attempts
unfolding compliance_of
runs-by-answers k client old new bytes user attempts read r =
    record {
      steps = λ before after a e s q. subst⁻¹ (Follows _ a.code) (same_step s _ q) (r.steps before after a e);
      no_standstill = λ c q number yes.
          r.no_standstill
          (yes-complies client old user read
          (ap (λ (c : Compliance). c.number) (sym q) ∙ number, ap (λ (c : Compliance). c.yes) (sym q) ∙ yes));
      few_alone = r.few_alone;
    }

pub entry-demand-3 : EntryDemand-3
entry-demand-3 mode k old new answer work work' plan plan' client user attempts ensured z read =
    runs-by-answers k client old new (take answer.length plan') user attempts read
    (subst (λ (b : List ℕ). Runs k user.contract (contract_in old) (contract_in new) b attempts)
    (same_bytes mode k old new answer work work' plan plan' ensured)
    (demand-3 Record blank mode k old new work plan client user attempts (number_is mode k old new answer work work' plan plan' ensured 0 z) read))

pub entry-settled-runs : EntrySettledRuns
entry-settled-runs k old new answer work work' plan plan' user attempts ensured z =
    subst (λ (b : List ℕ). Settles k user (contract_in old) (contract_in new) b attempts)
    (same_bytes settled k old new answer work work' plan plan' ensured)
    (settled-runs Record blank k old new work plan user attempts (number_is settled k old new answer work work' plan plan' ensured 0 z))

pub entry-any-hand-settles : EntryAnyHandSettles
entry-any-hand-settles old new plan answer work work' user attempts ensured z =
    any-hand-settles Record blank old new plan work user attempts (sym (check-number settled old new plan answer work work' ensured) ∙ z)

pub entry-any-hand : EntryAnyHand
entry-any-hand mode old new plan answer work work' client user attempts ensured z read =
    runs-by-answers (rank_of (read_plan plan)) client old new plan user attempts read
    (any-hand Record blank mode old new plan work client user attempts (sym (check-number mode old new plan answer work work' ensured) ∙ z) read)

pub entry-ours-pass : EntryOursPass
entry-ours-pass mode k old new answer checked work work' records records' plan plan' ensured z enough again =
    check-number mode old new (take answer.length plan') checked records records' again
    ∙ ap (λ (b : List ℕ). (check_plan_of blank mode old new b records).answer.number)
    (sym (same_bytes mode k old new answer work work' plan plan' ensured))
    ∙ ours-pass Record Record blank blank mode k old new work plan records (number_is mode k old new answer work work' plan plan' ensured 0 z)
    (subst (λ (n : ℕ). n ≤ length records) (same-states mode k old new answer work work' plan plan' ensured) enough)

pub entry-refused-for-good : EntryRefusedForGood
entry-refused-for-good mode k old new answer work work' plan plan' ensured z =
    refused-for-good Record blank mode k old new work plan (number_is mode k old new answer work work' plan plan' ensured 12 z)

pub entry-converting : EntryConverting
entry-converting choosing answer sheet sheet' small ensured =
    subst⁻¹ (ConvertingSays choosing sheet) ensured (converting choosing sheet small)

pub entry-typing : EntryTyping
entry-typing text answer sheet sheet' ensured = subst⁻¹ (TextSays text sheet) ensured (typing text sheet)

pub entry-text-fault : EntryTextFault
unfolding written_by
entry-text-fault text answer sheet sheet' fault ensured is =
    subst⁻¹ (λ (n : ℕ). FaultOf text n fault) (ap (λ (w : Written). w.number) ensured)
    (subst⁻¹ (FaultOf text (text_into text sheet).number) is (fault-says text sheet))
