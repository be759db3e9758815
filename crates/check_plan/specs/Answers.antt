-- The answer of the check of a plan, part by part.
-- Assumes nothing.
use Rattle.std.specs.Prelude.{◌≡◌, true, false, List, ℕ, length, Option, None, Some, Result, Ok, Err}
use Rattle.std.proofs.Math.Option.{some}
use Rattle.model.specs.Sheet.{Refusal, plain, read_both, contract_in}
use Rattle.model.specs.Situation.{alike}
use Rattle.model.specs.Test as model
use Rattle.model.specs.Plan.{read_plan, rows_in}
use Rattle.model.specs.Connect as connect
use Rattle.model.specs.Connect.{refused, limit_of}
use Rattle.sheet.specs.Whole.{IsSheet}
use Rattle.pair.specs.Pairs.{refusal_of}
use Rattle.moves.specs.declared.Mode.{Mode}
use Rattle.moves.specs.Modes.{mode_of}
use Rattle.connect.specs.Answers.{refusing}
use Rattle.table.specs.declared.Record.{Record}
use Rattle.table.specs.Records.{cleared}
use Rattle.reached.specs.declared.Full.{Full}
use Rattle.edits.specs.Check.{PlanFault, no_fault, walked, fault_walked, verdict_of, fault_of, after_pairs}
use Rattle.edits_walk.specs.declared.Unsound as pairs
use Rattle.edits_walk.specs.Faults.{unsound_by}
use Rattle.edits_walk.specs.Walk as walk
use Rattle.check_plan.specs.declared.Refusal as declared
use Rattle.check_plan.specs.declared.Refusal.TheVariants.{Pair, NoPlan, Names, Capacity, Unsound}

-- what is answered: 1 to 9 of the sheets; "14, 9 again if the plan's n differs, 11 counted over all reached pairs, 21 unsound plan"
abbrev pub answer_for : declared.Refusal → connect.Answer
answer_for (Pair refusal) = let r = refusal_of refusal in refusing r.number r.sheet r.state r.offset
answer_for NoPlan = refusing 14 0 0 0
answer_for Names = refusing 9 0 0 0
answer_for Capacity = refusing 11 0 0 0
answer_for (Unsound unsound) = refusing 21 0 0 0

abbrev pub answer_in : Result (Unit {0}) declared.Refusal → connect.Answer
answer_in (Ok x) = refusing 0 0 0 0
answer_in (Err why) = answer_for why

-- what is at fault: something only in an unsound pair
abbrev pub fault_for_why : declared.Refusal → PlanFault
fault_for_why (Pair refusal) = no_fault
fault_for_why NoPlan = no_fault
fault_for_why Names = no_fault
fault_for_why Capacity = no_fault
fault_for_why (Unsound unsound) = unsound_by unsound

abbrev pub fault_in : Result (Unit {0}) declared.Refusal → PlanFault
fault_in (Ok x) = no_fault
fault_in (Err why) = fault_for_why why

-- "11 counted over all reached pairs, 21 unsound plan"
abbrev pub number_of_walk : Result (Option pairs.Unsound) Full → ℕ
number_of_walk (Ok None) = 0
number_of_walk (Ok (Some unsound)) = 21
number_of_walk (Err full) = 11

-- the answer for any bytes, and what is at fault, as the definition gives them with so many pairs at most
abbrev pub verdict_in : (mode : model.Mode) (old new plan : List ℕ) (limit : ℕ) → Refusal
verdict_in mode old new plan limit = verdict_of mode limit (read_both 0 0 old new) (read_plan plan)

abbrev pub fault_for : (mode : model.Mode) (old new plan : List ℕ) (limit : ℕ) → PlanFault
fault_for mode old new plan limit = fault_of mode limit (read_both 0 0 old new) (read_plan plan)

-- neither the sheets nor the plan nor its names are refused: the walk decides, in either mode
pub record AdmittedPlan (old new plan : List ℕ) : Type 0 where
  pub old_sheet : IsSheet old
  pub new_sheet : IsSheet new
  pub names : ℕ
  pub rank : ℕ
  pub is_plan : read_plan plan ≡ some (record { n = names; k = rank; rows = rows_in plan })
  pub number : (mode : model.Mode) (limit : ℕ)
      → verdict_in mode old new plan limit ≡ plain (walked mode (alike rank) (contract_in old) (contract_in new) (rows_in plan) limit) 0
  pub fault : (mode : model.Mode) (limit : ℕ)
      → fault_for mode old new plan limit ≡ fault_walked mode (alike rank) (contract_in old) (contract_in new) (rows_in plan) limit

-- one of them is refused: that is the answer already, in either mode, and leaves the records as they were
pub record RefusedPlan (old new plan : List ℕ) (why : declared.Refusal) : Type 0 where
  pub answer : (mode : model.Mode) (limit : ℕ) → (refused (verdict_in mode old new plan limit)).answer ≡ answer_for why
  pub fault : (mode : model.Mode) (limit : ℕ) → fault_for mode old new plan limit ≡ no_fault
  pub silent : fault_for_why why ≡ no_fault
  pub before : after_pairs (answer_for why).number ≡ false

-- what is answered before pairs are counted: nothing, or a refusal
abbrev pub AdmitsPlan : (old new plan : List ℕ) → Result (Unit {0}) declared.Refusal → Type 0
AdmitsPlan old new plan (Ok x) = AdmittedPlan old new plan
AdmitsPlan old new plan (Err why) = RefusedPlan old new plan why

-- what a walk comes to is the answer, and each record is zero
pub record WalksPlan (mode : Mode) (old new plan : List ℕ) (r : Result (Option pairs.Unsound) Full) (ys ys' : List Record) : Type 0 where
  pub number : verdict_in (mode_of mode) old new plan (limit_of (length ys)) ≡ plain (number_of_walk r) 0
  pub fault : fault_for (mode_of mode) old new plan (limit_of (length ys)) ≡ walk.fault_in r
  pub after : after_pairs (number_of_walk r) ≡ true
  pub zero : ys' ≡ cleared ys
