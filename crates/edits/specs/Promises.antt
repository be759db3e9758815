-- What the check of a plan promises, in either mode: the page that an auditor reads. Document 02, requests 3/13 and 5/13.
-- Assumes nothing.
use Rattle.std.specs.Prelude.{◌≡◌, ◌↔◌, ◌⊎◌, ℕ, ◌≤◌, ◌<◌, length, T}
use mathlib.Core.List.{List, ◌∷◌, ◌++◌, map, Memᴰ}
use Rattle.std.proofs.Math.Option.{Option, none, some}
use Rattle.model.specs.Lists.{Distinct}
use Rattle.model.specs.Contract.{Contract, state}
use Rattle.model.specs.Sheet.{good, refusal, Refusal, plain, Both, Sheet, read_sheet, read_both, contract_in}
use Rattle.model.specs.Situation.{kind_of, start, alike, buffer_after}
use Rattle.model.specs.Test.{Mode, paper, settled, is_settled}
use Rattle.model.specs.Plan.{Move, Plan, read_plan}
use Rattle.model.specs.Connect.{limit_of, refused, connect_of}
use Rattle.model.specs.Run.{Attempt}
use Rattle.model.specs.Weak.{Covered, Hope, Rests, Waits, AsksAt}
use Rattle.model.specs.AtFault.{Carries, in_answer}
use Rattle.model.specs.Demands.{emitted_plan, Related, Runs, Settles}
use Rattle.edits.specs.Places.{Place, codes_in, row_here, places_walked, IsPlace}
use Rattle.edits.specs.Sound.{old_meets, new_meets}
use Rattle.edits.specs.Check.{PlanFault, no_fault, CheckedPlan, check_plan_of, plan_fault_of}

-- ---- any bytes are answered

-- what demand 1 says, of the check: a number of the table, counts of 0 0 0, and what was lent
pub record PlanAnswers {R : Type 0} (blank : R) (work : List R) (c : CheckedPlan R) : Type 0 where
  pub number : (c.answer.number ≤ 9) ⊎ ((c.answer.number ≡ 11) ⊎ ((c.answer.number ≡ 14) ⊎ (c.answer.number ≡ 21)))
  pub counts : (c.answer.situations ≡ 0) × (c.answer.states ≡ 0) × (c.answer.rounds ≡ 0) × (c.answer.length ≡ 0)
  pub unchanged : 1 ≤ c.answer.number → (c.answer.number ≤ 9) ⊎ (c.answer.number ≡ 14) → c.work ≡ work
  pub zero : (c.answer.number ≡ 0) ⊎ ((c.answer.number ≡ 11) ⊎ (c.answer.number ≡ 21)) → c.work ≡ map (λ r. blank) work

abbrev pub CheckAnswers : Type 1
CheckAnswers =
    (R : Type 0) (blank : R) (mode : Mode) (old new plan : List ℕ) (work : List R) → PlanAnswers blank work (check_plan_of blank mode old new plan work)

-- "Errors, in order: 1 to 9, 14, 9 again if the plan's n differs"
pub record RefusesFirst {R : Type 0} (blank : R) (mode : Mode) (old new plan : List ℕ) (work : List R) : Type 0 where
  -- a refusal of the sheets comes first, as connecting gives it
  pub of_sheets : (r : Refusal) → read_both 0 0 old new ≡ refusal r → (check_plan_of blank mode old new plan work).answer ≡ (refused r).answer
  -- then bytes that are no plan
  pub of_plan : (sheets : Both) → read_both 0 0 old new ≡ good sheets → read_plan plan ≡ none
      → (check_plan_of blank mode old new plan work).answer ≡ (refused (plain 14 0)).answer
  -- then a plan over other names
  pub of_names : (sheets : Both) (p : Plan) → read_both 0 0 old new ≡ good sheets → read_plan plan ≡ some p → (p.n ≡ sheets.one.n → ⊥)
      → (check_plan_of blank mode old new plan work).answer ≡ (refused (plain 9 0)).answer

abbrev pub CheckRefuses : Type 1
CheckRefuses = (R : Type 0) (blank : R) (mode : Mode) (old new plan : List ℕ) (work : List R) → RefusesFirst blank mode old new plan work

-- "refusals 4 to 7 carry it beside the state, all others 0" (document 02, request 6/13), the offset of the byte at fault: the check passes on
-- what a sheet is refused for
abbrev pub CheckCarries : Type 1
CheckCarries =
    (R : Type 0) (blank : R) (mode : Mode) (old new plan : List ℕ) (work : List R)
    → Carries old new (in_answer (check_plan_of blank mode old new plan work).answer)

-- ---- the check decides

-- x is the first of the list that P does not hold of
pub record FirstNot {A : Type 0} (P : A → Type 0) (l : List A) (x : A) : Type 0 where
  pub before : List A
  pub after : List A
  pub split : l ≡ before ++ x ∷ after
  pub holds : (y : A) → Memᴰ y before → P y
  pub fails : P x → ⊥

-- "the check of hand edits is told" the mode
module _ (mode : Mode) (limits : List ℕ) (old new : Contract) (rows : List (List Move)) where
  -- the codes of the row of a pair
  abbrev pub RowCode : Place → ℕ → Type 0
  RowCode x code = Memᴰ code (codes_in (row_here limits old new rows x))

  -- a code "keeps the buffer within 0 to k"
  abbrev pub Keeps : Place → ℕ → Type 0
  Keeps x code = (b : List ℕ) × (buffer_after limits x.at.buffer (kind_of code) ≡ some b)

  -- if the new state can meet the move, it is "one the old state can meet too"
  abbrev pub MetByBoth : Place → ℕ → Type 0
  MetByBoth x code = T (new_meets (state new x.at.new) (kind_of code)) → T (old_meets (state old x.at.old) (kind_of code))

  -- no move of the row breaks one of the first two conditions
  abbrev pub Keeping : Place → Type 0
  Keeping x = (code : ℕ) → RowCode x code → Keeps x code × MetByBoth x code

  -- the ready set S of the new state is answered, by condition (1) of definition 3.7
  abbrev pub Answered : Place → ℕ → Type 0
  Answered x S = ((R : ℕ) × Memᴰ R (state old x.at.old).ready × Covered (RowCode x) S R) ⊎ Hope (RowCode x) S

  -- what is asked "in each pair"
  pub record Sound (x : Place) : Type 0 where
    -- "every move of the row keeps the buffer within 0 to k"
    pub within : (code : ℕ) → RowCode x code → Keeps x code
    -- "every move that the new state can meet is one the old state can meet too"
    pub meets : (code : ℕ) → RowCode x code → MetByBoth x code
    -- "and the row as A passes 01's test": condition (1) of definition 3.7, and in the settled mode the second part
    pub passes : AsksAt mode old new (RowCode x) x.at

  -- every reached pair is sound
  abbrev pub IsSound : Type 0
  IsSound = (x : Place) → IsPlace limits old new rows x → Sound x

  -- what a number that is given after pairs were counted means
  pub record Judges (limit number : ℕ) : Type 0 where
    -- 11 exactly when more pairs are reached than the limit
    pub capacity : (number ≡ 11)
        ↔ ((l : List Place) × Distinct l × ((x : Place) → Memᴰ x l → IsPlace limits old new rows x) × (limit < length l))
    -- else "accept if and only if in each pair" all this holds
    pub accepts : (number ≡ 11 → ⊥) → (number ≡ 0) ↔ IsSound
    -- and 21 exactly if it does not
    pub refuses : (number ≡ 11 → ⊥) → (number ≡ 21) ↔ (IsSound → ⊥)

  -- what a fault says of a row: the first condition that fails, and the first code or ready set that breaks it
  pub data Breaks (x : Place) : (condition code ready : ℕ) → Type 0 where
    -- a move of the row does not keep the buffer
    outside : {code : ℕ} → FirstNot (Keeps x) (codes_in (row_here limits old new rows x)) code → Breaks x 1 code 0
    -- all do; the new state can meet a move of the row, and the old state cannot
    unmet : {code : ℕ} → ((c : ℕ) → RowCode x c → Keeps x c) → FirstNot (MetByBoth x) (codes_in (row_here limits old new rows x)) code
        → Breaks x 2 code 0
    -- no such move is there; a ready set of the new state is not answered
    unanswered : {S : ℕ} → Keeping x → FirstNot (Answered x) (state new x.at.new).ready S → Breaks x 3 0 S
    -- all are; the second part is asked, and a ready set of the new state has no action j with 32+j in the row
    undelivered : {S : ℕ} → Keeping x → ((S : ℕ) → Memᴰ S (state new x.at.new).ready → Answered x S)
        → T (is_settled mode) → Rests (state old x.at.old) → Waits x.at.buffer
        → FirstNot (Hope (RowCode x)) (state new x.at.new).ready S → Breaks x 4 0 S

  -- a fault is that of "the first unsound pair in the order of the walk"
  pub record Tells (limit : ℕ) (f : PlanFault) : Type 0 where
    pub first : FirstNot Sound (places_walked limits old new rows limit).done (record { plan = f.plan; at = f.at })
    pub breaks : Breaks (record { plan = f.plan; at = f.at }) f.blame.condition f.blame.code f.blame.ready

-- The check decides soundness, for two sheets and a plan over the same names.
abbrev pub CheckDecides : Type 1
CheckDecides =
    (R : Type 0) (blank : R) (mode : Mode) (old new plan : List ℕ) (work : List R) (sheets : Both) (p : Plan)
    → read_both 0 0 old new ≡ good sheets → read_plan plan ≡ some p → p.n ≡ sheets.one.n
    → Judges mode (alike p.k) sheets.one sheets.two p.rows (limit_of (length work))
    (check_plan_of blank mode old new plan work).answer.number

-- ---- what is at fault

-- "what is at fault where the answer is 21 ...; all zero for every other answer"; what was lent ends as with the check
pub record TellsFault {R : Type 0} (blank : R) (mode : Mode) (old new plan : List ℕ) (work : List R) : Type 0 where
  pub told : (sheets : Both) (p : Plan) → read_both 0 0 old new ≡ good sheets → read_plan plan ≡ some p
      → (check_plan_of blank mode old new plan work).answer.number ≡ 21
      → Tells mode (alike p.k) sheets.one sheets.two p.rows (limit_of (length work)) (plan_fault_of blank mode old new plan work).fault
  pub nothing : ((check_plan_of blank mode old new plan work).answer.number ≡ 21 → ⊥) → (plan_fault_of blank mode old new plan work).fault ≡ no_fault
  pub lent : (plan_fault_of blank mode old new plan work).work ≡ (check_plan_of blank mode old new plan work).work

abbrev pub FaultTells : Type 1
FaultTells = (R : Type 0) (blank : R) (mode : Mode) (old new plan : List ℕ) (work : List R) → TellsFault blank mode old new plan work

-- ---- plans from any hand

-- the k of the plan that bytes are; 0 if they are no plan
unfoldable pub rank_of : Option Plan → ℕ
rank_of none = 0
rank_of (some p) = p.k

-- "the no-standstill rule and its bound then cover accepted plans from any hand": what demand 3 says of an emitted plan
abbrev pub AnyHand : Type 1
AnyHand =
    (R : Type 0) (blank : R) (mode : Mode) (old new plan : List ℕ) (work : List R) (client : List ℕ) (user : Sheet) (attempts : List Attempt)
    → (check_plan_of blank mode old new plan work).answer.number ≡ 0 → read_sheet client ≡ good user
    → Runs (rank_of (read_plan plan)) user.contract (contract_in old) (contract_in new) plan attempts

-- "no run stands still, for whichever client, where the old state has an empty ready set and a message still waits for the service": what is
-- said of an emitted settled plan, of one that the check accepts in the settled mode
abbrev pub AnyHandSettles : Type 1
AnyHandSettles =
    (R : Type 0) (blank : R) (old new plan : List ℕ) (work : List R) (user : Contract) (attempts : List Attempt)
    → (check_plan_of blank settled old new plan work).answer.number ≡ 0
    → Settles (rank_of (read_plan plan)) user (contract_in old) (contract_in new) plan attempts

-- What is accepted in the settled mode is accepted in the paper's: the settled test is the paper's with a second part.
abbrev pub SettledStricter : Type 1
SettledStricter =
    (R : Type 0) (blank : R) (old new plan : List ℕ) (work : List R) → (check_plan_of blank settled old new plan work).answer.number ≡ 0
    → (check_plan_of blank paper old new plan work).answer.number ≡ 0

-- "Every plan we emit is accepted with its own sheets and a record per plan state", by the check told the mode that it was emitted in
abbrev pub OursPass : Type 1
OursPass =
    (R Q : Type 0) (blank : R) (empty : Q) (mode : Mode) (k : ℕ) (old new : List ℕ) (work : List R) (plan : List ℕ) (records : List Q)
    → (connect_of blank mode k old new work plan).answer.number ≡ 0
    → (connect_of blank mode k old new work plan).answer.states ≤ length records
    → (check_plan_of empty mode old new (emitted_plan (connect_of blank mode k old new work plan)) records).answer.number ≡ 0

-- A pair of sheets for which some plan is accepted connects: the situations of the reached pairs are a relation of definition 3.7, with what
-- the mode asks.
abbrev pub AcceptedConnects : Type 1
AcceptedConnects =
    (R : Type 0) (blank : R) (mode : Mode) (old new plan : List ℕ) (work : List R)
    → (check_plan_of blank mode old new plan work).answer.number ≡ 0
    → Related (AsksAt mode (contract_in old) (contract_in new)) (rank_of (read_plan plan)) (contract_in old) (contract_in new) start
