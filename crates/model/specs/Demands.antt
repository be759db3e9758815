-- What is promised: the three demands, what a yes of the client check means, and what the settled mode does, as types. They are proved by
-- `demand-1`, `demand-2`, `demand-3` and `client-check` of proofs/Demand1.antt, Demand2.antt, Demand3.antt and ClientCheck.antt, and by
-- `settled-runs` and `settled-refuses` of Demand3 and Demand2. A demand's own words stand above its type; other words in quotation marks are document 01's, or those of the request
-- of document 02 that is named.
-- Assumes nothing.
use Rattle.std.specs.Prelude.{◌≡◌, true, ◌↔◌, ◌⊎◌, ℕ, ◌*◌, ◌≤◌, ◌<◌, length, get_or, take, drop, T}
use mathlib.Core.List.{List, [], ◌∷◌, ◌++◌, map, Memᴰ}
use Rattle.std.proofs.Math.Option.{none, some}
use Rattle.std.proofs.Math.ListN.{get_elem?}
use Rattle.model.specs.Lists.{Distinct}
use Rattle.model.specs.Contract.{Contract, has, state}
use Rattle.model.specs.Sheet.{Sheet, good, Both, read_sheet, read_both, contract_in}
use Rattle.model.specs.Situation.{Situation, start, alike, codes, next}
use Rattle.model.specs.Test.{Mode, paper, settled}
use Rattle.model.specs.Search.{Reached}
use Rattle.model.specs.Plan.{Move, held, rows_in, Stepped, step_of}
use Rattle.model.specs.Connect.{Connected, limit_of, connect_of}
use Rattle.model.specs.Client.{Complies, complies_of}
use Rattle.model.specs.Run.{begin, Attempt, row_at_run, run_from, most_alone, Standstill}
use Rattle.model.specs.History.{history, situation_after}
use Rattle.model.specs.Weak.{Rests, Waits, AsksAt, Largest}

-- ---- demand 1

-- what demand 1 says of connecting: a number of document 01's table, and what was lent
pub record Answers {R : Type 0} (blank : R) (work : List R) (plan : List ℕ) (c : Connected R) : Type 0 where
  pub number : c.answer.number ≤ 13
  -- a refusal: the length is 0 and the lent plan is as it was
  pub refused : (c.answer.number ≡ 0 → ⊥) → (c.answer.length ≡ 0) × (c.plan ≡ plan)
  -- in any case the lent plan is as long as it was, the answered length is within it, and "bytes beyond it are untouched"
  pub size : length c.plan ≡ length plan
  pub beyond : (c.answer.length ≤ length plan) × (drop c.answer.length c.plan ≡ drop c.answer.length plan)
  -- "Counts (situations, plan states, rounds): 0 0 0 for 1 to 11"
  pub uncounted : 1 ≤ c.answer.number → c.answer.number ≤ 11 → (c.answer.situations ≡ 0) × (c.answer.states ≡ 0) × (c.answer.rounds ≡ 0)
  -- the work table is "unchanged by refusals 1 to 10"; "after every other call, accepted ones included, each record in it is zero"
  pub unchanged : 1 ≤ c.answer.number → c.answer.number ≤ 10 → c.work ≡ work
  pub cleared : (c.answer.number ≡ 0) ⊎ (10 < c.answer.number) → c.work ≡ map (λ r. blank) work

-- the numbers that stepping answers, with no state on a refusal
pub record Steps (s : Stepped) : Type 0 where
  pub number : (s.number ≡ 0) ⊎ (14 ≤ s.number)
  pub table : s.number ≤ 16
  pub refused : (s.number ≡ 0 → ⊥) → s.state ≡ 0

-- Demand 1: every entry point takes bytes of all kinds and lengths and answers with a result or a refusal of document 01's table. On a
-- refusal the lent plan is untouched and the lent work table is as 01 says.
pub record Demand-1 : Type 1 where
  pub connects : (R : Type 0) (blank : R) (mode : Mode) (k : ℕ) (old new : List ℕ) (work : List R) (plan : List ℕ)
      → Answers blank work plan (connect_of blank mode k old new work plan)
  pub steps : (plan : List ℕ) (state code : ℕ) → Steps (step_of plan state code)
  pub complies : (client service : List ℕ) → (complies_of client service).number ≤ 9

-- the emitted plan "at its answered length"
abbrev pub emitted_plan : {R : Type 0} → Connected R → List ℕ
emitted_plan c = take c.answer.length c.plan

-- ---- demand 2

-- A pair within the limits of refusals 1 to 10: two service sheets over the same names, and k at most 3.
pub record Admitted (k : ℕ) (old new : List ℕ) (sheets : Both) : Type 0 where
  pub reads : read_both 0 0 old new ≡ good sheets
  pub rank : k ≤ 3

module _ (k : ℕ) (σ τ : Contract) where
  -- the situation is reached from the start by enabled moves
  abbrev pub IsReached : Situation → Type 0
  IsReached s = Reached codes (next (alike k) σ τ) start s

  -- more than so many situations are reached
  abbrev pub Exceed : ℕ → Type 0
  Exceed limit = (l : List Situation) × Distinct l × ((s : Situation) → Memᴰ s l → IsReached s) × (limit < length l)

  -- so many situations are reached
  abbrev pub ReachedCount : ℕ → Type 0
  ReachedCount count = (l : List Situation) × Distinct l × ((s : Situation) → Memᴰ s l ↔ IsReached s) × (length l ≡ count)

-- with `asks`, what is asked of a set of moves at a situation
module _ (asks : (ℕ → Type 0) → Situation → Type 0) (k : ℕ) (σ τ : Contract) where
  -- some relation of definition 3.7 holds the situation
  abbrev pub Related : Situation → Type 1
  Related s = Largest (alike k) σ τ asks s

  -- "reached from the start by kept moves", which are those that lead into the largest relation
  pub data IsKept : Situation → Type 1 where
    kept_start : {s : Situation} → s ≡ start → IsKept s
    kept_move : {s t : Situation} (code : ℕ) → Memᴰ code codes → next (alike k) σ τ s code ≡ some t → Related t → IsKept s → IsKept t

  -- The plan that bytes are holds every move that the largest relation of definition 3.7 allows, and no others: its state i
  -- stands for situation i of a list, the first of which is the start.
  pub record HoldsLargest (bytes : List ℕ) : Type 1 where
    pub states : List Situation
    pub first : get_elem? states 0 ≡ some start
    pub distinct : Distinct states
    -- "The plan's states are the situations reached from the start by kept moves"
    pub kept : (s : Situation) → Memᴰ s states ↔ IsKept s
    pub rows : length (rows_in bytes) ≡ length states
    -- no others: a code of row i is that of a move enabled in situation i, which leads into the largest relation, to the
    -- situation that the row's next state stands for
    pub only : (i code to : ℕ) (s : Situation) → get_elem? states i ≡ some s → held (get_or (rows_in bytes) i []) code ≡ some to
        → (t : Situation) × Memᴰ code codes × (next (alike k) σ τ s code ≡ some t) × Related t × (get_elem? states to ≡ some t)
    -- every: each such move has its code in row i, with the next state that stands for where it leads
    pub every : (i code : ℕ) (s t : Situation) → get_elem? states i ≡ some s → Memᴰ code codes → next (alike k) σ τ s code ≡ some t → Related t
        → (to : ℕ) × (held (get_or (rows_in bytes) i []) code ≡ some to) × (get_elem? states to ≡ some t)

module _ {R : Type 0} (blank : R) (mode : Mode) (k : ℕ) (old new : List ℕ) (sheets : Both) (work : List R) where
  -- the outcome and its number, by the plan that is lent
  abbrev pub outcome : List ℕ → Connected R
  outcome plan = connect_of blank mode k old new work plan

  abbrev pub number : List ℕ → ℕ
  number plan = (outcome plan).answer.number

  abbrev pub σ : Contract
  σ = sheets.one

  abbrev pub τ : Contract
  τ = sheets.two

  -- some relation of definition 3.7 holds the start, with what the mode asks
  abbrev pub StartRelated : Type 1
  StartRelated = Related (AsksAt mode σ τ) k σ τ start

  -- what demand 2 says of an admitted pair, with these records and this plan lent
  pub record Decides (plan : List ℕ) : Type 1 where
    -- 11 exactly when the reached situations exceed the lent records or 4,096
    pub capacity : (number plan ≡ 11) ↔ Exceed k σ τ (limit_of (length work))
    -- else, where the plan fits, acceptance exactly if some relation of definition 3.7 holds the start
    pub accepts : (number plan ≡ 11 → ⊥) → (number plan ≡ 13 → ⊥) → (number plan ≡ 0) ↔ StartRelated
    -- and 12 exactly if none does
    pub refuses : (number plan ≡ 11 → ⊥) → (number plan ≡ 12) ↔ (StartRelated → ⊥)
    -- the plan has a size: a lent plan of that size or more is accepted, a shorter one is refused as 13
    pub room : (number plan ≡ 11 → ⊥) → StartRelated
        → (size : ℕ)
        × ((p : List ℕ) → size ≤ length p → (number p ≡ 0) × ((outcome p).answer.length ≡ size))
        × ((p : List ℕ) → length p < size → number p ≡ 13)
    -- the situations figure is the number of reached situations, and the rounds figure is no larger
    pub situations : (number plan ≡ 11 → ⊥) → ReachedCount k σ τ (outcome plan).answer.situations
    pub rounds : (outcome plan).answer.rounds ≤ (outcome plan).answer.situations
    -- the plan states figure is the number of the emitted plan's rows; "for 12 the plan states are 0; for 13 all are real": the counts of
    -- any lent plan that is long enough
    pub states : number plan ≡ 0 → (outcome plan).answer.states ≡ length (rows_in (emitted_plan (outcome plan)))
    pub no_states : number plan ≡ 12 → (outcome plan).answer.states ≡ 0
    pub real : number plan ≡ 13 → (p : List ℕ) → number p ≡ 0
        → ((outcome plan).answer.situations ≡ (outcome p).answer.situations)
        × ((outcome plan).answer.states ≡ (outcome p).answer.states)
        × ((outcome plan).answer.rounds ≡ (outcome p).answer.rounds)
    -- an emitted plan holds every move that the largest relation allows, and no others
    pub emitted : number plan ≡ 0 → HoldsLargest (AsksAt mode σ τ) k σ τ (emitted_plan (outcome plan))

-- Demand 2: a pair within the limits is accepted if and only if some weak k-subcontract relation (definition 3.7 of Padovani 2010) holds
-- the starting situation; else it is refused as 12. The plan holds every move that the largest such relation allows, and no others. "Demand
-- 2 speaks of both tests" (document 02, request 5/13): in either mode.
abbrev pub Demand-2 : Type 1
Demand-2 =
    (R : Type 0) (blank : R) (mode : Mode) (k : ℕ) (old new : List ℕ) (sheets : Both) (work : List R) (plan : List ℕ)
    → Admitted k old new sheets → Decides blank mode k old new sheets work plan

-- ---- the client check

-- the check says yes exactly if both sheets are good, in their places and over the same names, and the client complies with the service
abbrev pub ClientCheck : Type 0
ClientCheck =
    (client service : List ℕ)
    → (((complies_of client service).number ≡ 0) × ((complies_of client service).yes ≡ true))
    ↔ ((sheets : Both) × (read_both 1 0 client service ≡ good sheets) × Complies sheets.one sheets.two)

-- ---- demand 3

-- stepping "gives number 0 and the row's next state if the row holds the code, else 16 and 0"
pub record Follows (row : List Move) (code : ℕ) (s : Stepped) : Type 0 where
  pub goes : (to : ℕ) → held row code ≡ some to → s ≡ record { number = 0; state = to }
  pub stays : held row code ≡ none → s ≡ record { number = 16; state = 0 }

-- what demand 3 says of a plan's bytes, for a list of attempts with a client, the old contract and the new one
pub record Runs (k : ℕ) (user old new : Contract) (bytes : List ℕ) (attempts : List Attempt) : Type 0 where
  -- "At each attempt, refused or not", stepping follows the row of the run's plan state
  pub steps : (before after : List Attempt) (a : Attempt) → attempts ≡ before ++ a ∷ after
      → Follows (row_at_run user new (rows_in bytes) (run_from user new (rows_in bytes) begin before)) a.code
      (step_of bytes (run_from user new (rows_in bytes) begin before).plan a.code)
  -- "After the list, if the client complies with the old contract, a choice is a standstill only if R has the success mark"
  pub no_standstill : Complies user old
      → (R S : ℕ) → Standstill user new (rows_in bytes) (run_from user new (rows_in bytes) begin attempts) R S → T (has R 14)
  -- "Refused attempts left out, at most 2 times k times n moves of codes 32+j come in a row"
  pub few_alone : most_alone user new (rows_in bytes) attempts ≤ 2 * k * new.n

-- Demand 3: one claim about the whole list of attempted moves of a run of an emitted plan, for any client; in either mode.
abbrev pub Demand-3 : Type 1
Demand-3 =
    (R : Type 0) (blank : R) (mode : Mode) (k : ℕ) (old new : List ℕ) (work : List R) (plan : List ℕ) (client : List ℕ) (user : Sheet)
    (attempts : List Attempt)
    → (connect_of blank mode k old new work plan).answer.number ≡ 0 → read_sheet client ≡ good user
    → Runs k user.contract (contract_in old) (contract_in new) (emitted_plan (connect_of blank mode k old new work plan)) attempts

-- ---- settled plans: document 02, request 5/13

-- what is said of a settled plan's bytes, for a list of attempts with a client, the old contract and the new one
pub record Settles (k : ℕ) (user old new : Contract) (bytes : List ℕ) (attempts : List Attempt) : Type 0 where
  -- the situation that the moves made so far lead to, with the old state of the run and the messages that wait
  pub at : Situation
  pub leads : situation_after (alike k) old new (history user new (rows_in bytes) attempts) ≡ some at
  -- "no run stands still ... where the old state has an empty ready set and a message still waits for the service"
  pub none_waits : (R S : ℕ) → Standstill user new (rows_in bytes) (run_from user new (rows_in bytes) begin attempts) R S
      → Rests (state old at.old) → Waits at.buffer → ⊥

-- "Show that in a settled plan no run stands still, for whichever client, where the old state has an empty ready set and a message still
-- waits for the service": over every list of attempts, and for any contract that the client has, complying or not.
abbrev pub SettledRuns : Type 1
SettledRuns =
    (R : Type 0) (blank : R) (k : ℕ) (old new : List ℕ) (work : List R) (plan : List ℕ) (user : Contract) (attempts : List Attempt)
    → (connect_of blank settled k old new work plan).answer.number ≡ 0
    → Settles k user (contract_in old) (contract_in new) (emitted_plan (connect_of blank settled k old new work plan)) attempts

-- What is refused as 12 in the paper's mode is refused as 12 in the settled one: its relations are among those of definition 3.7.
abbrev pub SettledRefuses : Type 1
SettledRefuses =
    (R : Type 0) (blank : R) (k : ℕ) (old new : List ℕ) (work : List R) (plan : List ℕ)
    → (connect_of blank paper k old new work plan).answer.number ≡ 12 → (connect_of blank settled k old new work plan).answer.number ≡ 12
