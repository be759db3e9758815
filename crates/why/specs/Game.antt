-- A no means none: theorem 3.8 of Padovani 2010 as a game, and what is promised of it, as types. They are proved by `no-means-none`,
-- `refused-for-good`, `emitted-serves` and `game-decides` of proofs/NoMeansNone.antt. A strategy plays the adapter: after each history it
-- offers codes, as it likes. The client and the new service choose ready sets, and which of the offered codes is made. Both modes are meant:
-- in the paper's mode a play ends badly in two ways, and in the settled mode of document 02, request 5/13, there is a third. Words in
-- quotation marks are document 01's, or where it is said that request's.
-- Assumes nothing.
use Rattle.std.specs.Prelude.{◌≡◌, Bool, ◌↔◌, ◌⊎◌, ℕ, T}
use mathlib.Core.List.{List, [], ◌∷◌, ◌++◌, Memᴰ}
use Rattle.std.proofs.Math.Option.{none, some}
use Rattle.model.specs.Contract.{Contract, State, partner, has, state, after}
use Rattle.model.specs.Sheet.{Both, read_both, good, contract_in}
use Rattle.model.specs.Situation.{Situation, start, alike, Kind, straight, client, service, stray, kind_of, buffer_after, old_after, new_after}
use Rattle.model.specs.Test.{Mode, is_settled}
use Rattle.model.specs.Plan.{Move, rows_in}
use Rattle.model.specs.Connect.{connect_of}
use Rattle.model.specs.Client.{Complies}
use Rattle.model.specs.Run.{begin, Attempt, need, run_from, Standstill}
use Rattle.model.specs.History.{history, buffer_from, situation_after}
use Rattle.model.specs.Weak.{Rests, Waits, AsksAt, Largest}
use Rattle.model.specs.Demands.{emitted_plan}
use Rattle.why.specs.Demanding.{demanding}

-- ---- strategies and positions

-- A strategy says of the codes of the moves made so far, in order, and of a code whether it offers the code now. It is any such function:
-- no plan need hold it, and nothing bounds what it remembers.
abbrev pub Strategy : Type 0
Strategy = List ℕ → ℕ → Bool

-- Where a play stands: the client's state and the new service's, the old state, the buffer, the codes of the moves made so far, in order.
-- The old contract takes no part in a play: the old state is the one that it reaches by the codes j and 16+j of these. So position and
-- history never part: `played-leads` of proofs/Plans.antt.
pub record Position : Type 0 where
  pub client : ℕ
  pub service : ℕ
  pub old : ℕ
  pub buffer : List ℕ
  pub history : List ℕ

-- "all 0 at the start": the buffer is empty, and no move was made
unfoldable pub opening : Position
opening = record { client = 0; service = 0; old = 0; buffer = start.buffer; history = [] }

-- where the client goes from state i, whose ready sets and successors are p: "on j and 16+j the client by the partner"
unfoldable pub client_after : ℕ → State → Kind → ℕ
client_after i p (straight j) = after p (partner j)
client_after i p (client j) = after p (partner j)
client_after i p (service j) = i
client_after i p stray = i

-- "A choice is an R and an S that are ready sets of the present client and service states."
pub record Chosen (user new : Contract) (x : Position) (R S : ℕ) : Type 0 where
  pub of_client : Memᴰ R (state user x.client).ready
  pub of_service : Memᴰ S (state new x.service).ready

-- the position after a code is made, with the buffer that it leaves
unfoldable pub proceed : (user old new : Contract) → Position → ℕ → List ℕ → Position
proceed user old new x code b =
    record {
      client = client_after x.client (state user x.client) (kind_of code);
      service = new_after x.service (state new x.service) (kind_of code);
      old = old_after x.old (state old x.old) (kind_of code);
      buffer = b;
      history = x.history ++ code ∷ [];
    }

-- a code can be made under a choice: the strategy offers it, and R and S have what it needs
pub record CanBeMade (offer : Strategy) (x : Position) (R S code : ℕ) : Type 0 where
  pub is_offered : T (offer x.history code)
  pub needed : T (need R S (kind_of code))

-- ---- plays, and how they end

module _ (limits : List ℕ) (user old new : Contract) (offer : Strategy) where
  -- a play leads to the position: each move was by a choice, could be made, and was allowed by the buffer
  pub data Played : Position → Type 0 where
    played_none : Played opening
    played_on : {x : Position} {b : List ℕ} (R S code : ℕ) → Played x → Chosen user new x R S → CanBeMade offer x R S code
        → buffer_after limits x.buffer (kind_of code) ≡ some b → Played (proceed user old new x code b)

  -- "A standstill is a choice under which no code can be made."
  pub record StandsStill (x : Position) (R S : ℕ) : Type 0 where
    pub chosen : Chosen user new x R S
    pub none_made : (code : ℕ) → CanBeMade offer x R S code → ⊥

  -- the client hangs: a standstill, and its ready set has no success mark
  pub record Hangs (x : Position) : Type 0 where
    pub R : ℕ
    pub S : ℕ
    pub stands : StandsStill x R S
    pub unmarked : T (has R 14) → ⊥

  -- the limits are broken: a code can be made that the buffer does not allow
  pub record BreaksLimits (x : Position) : Type 0 where
    pub R : ℕ
    pub S : ℕ
    pub code : ℕ
    pub chosen : Chosen user new x R S
    pub can : CanBeMade offer x R S code
    pub leaves : buffer_after limits x.buffer (kind_of code) ≡ none

  -- a message is left behind: a standstill, with the success mark or without, "where the old state has an empty ready set and a message still
  -- waits for the service" (request 5/13)
  pub record LeavesBehind (x : Position) : Type 0 where
    pub R : ℕ
    pub S : ℕ
    pub stands : StandsStill x R S
    pub rests : Rests (state old x.old)
    pub waits : Waits x.buffer

-- some play ends badly: the client hangs, or the limits are broken; in the settled mode also if a message is left behind
pub record EndsBadly (mode : Mode) (limits : List ℕ) (user old new : Contract) (offer : Strategy) : Type 0 where
  pub at : Position
  pub played : Played limits user old new offer at
  pub badly :
      Hangs limits user old new offer at
      ⊎ (BreaksLimits limits user old new offer at ⊎ (T (is_settled mode) × LeavesBehind limits user old new offer at))

-- ---- plans

-- a run of a plan's rows stands still after a list of attempts
abbrev pub StillAfter : (user new : Contract) → List (List Move) → List Attempt → (R S : ℕ) → Type 0
StillAfter user new rows attempts R S = Standstill user new rows (run_from user new rows begin attempts) R S

-- it leaves a message behind: it stands still, and in the situation that its history leads to the old state has an empty ready set and a
-- message still waits for the service
pub record RunLeavesBehind (limits : List ℕ) (user old new : Contract) (rows : List (List Move)) (attempts : List Attempt) : Type 0 where
  pub R : ℕ
  pub S : ℕ
  pub stands : StillAfter user new rows attempts R S
  pub at : Situation
  pub leads : situation_after limits old new (history user new rows attempts) ≡ some at
  pub rests : Rests (state old at.old)
  pub waits : Waits at.buffer

-- a run of a plan's rows fails in one of the same ways, after some list of attempts
pub record PlanFails (mode : Mode) (limits : List ℕ) (user old new : Contract) (rows : List (List Move)) : Type 0 where
  pub attempts : List Attempt
  -- it comes to a standstill without the success mark, or it has made a move that the buffer of its history does not allow; in the settled
  -- mode also if it leaves a message behind
  pub fails :
      ((R : ℕ) × (S : ℕ) × StillAfter user new rows attempts R S × (T (has R 14) → ⊥))
      ⊎ ((buffer_from limits start.buffer (history user new rows attempts) ≡ none)
      ⊎ (T (is_settled mode) × RunLeavesBehind limits user old new rows attempts))

-- ---- what is promised, in either mode

-- The client defeats every adapter: it complies with the old contract, every strategy between it and the new service ends badly in some
-- play, and every plan fails, whatever bytes it is. (Bytes that are no plan have no rows.)
pub record Defeats (mode : Mode) (limits : List ℕ) (old new user : Contract) : Type 0 where
  pub complying : Complies user old
  pub strategies : (offer : Strategy) → EndsBadly mode limits user old new offer
  pub plans : (bytes : List ℕ) → PlanFails mode limits user old new (rows_in bytes)

-- some relation of definition 3.7 holds the start, with what the mode asks
abbrev pub StartHeld : Mode → List ℕ → (old new : Contract) → Type 1
StartHeld mode limits old new = Largest limits old new (AsksAt mode old new) start

-- Two sheets that are read, and any limits for the fourteen counts: if no such relation holds the start, the most demanding client that the
-- old contract satisfies defeats every adapter.
abbrev pub NoMeansNone : Type 1
NoMeansNone =
    (mode : Mode) (limits : List ℕ) (old new : List ℕ) (sheets : Both) → read_both 0 0 old new ≡ good sheets
    → (StartHeld mode limits sheets.one sheets.two → ⊥)
    → Defeats mode limits sheets.one sheets.two (demanding mode sheets.one)

-- So it is whenever connecting answers 12 in a mode, for any bytes and whatever is lent.
abbrev pub RefusedForGood : Type 1
RefusedForGood =
    (R : Type 0) (blank : R) (mode : Mode) (k : ℕ) (old new : List ℕ) (work : List R) (plan : List ℕ)
    → (connect_of blank mode k old new work plan).answer.number ≡ 12
    → Defeats mode (alike k) (contract_in old) (contract_in new) (demanding mode (contract_in old))

-- A plan that connecting emits in a mode does not fail so in that mode, with any client that complies with the old contract. (That a settled
-- plan leaves no message behind is shown of every client: `SettledRuns` in model's specs/Demands.antt.)
abbrev pub EmittedServes : Type 1
EmittedServes =
    (R : Type 0) (blank : R) (mode : Mode) (k : ℕ) (old new : List ℕ) (work : List R) (plan : List ℕ) (user : Contract)
    → (connect_of blank mode k old new work plan).answer.number ≡ 0 → Complies user (contract_in old)
    → PlanFails mode (alike k) user (contract_in old) (contract_in new) (rows_in (emitted_plan (connect_of blank mode k old new work plan))) → ⊥

-- a strategy serves a client: no play ends badly
abbrev pub Serves : Mode → List ℕ → (user old new : Contract) → Strategy → Type 0
Serves mode limits user old new offer = EndsBadly mode limits user old new offer → ⊥

-- definition 3.2: each client that complies with the old contract is served by a strategy, which may be for this client alone
abbrev pub EachServed : Mode → List ℕ → (old new : Contract) → Type 0
EachServed mode limits old new = (user : Contract) → Complies user old → (offer : Strategy) × Serves mode limits user old new offer

-- one strategy serves them all: the universal orchestrator of definition 3.5
pub record AllServed (mode : Mode) (limits : List ℕ) (old new : Contract) : Type 0 where
  pub offer : Strategy
  pub serves : (user : Contract) → Complies user old → Serves mode limits user old new offer

-- Theorem 3.8, and proposition 3.6 with it: each complying client is served exactly if some such relation holds the start, and
-- then one strategy serves them all.
abbrev pub GameDecides : Type 1
GameDecides =
    (mode : Mode) (limits : List ℕ) (old new : List ℕ) (sheets : Both) → read_both 0 0 old new ≡ good sheets
    → (EachServed mode limits sheets.one sheets.two ↔ StartHeld mode limits sheets.one sheets.two)
    × (AllServed mode limits sheets.one sheets.two ↔ StartHeld mode limits sheets.one sheets.two)
