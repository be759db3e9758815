-- Runs of a plan between a client and the new service. Document 01, "The client check and the run".
-- Assumes nothing.
use Rattle.std.specs.Prelude.{◌≡◌, Bool, true, false, cond, ◌&&◌, List, [], ◌∷◌, ℕ, suc, max, get_or, T}
use Rattle.std.proofs.Math.Option.{Option, none, some}
use Rattle.model.specs.Contract.{Contract, partner, has, state, after}
use Rattle.model.specs.Situation.{Kind, straight, client, service, stray, kind_of}
use Rattle.model.specs.Test.{listed}
use Rattle.model.specs.Plan.{Move, held}

-- "It holds three states, client, service and plan"
pub record Run : Type 0 where
  pub client : ℕ
  pub service : ℕ
  pub plan : ℕ

-- "all 0 at the start"
unfoldable pub begin : Run
begin = record { client = 0; service = 0; plan = 0 }

-- "two masks R and S and a code byte each"
pub record Attempt : Type 0 where
  pub R : ℕ
  pub S : ℕ
  pub code : ℕ

-- "code j needs j in S and its partner in R; 16+j the partner in R; 32+j needs j in S"
unfoldable pub need : ℕ → ℕ → Kind → Bool
need R S (straight j) = has S j && has R (partner j)
need R S (client j) = has R (partner j)
need R S (service j) = has S j
need R S stray = false

-- a code 32+j, "with the service alone"
unfoldable pub is_alone : Kind → Bool
is_alone (straight j) = false
is_alone (client j) = false
is_alone (service j) = true
is_alone stray = false

-- "Refused attempts left out": of an attempt that is a move, whether it is with the service alone, before what later ones are
unfoldable pub if_move : Option ℕ → Bool → List Bool → List Bool
if_move none alone later = later
if_move (some to) alone later = alone ∷ later

-- how many in a row at most, `before` of them right before the list
unfoldable pub longest : ℕ → List Bool → ℕ
longest before [] = before
longest before (true ∷ l) = longest (suc before) l
longest before (false ∷ l) = max before (longest 0 l)

module _ (user new : Contract) (rows : List (List Move)) where
  -- the row of the run's plan state
  unfoldable pub row_at_run : Run → List Move
  row_at_run r = get_or rows r.plan []

  -- "A choice is an R and an S that are ready sets of the present client and service states."
  unfoldable pub choice : Run → ℕ → ℕ → Bool
  choice r R S = listed (state user r.client).ready R && listed (state new r.service).ready S

  -- the plan's next state, if the attempt is a move; "An attempt whose masks are no choice, or whose code cannot be made, is
  -- refused"
  unfoldable pub move_to : Run → Attempt → Option ℕ
  move_to r a =
      cond (choice r a.R a.S && need a.R a.S (kind_of a.code)) (held (row_at_run r) a.code) none

  -- "on j and 32+j the service goes on by j, on j and 16+j the client by the partner, and the plan goes to the row's next
  -- state"
  unfoldable pub moved : Run → Kind → ℕ → Run
  moved r (straight j) to =
      record { client = after (state user r.client) (partner j); service = after (state new r.service) j; plan = to }
  moved r (client j) to = record { client = after (state user r.client) (partner j); service = r.service; plan = to }
  moved r (service j) to = record { client = r.client; service = after (state new r.service) j; plan = to }
  moved r stray to = r

  -- the same if the attempt is a move; else the run as it is
  unfoldable pub moved_if : Run → Kind → Option ℕ → Run
  moved_if r kind none = r
  moved_if r kind (some to) = moved r kind to

  -- the run after an attempt; a refused one "changes nothing"
  unfoldable pub attempted : Run → Attempt → Run
  attempted r a = moved_if r (kind_of a.code) (move_to r a)

  -- the run after a list of attempts
  unfoldable pub run_from : Run → List Attempt → Run
  run_from r [] = r
  run_from r (a ∷ attempts) = run_from (attempted r a) attempts

  -- of each move of a list of attempts, whether it is with the service alone
  unfoldable pub alones_from : Run → List Attempt → List Bool
  alones_from r [] = []
  alones_from r (a ∷ attempts) = if_move (move_to r a) (is_alone (kind_of a.code)) (alones_from (attempted r a) attempts)

  -- how many moves of codes 32+j come in a row at most, in a run from the start
  unfoldable pub most_alone : List Attempt → ℕ
  most_alone attempts = longest 0 (alones_from begin attempts)

  -- "A standstill is a choice under which no code can be made."
  pub record Standstill (r : Run) (R S : ℕ) : Type 0 where
    pub chosen : T (choice r R S)
    pub stuck : (code to : ℕ) → held (row_at_run r) code ≡ some to → T (need R S (kind_of code)) → ⊥
