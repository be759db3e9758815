-- Runs between two sheets: the record for the model's run, when a move can be made, and attempts in bytes. Document 01, "The client check
-- and the run". Assumes nothing.
use Rattle.std.specs.Prelude.{List, [], ◌∷◌, ℕ, zero, suc, ◌+◌, ◌/◌, length}
use Rattle.model.specs.Bytes.{byte, word}
use Rattle.model.specs.Contract.{Contract, partner}
use Rattle.model.specs.Sheet.{contract_in}
use Rattle.model.specs.Situation.{Kind, straight, client, service, stray}
use Rattle.model.specs.Run as model
use Rattle.sheet.specs.Whole.{IsState}
use Rattle.sheet.specs.Offer.{IsOffered}
use Rattle.runs.specs.declared.Parties.{Parties}
use Rattle.runs.specs.declared.Run.{Run}

-- "It holds three states, client, service and plan": those of a record
unfoldable pub run_of : Run → model.Run
run_of r = record { client = r.client; service = r.service; plan = r.plan }

-- the contracts that a run is between
abbrev pub client_of : Parties → Contract
client_of p = contract_in p.client.now

abbrev pub service_of : Parties → Contract
service_of p = contract_in p.service.now

-- a run is in states of the two sheets
abbrev pub InStates : Parties → Run → Type 0
InStates p run = IsState p.client.now run.client × IsState p.service.now run.service

-- "on j and 32+j the service goes on by j, on j and 16+j the client by the partner": who goes on in states p and q offers that action
abbrev pub GoOn : (user new : List ℕ) → (p q : ℕ) → Kind → Type 0
GoOn user new p q (straight j) = IsOffered user p (partner j) × IsOffered new q j
GoOn user new p q (client j) = IsOffered user p (partner j)
GoOn user new p q (service j) = IsOffered new q j
GoOn user new p q stray = Unit {0}

-- a run between two sheets in which a move of some kind can be made
pub record MoveReady (user new : List ℕ) (run : Run) (kind : Kind) : Type 0 where
  -- its states are states of the sheets
  pub client_at : IsState user run.client
  pub service_at : IsState new run.service
  -- and those who move offer what they go on by
  pub going : GoOn user new run.client run.service kind

-- "two masks R and S and a code byte each": `left` attempts that stand in the bytes from a place on
unfoldable pub attempts_from : List ℕ → ℕ → ℕ → List model.Attempt
attempts_from b at zero = []
attempts_from b at (suc left) =
    record { R = word b at; S = word b (at + 2); code = byte b (at + 4) } ∷ attempts_from b (at + 5) left

-- an attempt whose five bytes stand alone
unfoldable pub attempt_of : List ℕ → model.Attempt
attempt_of b = record { R = word b 0; S = word b 2; code = byte b 4 }

-- the whole attempts of five bytes that stand in the bytes
unfoldable pub attempts_in : List ℕ → List model.Attempt
attempts_in b = attempts_from b 0 (length b / 5)
