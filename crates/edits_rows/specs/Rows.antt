-- A row of a plan in a situation, as the code looks at it: by the counts of the buffer, by masks of offered actions, by masks of its moves.
-- Assumes nothing.
use Rattle.std.specs.Prelude.{◌≡◌, Bool, true, not, ◌||◌, ℕ, ◌+◌, ◌*◌, ◌≤◌, length, T, eqb, Option, None, Some, Result, Ok, Err}
use Rattle.std.proofs.Math.Option as model
use Rattle.std.proofs.Math.Option.{none, some}
use mathlib.Core.List.{List, Memᴰ}
use Rattle.model.specs.Contract.{has}
use Rattle.model.specs.Situation.{Kind, straight, client, service, stray, kind_of, codes, buffer_after}
use Rattle.model.specs.Plan.{read_moves, good_row}
use Rattle.sheet.specs.declared.Offer.{Offer}
use Rattle.sheet.specs.Offer.{offer_in}
use Rattle.moves.specs.declared.Situation.{Situation}
use Rattle.moves.specs.declared.Present.{Present}
use Rattle.moves.specs.Situations.{Placed}
use Rattle.moves.specs.Present.{present_by}
use Rattle.plan.specs.declared.Row.{Row}
use Rattle.edits.specs.Sound as edits
use Rattle.edits.specs.Sound.{given}
use Rattle.edits_rows.specs.declared.Blame.{Blame}
use Rattle.edits_rows.specs.declared.Breach.{Breach}
use Rattle.edits_rows.specs.declared.Breach.TheVariants.{Outside, Unmet, Unanswered, Undelivered}

-- what is at fault, as the struct that the code returns
abbrev pub blame_from : edits.Blame → Blame
blame_from b = record { condition = b.condition; code = b.code; ready = b.ready }

-- what a breach says: the condition, counted from 1, and the code or the ready set that breaks it
abbrev pub blame_by : Breach → edits.Blame
blame_by (Outside code) = record { condition = 1; code = code; ready = 0 }
blame_by (Unmet code) = record { condition = 2; code = code; ready = 0 }
blame_by (Unanswered S) = record { condition = 3; code = 0; ready = S }
blame_by (Undelivered S) = record { condition = 4; code = 0; ready = S }

-- what a judgement says
abbrev pub judged : Result (Unit {0}) Breach → edits.Blame
judged (Ok x) = record { condition = 0; code = 0; ready = 0 }
judged (Err breach) = blame_by breach

-- an element that was found, as the code returns it
abbrev pub found_of : model.Option ℕ → Option ℕ
found_of none = None
found_of (some x) = Some x

-- what a test may answer is what a function says
abbrev pub Tells : (ℕ → Bool → Type 0) → (ℕ → Bool) → Type 0
Tells answers says = (x : ℕ) (r : Bool) → answers x r → r ≡ says x

-- a move keeps the buffer with these counts within the limits
unfoldable pub keeps_counts : (limits counts : List ℕ) → ℕ → Bool
keeps_counts limits counts code = given (buffer_after limits counts (kind_of code))

-- the old state can meet a move if the new one can, by two masks of offered actions
unfoldable pub met_by : (old new : ℕ) → Kind → Bool
met_by old new (straight j) = not (has new j) || has old j
met_by old new (client j) = has old j
met_by old new (service j) = true
met_by old new stray = true

-- the moves of a row stand within the bytes, and are a good row of some plan
pub record InRow (b : List ℕ) (row : Row) : Type 0 where
  pub within : row.first + 3 * row.size ≤ length b
  pub names : ℕ
  pub count : ℕ
  pub good : T (good_row names count (read_moves b row.first row.size))

-- of all codes, those whose bits are set are the ones before and one more
pub record WithCode (p : Present) (code : ℕ) (r : Present) : Type 0 where
  pub each : (c : ℕ) → Memᴰ c codes → present_by r (kind_of c) ≡ (eqb c code || present_by p (kind_of c))

-- a row to be judged: in a situation of two sheets, whose states offer so much
pub record Judgeable (old new plan : List ℕ) (row : Row) (at : Situation) (old_offer new_offer : Offer) : Type 0 where
  pub in_row : InRow plan row
  pub placed : Placed old new at
  pub old_offers : old_offer ≡ offer_in old at.old
  pub new_offers : new_offer ≡ offer_in new at.new
