-- When a pair is sound, in a mode, and what is at fault where it is not. Document 02, requests 3/13 and 5/13.
-- Assumes nothing.
use Rattle.std.specs.Prelude.{Bool, true, false, cond, not, ◌&&◌, ◌||◌, List, [], ◌∷◌, ℕ}
use Rattle.std.proofs.Math.Option.{Option, none, some}
use Rattle.model.specs.Lists.{all}
use Rattle.model.specs.Contract.{Contract, State, state, offers}
use Rattle.model.specs.Situation.{Situation, Kind, straight, client, service, stray, kind_of, buffer_after}
use Rattle.model.specs.Test.{answered, Mode, asked, delivered, test}
use Rattle.model.specs.Plan.{Move}
use Rattle.edits.specs.Places.{Place, codes_in, row_here}

-- ---- which moves a state meets

-- "a state meets a move if it offers j; ... the old every 32+j"
unfoldable pub old_meets : State → Kind → Bool
old_meets p (straight j) = offers p j
old_meets p (client j) = offers p j
old_meets p (service j) = true
old_meets p stray = false

-- "a state meets a move if it offers j; the new also meets every 16+j"
unfoldable pub new_meets : State → Kind → Bool
new_meets q (straight j) = offers q j
new_meets q (client j) = true
new_meets q (service j) = offers q j
new_meets q stray = false

-- ---- what is at fault

-- there is one
unfoldable pub given : {A : Type 0} → Option A → Bool
given none = false
given (some x) = true

-- the first element that fails a test
unfoldable pub first_not : {A : Type 0} → (A → Bool) → List A → Option A
first_not p [] = none
first_not p (x ∷ xs) = cond (p x) (first_not p xs) (some x)

-- Which condition fails first, counted from 1, and 0 if none does: the fourth is the second part of the test, which the settled mode has. The
-- code of the first move of the row that breaks one of the first two; the first ready set of the new state that breaks one of the others.
pub record Blame : Type 0 where
  pub condition : ℕ
  pub code : ℕ
  pub ready : ℕ

-- by the first code or ready set that breaks each condition
unfoldable pub blamed : (outside unmet unanswered undelivered : Option ℕ) → Blame
blamed (some code) unmet unanswered undelivered = record { condition = 1; code = code; ready = 0 }
blamed none (some code) unanswered undelivered = record { condition = 2; code = code; ready = 0 }
blamed none none (some S) undelivered = record { condition = 3; code = 0; ready = S }
blamed none none none (some S) = record { condition = 4; code = 0; ready = S }
blamed none none none none = record { condition = 0; code = 0; ready = 0 }

-- ---- a row in a situation

-- "the check of hand edits is told" the mode
module _ (mode : Mode) (limits : List ℕ) (old new : Contract) (s : Situation) where
  -- a move "keeps the buffer within 0 to k": also one that nobody can make
  unfoldable pub keeps_buffer : ℕ → Bool
  keeps_buffer code = given (buffer_after limits s.buffer (kind_of code))

  -- a move "that the new state can meet is one the old state can meet too"
  unfoldable pub met_by_both : ℕ → Bool
  met_by_both code = not (new_meets (state new s.new) (kind_of code)) || old_meets (state old s.old) (kind_of code)

  -- the ready set S of the new state is answered "and the row as A passes 01's test"
  unfoldable pub answered_by : List ℕ → ℕ → Bool
  answered_by A S = answered (state old s.old).ready A S

  -- the ready set S of the new state has what the second part asks: "if the old state has an empty ready set and any count for the service is
  -- above 0, then ... some j in S has 32+j in A"
  unfoldable pub delivered_by : List ℕ → ℕ → Bool
  delivered_by A S = delivered (asked mode (state old s.old) s.buffer) A S

  -- "every move of the row keeps the buffer within 0 to k, every move that the new state can meet is one the old state can meet too ..., and
  -- the row as A passes 01's test"; A are all codes of the row, enabled or not
  unfoldable pub sound_row : List ℕ → Bool
  sound_row A = all keeps_buffer A && (all met_by_both A && test mode old new A s)

  -- what is at fault in the row
  unfoldable pub blame_of : List ℕ → Blame
  blame_of A =
      blamed (first_not keeps_buffer A) (first_not met_by_both A) (first_not (answered_by A) (state new s.new).ready)
      (first_not (delivered_by A) (state new s.new).ready)

module _ (mode : Mode) (limits : List ℕ) (old new : Contract) (rows : List (List Move)) where
  -- the row of the pair's plan state is sound in the pair's situation
  unfoldable pub sound_place : Place → Bool
  sound_place x = sound_row mode limits old new x.at (codes_in (row_here limits old new rows x))

  -- what is at fault in a pair
  unfoldable pub blame_in : Place → Blame
  blame_in x = blame_of mode limits old new x.at (codes_in (row_here limits old new rows x))
