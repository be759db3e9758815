-- The history of a run, the buffer that it leaves and the situation that it leads to. Document 01, "Moves and the buffer" and "The client
-- check and the run"; document 02, requests 5/13 and 13/13.
-- Assumes nothing.
use Rattle.std.specs.Prelude.{List, [], ◌∷◌, ℕ}
use Rattle.std.proofs.Math.Option.{Option, none, some}
use Rattle.model.specs.Lists.{through}
use Rattle.model.specs.Contract.{Contract, state}
use Rattle.model.specs.Situation.{Situation, start, Kind, kind_of, buffer_after, old_after, new_after, with_buffer}
use Rattle.model.specs.Plan.{Move}
use Rattle.model.specs.Run.{Run, begin, Attempt, move_to, attempted}

-- the code of an attempt before those of later moves, if the attempt is a move; a refused one "changes nothing"
unfoldable pub if_made : Option ℕ → ℕ → List ℕ → List ℕ
if_made none code later = later
if_made (some to) code later = code ∷ later

module _ (user new : Contract) (rows : List (List Move)) where
  -- the codes of the moves that a list of attempts makes, in order
  unfoldable pub history_from : Run → List Attempt → List ℕ
  history_from r [] = []
  history_from r (a ∷ attempts) = if_made (move_to user new rows r a) a.code (history_from (attempted user new rows r a) attempts)

  -- the same of a run from its start
  abbrev pub history : List Attempt → List ℕ
  history attempts = history_from begin attempts

-- the buffer that moves leave, one after the other; none if one of them is not allowed by the buffer that it meets
unfoldable pub buffer_from : List ℕ → List ℕ → List ℕ → Option (List ℕ)
buffer_from limits b made = through (λ b code. buffer_after limits b (kind_of code)) b made

module _ (limits : List ℕ) (old new : Contract) where
  -- where a move that was made leads: the old contract goes on by the codes j and 16+j, the new one by j and 32+j, the buffer by all; none if
  -- the buffer does not allow the move
  unfoldable pub made_by : Situation → Kind → Option Situation
  made_by s kind =
      with_buffer (buffer_after limits s.buffer kind) (old_after s.old (state old s.old) kind) (new_after s.new (state new s.new) kind)

  -- where moves lead from a situation, one after the other
  unfoldable pub situation_from : Situation → List ℕ → Option Situation
  situation_from s made = through (λ s code. made_by s (kind_of code)) s made

  -- the situation that a history leads to
  abbrev pub situation_after : List ℕ → Option Situation
  situation_after made = situation_from start made
