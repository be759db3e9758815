-- One move more: the history has its code last, and the buffer and the situation are what the move makes of those before. An enabled move
-- leads where it says, and the buffer of the situation that moves lead to is the buffer that they leave.
-- Assumes nothing.
use mathlib.Core.Path.{◌≡◌, refl, ap, ◌∙◌}
use mathlib.Core.List.{List, [], ◌∷◌, ◌++◌}
use mathlib.Core.Option.{Option, none, some, bind, some-injective}
use Prim.Native.Nat.{ℕ}
use Rattle.model.specs.Lists.{through}
use Rattle.model.specs.Contract.{Contract, state}
use Rattle.model.specs.Situation.{Situation, kind_of, buffer_after, old_after, new_after, with_buffer, next}
use Rattle.model.specs.Plan.{Move}
use Rattle.model.specs.Run.{Run, Attempt, move_to, attempted, run_from}
use Rattle.model.specs.History.{if_made, history_from, buffer_from, made_by, situation_from}
use Rattle.model.proofs.Lists.{bind-some, through-more}
use Rattle.model.proofs.Situation.{with-buffer-elim}
use Rattle.model.proofs.Moves.{enabled}

module _ (user new : Contract) (rows : List (List Move)) where
  pub history-move : (before : List Attempt) (r : Run) (a : Attempt) (to : ℕ)
      → move_to user new rows (run_from user new rows r before) a ≡ some to
      → history_from user new rows r (before ++ a ∷ []) ≡ history_from user new rows r before ++ a.code ∷ []
  unfolding history_from run_from if_made
  history-move [] r a to e = ap (λ (o : Option ℕ). if_made o a.code []) e
  history-move (b ∷ before) r a to e = go (move_to user new rows r b) (history-move before (attempted user new rows r b) a to e)
    where
      go : (o : Option ℕ)
          → history_from user new rows (attempted user new rows r b) (before ++ a ∷ [])
          ≡ history_from user new rows (attempted user new rows r b) before ++ a.code ∷ []
          → if_made o b.code (history_from user new rows (attempted user new rows r b) (before ++ a ∷ []))
          ≡ if_made o b.code (history_from user new rows (attempted user new rows r b) before) ++ a.code ∷ []
      go none e = e
      go (some to) e = ap (λ (l : List ℕ). b.code ∷ l) e

pub buffer-move : (limits made : List ℕ) (b b' : List ℕ) (code : ℕ) → buffer_from limits b made ≡ some b'
    → buffer_from limits b (made ++ code ∷ []) ≡ buffer_after limits b' (kind_of code)
unfolding buffer_from
buffer-move limits made b b' code e = through-more (λ b code. buffer_after limits b (kind_of code)) made b b' code e

module _ (limits : List ℕ) (old new : Contract) where
  -- an enabled move leads where it says
  pub situation-made : (s t : Situation) (code : ℕ) (made : List ℕ) → next limits old new s code ≡ some t
      → situation_from limits old new s (code ∷ made) ≡ situation_from limits old new t made
  unfolding situation_from through bind made_by with_buffer next
  situation-made s t code made e =
      let w = enabled limits old new s t (kind_of code) e in
      rw (w.counts, w.old-goes, w.new-goes) refl

  -- one move more leads on from the situation before
  pub situation-move : (made : List ℕ) (s t : Situation) (code : ℕ) → situation_from limits old new s made ≡ some t
      → situation_from limits old new s (made ++ code ∷ []) ≡ made_by limits old new t (kind_of code)
  unfolding situation_from
  situation-move made s t code e = through-more (λ s code. made_by limits old new s (kind_of code)) made s t code e

  -- the buffer of the situation that moves lead to is the buffer that they leave
  pub situation-buffer : (made : List ℕ) (s t : Situation) → situation_from limits old new s made ≡ some t
      → buffer_from limits s.buffer made ≡ some t.buffer
  unfolding situation_from buffer_from through bind made_by
  situation-buffer [] s t e = ap (λ (s : Situation). some s.buffer) (some-injective s t e)
  situation-buffer (code ∷ made) s t e =
      let kind = kind_of code in
      let w = bind-some (made_by limits old new s kind) (λ s. situation_from limits old new s made) t e in
      let v = with-buffer-elim (buffer_after limits s.buffer kind) (old_after s.old (state old s.old) kind)
      (new_after s.new (state new s.new) kind) w.0 w.1 in
      rw (v.1 ∙ ap (λ (s : Situation). some s.buffer) v.2) (situation-buffer made w.0 t w.2)
