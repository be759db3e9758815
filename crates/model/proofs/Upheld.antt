-- Any rows and situations: what is asked of an invariant that ties plan states to situations, so that every move of a run over the rows is
-- one of situations.
-- Assumes nothing.
use mathlib.Core.Path.{◌≡◌, refl, sym, ap, subst, ◌∙◌}
use mathlib.Core.Option.{some}
use mathlib.Core.List.{List, [], Memᴰ}
use Prim.Native.Nat.{ℕ}
use lib.ListN.{get_or}
use lib.Dec.{T}
use Rattle.model.specs.Contract.{Contract, state}
use Rattle.model.specs.Situation.{Situation, kind_of, start, new_after, next}
use Rattle.model.specs.Plan.{Move, held}
use Rattle.model.specs.Run.{need}
use Rattle.model.specs.Test.{Mode}
use Rattle.model.specs.Weak.{Asks, AsksAt}
use Rattle.model.proofs.Moves.{enabled}

-- the codes that the row of plan state i holds
abbrev pub HeldAt : List (List Move) → ℕ → ℕ → Type 0
HeldAt rows i code = (to : ℕ) × (held (get_or rows i []) code ≡ some to)

-- Situations are of the contracts `old` and `new`; the service of a run follows the contract `serving`, which can be another than `new`.
module _ (mode : Mode) (limits : List ℕ) (old new serving : Contract) (rows : List (List Move)) where
  -- an invariant of plan state i, service state q and situation s is upheld by the moves of the rows
  pub record Upheld (I : (i q : ℕ) → Situation → Type 0) : Type 0 where
    -- it holds at the start
    pub begins : I 0 0 start
    -- a move that the row holds, with a need that some choice meets, is enabled in the situation, and where all three go it holds again
    pub goes_on : (i q : ℕ) (s : Situation) → I i q s
        → (R S code to : ℕ) → Memᴰ S (state serving q).ready → T (need R S (kind_of code)) → held (get_or rows i []) code ≡ some to
        → (t : Situation) × (next limits old new s code ≡ some t) × I to (new_after q (state serving q) (kind_of code)) t
    -- what the mode asks holds of the old state, the service's and the buffer, with the codes of the row
    pub asks : (i q : ℕ) (s : Situation) → I i q s → Asks mode (state old s.old) (state serving q) s.buffer (HeldAt rows i)

-- ---- the service follows the new contract

-- plan state i stands for the situation, and q is its new state
abbrev pub Standing : (ℕ → Situation → Type 0) → (i q : ℕ) → Situation → Type 0
Standing J i q s = J i s × (s.new ≡ q)

module _ (mode : Mode) (limits : List ℕ) (old new : Contract) (rows : List (List Move)) where
  -- The same of plan state i and situation s alone: plan states stand for situations, and the service is in the situation's new state.
  pub record StandFor (J : ℕ → Situation → Type 0) : Type 0 where
    pub begins : J 0 start
    pub goes_on : (i : ℕ) (s : Situation) → J i s
        → (R S code to : ℕ) → Memᴰ S (state new s.new).ready → T (need R S (kind_of code)) → held (get_or rows i []) code ≡ some to
        → (t : Situation) × (next limits old new s code ≡ some t) × J to t
    pub asks : (i : ℕ) (s : Situation) → J i s → AsksAt mode old new (HeldAt rows i) s

  -- so that is an upheld invariant
  pub stand-upheld : (J : ℕ → Situation → Type 0) → StandFor J → Upheld mode limits old new new rows (Standing J)
  unfolding start next
  stand-upheld J f =
      record {
        begins = (f.begins, refl);
        goes_on = λ i q s x R S code to m n h.
            let w = f.goes_on i s x.0 R S code to (subst (λ (q : ℕ). Memᴰ S (state new q).ready) (sym x.1) m) n h in
            let e = enabled limits old new s w.0 (kind_of code) w.1 in
            (w.0, w.1, (w.2, sym e.new-goes ∙ ap (λ (q : ℕ). new_after q (state new q) (kind_of code)) x.1));
        asks = λ i q s x.
            subst (λ (q : ℕ). Asks mode (state old s.old) (state new q) s.buffer (HeldAt rows i)) x.1 (f.asks i s x.0);
      }
