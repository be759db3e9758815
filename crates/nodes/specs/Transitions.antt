-- What a contract that moves on by itself means: its arrows, and the ready sets behind a sequence of actions, in the terms of Padovani
-- 2010, section 2. Over whatever the states are, with their internal moves and their actions: the rows of a choosing sheet (request
-- 1/13), the terms of the paper (request 7/13).
-- Assumes nothing.
use Rattle.std.specs.Prelude.{◌≡◌, ◌↔◌, ℕ, ◌<◌, T}
use mathlib.Core.List.{List, [], ◌∷◌, Memᴰ}
use Rattle.std.proofs.Math.Option.{some}
use Rattle.model.specs.Contract.{Contract, has}
use Rattle.nodes.specs.Words.{ready_after}

-- σ ⟶ σ' is `Hides`, an internal move
module _ {S : Type 0} (Hides : S → S → Type 0) where
  -- σ ⟹ σ': any number of internal moves
  pub data Silently : S → S → Type 0 where
    rests : {r s : S} → r ≡ s → Silently r s
    goes_on : {r s t : S} → Hides r s → Silently s t → Silently r t

  -- σ ⟶̸: no internal move is left
  abbrev pub Stable : S → Type 0
  Stable r = (s : S) → Hides r s → ⊥

  -- σ ⟶α σ' is `Does`, an action
  module _ (Does : S → ℕ → S → Type 0) where
    -- σ ⟹φ σ': the actions of φ in order, internal moves before, between and behind them
    pub data Along : List ℕ → S → S → Type 0 where
      ends : {r s : S} → Silently r s → Along [] r s
      does : {word : List ℕ} {r s t u : S} (j : ℕ) → j < 14 → Silently r s → Does s j t → Along word t u → Along (j ∷ word) r u

    -- a part of the continuation of definition 2.3: a state directly behind the actions of φ, internal moves only before and between them
    pub data Behind : List ℕ → S → S → Type 0 where
      at_once : {r s : S} → r ≡ s → Behind [] r s
      acts : {word : List ℕ} {r s t u : S} (j : ℕ) → j < 14 → Silently r s → Does s j t → Behind word t u → Behind (j ∷ word) r u

    -- R = init(σ), R a mask: the actions that σ does
    abbrev pub Initial : S → ℕ → Type 0
    Initial r R = (R < 16384) × ((j : ℕ) → j < 14 → T (has R j) ↔ ((s : S) × Does r j s))

    -- Definition 2.5 behind a word: "σ ⟹ σ' ⟶̸ and R = init(σ')", the first arrow along φ
    abbrev pub ReadyBy : S → List ℕ → ℕ → Type 0
    ReadyBy start word R = (s : S) × Along word start s × Stable s × Initial s R

    -- the word can be done
    abbrev pub CanDo : S → List ℕ → Type 0
    CanDo start word = (s : S) × Along word start s

    -- "for every sequence of actions both have the same ready sets": a mask is a ready set behind the word in the contract exactly if it is
    -- one behind it from the start; and both can do the word, or neither
    pub record SameBehind (start : S) (made : Contract) (word : List ℕ) : Type 0 where
      pub same_ready : (R : ℕ) → ((l : List ℕ) × (ready_after made word ≡ some l) × Memᴰ R l) ↔ ReadyBy start word R
      pub same_can : ((l : List ℕ) × (ready_after made word ≡ some l)) ↔ CanDo start word
