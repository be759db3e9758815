-- Contracts: states, ready sets, continuations. Document 01, "Contracts as sheets".
-- Assumes nothing.
use Rattle.std.specs.Prelude.{Bool, cond, ◌&&◌, List, [], ℕ, ◌+◌, ◌-◌, ◌/◌, ◌%◌, ◌^◌, length, get_or, eqb, ltb}
use Rattle.model.specs.Lists.{any, keep, upto}

-- A state: its ready sets as masks, and "one successor byte for each offered action, actions ascending".
pub record State : Type 0 where
  pub ready : List ℕ
  pub successors : List ℕ

-- A contract over the names 0 to n-1. "State 0 is the start."
pub record Contract : Type 0 where
  pub n : ℕ
  pub states : List State

-- "Action i (0 to 6) takes name i, action 7+i sends it"
unfoldable pub actions : List ℕ
actions = upto 0 14

-- an action takes its name; else it sends it
unfoldable pub takes : ℕ → Bool
takes j = ltb j 7

-- the name that an action takes or sends
unfoldable pub name : ℕ → ℕ
name j = cond (takes j) j (j - 7)

-- "each is the other's partner"
unfoldable pub partner : ℕ → ℕ
partner j = cond (takes j) (j + 7) (j - 7)

-- "Mask bit j is action j. Bit 14 is the success mark"
unfoldable pub has : ℕ → ℕ → Bool
has mask j = eqb (mask / 2 ^ j % 2) 1

-- a state without ready sets, which is no state of a sheet
unfoldable pub nowhere : State
nowhere = record { ready = []; successors = [] }

-- the state with a number; `nowhere` if there is none
unfoldable pub state : Contract → ℕ → State
state c q = get_or c.states q nowhere

-- "It offers an action if some ready set has it"
unfoldable pub offers_in : List ℕ → ℕ → Bool
offers_in ready j = any (λ mask. has mask j) ready

-- the same of a state
unfoldable pub offers : State → ℕ → Bool
offers s j = offers_in s.ready j

-- how many actions below j a state offers: the place of j's successor among the successors
unfoldable pub offered_below : State → ℕ → ℕ
offered_below s j = length (keep (λ i. ltb i j && offers s i) actions)

-- "and then has exactly one successor for it": the continuation, definition 2.3 of Padovani 2010
unfoldable pub after : State → ℕ → ℕ
after s j = get_or s.successors (offered_below s j) 0
