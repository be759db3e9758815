-- What can be done along a list of actions: by a contract, and by nodes. Request 1/13: "for every sequence of actions both have the same
-- ready sets".
-- Assumes nothing.
use Rattle.std.specs.Prelude.{cond, List, ℕ, ltb}
use Rattle.std.proofs.Math.Option.{Option, none, some, map}
use Rattle.model.specs.Lists.{through}
use Rattle.model.specs.Contract.{Contract, state, offers, after}

module _ {N : Type 0} (next : N → ℕ → Option N) where
  -- one action, if it is one of the fourteen
  unfoldable pub by_action : N → ℕ → Option N
  by_action x j = cond (ltb j 14) (next x j) none

  -- the node after a list of actions, if all of them can be done in order
  unfoldable pub node_after : N → List ℕ → Option N
  node_after x word = through by_action x word

-- one action of a contract's state, if the state offers it: the continuation, definition 2.3 of Padovani 2010
unfoldable pub goes_on : Contract → ℕ → ℕ → Option ℕ
goes_on c q j = cond (offers (state c q) j) (some (after (state c q) j)) none

-- the state after a list of actions, if each is offered where it is due
unfoldable pub state_after : Contract → ℕ → List ℕ → Option ℕ
state_after c = node_after (goes_on c)

-- the ready sets after a list of actions, from the start, if all can be done: those of a contract
unfoldable pub ready_after : Contract → List ℕ → Option (List ℕ)
ready_after c word = map (λ (q : ℕ). (state c q).ready) (state_after c 0 word)

-- and those of nodes
unfoldable pub nodes_ready : {N : Type 0} → (N → ℕ → Option N) → (N → List ℕ) → N → List ℕ → Option (List ℕ)
nodes_ready next ready start word = map ready (node_after next start word)
