-- The most demanding client that a contract satisfies: σ⊤ in the proof of proposition 3.6 of Padovani 2010. In the settled mode of document
-- 02, request 5/13, the most demanding one is content wherever the contract may be done.
-- Assumes nothing.
use Rattle.std.specs.Prelude.{cond, ◌&&◌, List, [], ◌∷◌, map, ℕ, ◌^◌}
use Rattle.std.specs.Int.Bits.{bit_or}
use Rattle.model.specs.Lists.{keep, combine}
use Rattle.model.specs.Contract.{Contract, State, actions, partner, has, offers_in, after}
use Rattle.model.specs.Test.{Mode, is_settled, silent, rests}

-- what the client may ask of a ready set: if it is empty the success mark, "e if R = ∅"; else the partner of one of its actions, as the
-- client pleases, "⊕ ᾱ ... otherwise"
unfoldable pub demands_of : ℕ → List ℕ
demands_of r = cond (silent r) (2 ^ 14 ∷ []) (map (λ j. 2 ^ partner j) (keep (has r) actions))

-- its ready sets: one such demand of each ready set of the contract, all at once, "Σ"
unfoldable pub demands_of_all : List ℕ → List ℕ
demands_of_all [] = 0 ∷ []
demands_of_all (r ∷ ready) = combine bit_or (demands_of r) (demands_of_all ready)

-- The same in a mode. Where the contract's state has an empty ready set the settled client has the success mark alone: it asks for nothing
-- more. So what still waits for the service must be delivered without its help.
unfoldable pub demands_at : Mode → State → List ℕ
demands_at mode p = cond (is_settled mode && rests p) (2 ^ 14 ∷ []) (demands_of_all p.ready)

-- by a partner it goes on as the contract goes on by the action, "ᾱ.σ(α)⊤"
unfoldable pub demanding_state : Mode → State → State
demanding_state mode p =
    record {
      ready = demands_at mode p;
      successors = map (λ i. after p (partner i)) (keep (offers_in (demands_at mode p)) actions);
    }

-- the client: a state for each state of the contract
unfoldable pub demanding : Mode → Contract → Contract
demanding mode c = record { n = c.n; states = map (demanding_state mode) c.states }
