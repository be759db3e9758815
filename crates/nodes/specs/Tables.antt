-- The states of a contract in numbers, at fixed places of three lists, as the writer of a sheet takes them.
-- Assumes nothing.
use Rattle.std.specs.Prelude.{◌≡◌, List, map, ℕ, ◌+◌, ◌*◌, ◌≤◌, ◌<◌, length, get_or, take, drop}
use Rattle.model.specs.Lists.{keep, upto}
use Rattle.model.specs.Contract.{State, actions, has, offers_in}

-- The states of a contract in numbers: the count of state q's ready sets is number q of `sizes`, its ready sets stand from place 8·q of
-- `ready` on, and its successor by action j at place 14·q+j of `next`.
pub record Tables : Type 0 where
  pub sizes : List ℕ
  pub ready : List ℕ
  pub next : List ℕ

-- the ready sets of state q
unfoldable pub ready_at : (sizes ready : List ℕ) → ℕ → List ℕ
ready_at sizes ready q = take (get_or sizes q 0) (drop (8 * q) ready)

-- a state with these ready sets, and "one successor byte for each offered action, actions ascending": that of action j is number base + j
-- of `next`
unfoldable pub state_with : (masks next : List ℕ) (base : ℕ) → State
state_with masks next base =
    record { ready = masks; successors = map (λ j. get_or next (base + j) 0) (keep (offers_in masks) actions) }

-- the successors of the actions in a mask, actions ascending, from the same places
unfoldable pub successors_of : (next : List ℕ) (base mask : ℕ) → List ℕ
successors_of next base mask = map (λ j. get_or next (base + j) 0) (keep (has mask) actions)

-- state q of the tables
unfoldable pub state_in : Tables → ℕ → State
state_in t q = state_with (ready_at t.sizes t.ready q) t.next (14 * q)

-- the first `count` states of the tables
unfoldable pub states_in : Tables → ℕ → List State
states_in t count = map (state_in t) (upto 0 count)

-- "A row is: count of ready sets; each ready set as a 16-bit mask ...; one successor byte for each offered action": the length of the row
-- of a state with these ready sets
unfoldable pub row_size : List ℕ → ℕ
row_size masks = 1 + 2 * length masks + length (keep (offers_in masks) actions)

-- the places of 64 states, of which `count` are held, with at most 8 ready sets each
pub record HeldSets (sizes ready : List ℕ) (count : ℕ) : Type 0 where
  pub few : count ≤ 64
  pub sizes_room : length sizes ≡ 64
  pub ready_room : length ready ≡ 512
  pub few_ready : (q : ℕ) → q < count → get_or sizes q 0 ≤ 8

-- the same with the places of their successors
pub record Held (t : Tables) (count : ℕ) : Type 0 where
  pub sets : HeldSets t.sizes t.ready count
  pub next_room : length t.next ≡ 896
