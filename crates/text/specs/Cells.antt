-- The places of a term in numbers, as the code keeps them: a cell for each place, and for each rec where its body is. Request 7/13.
-- Assumes nothing.
use Rattle.std.specs.Prelude.{◌≡◌, cond, List, [], ◌∷◌, ◌++◌, map, ℕ, suc, ◌+◌, ◌-◌, ◌*◌, ◌/◌, ◌%◌, ◌^◌, ◌<◌, ◌≤◌, length, get_or, set, ltb}
use Rattle.std.specs.Int.Bits.{bit_or}
use Rattle.model.specs.Lists.{combine}
use Rattle.text.specs.Terms.{Term, end, before, plus, inner, loop, name}
use Rattle.text.specs.Places.{Sense, sense_at, size_of}

-- A cell: an action, or 14 for + and 15 for (+); and what it leads to. 0 is the end, numbers to 255 are places, and 256 and a rec's number
-- is its body, for a variable. Recs are numbered from 0, in the order of the text. A prefix leads to `left` alone.
pub record Cell : Type 0 where
  pub kind : ℕ
  pub left : ℕ
  pub right : ℕ

-- a cell as one number
unfoldable pub packed : Cell → ℕ
packed c = c.kind + 16 * c.left + 8192 * c.right

-- and back
unfoldable pub unpacked : ℕ → Cell
unpacked x = record { kind = x % 16; left = x / 16 % 512; right = x / 8192 }

-- the rec of each of the variables X, Y, Z, by number
abbrev pub Owners : Type 0
Owners = List ℕ

-- how many recs a term has
unfoldable pub recs_of : Term → ℕ
recs_of end = 0
recs_of (before j t) = recs_of t
recs_of (plus t u) = recs_of t + recs_of u
recs_of (inner t u) = recs_of t + recs_of u
recs_of (loop v t) = suc (recs_of t)
recs_of (name v) = 0

-- what leads to a part with n places and r recs before it
unfoldable pub link_to : Owners → (n r : ℕ) → Term → ℕ
link_to owners n r end = 0
link_to owners n r (before j t) = suc (n + size_of t)
link_to owners n r (plus t u) = suc (n + (size_of t + size_of u))
link_to owners n r (inner t u) = suc (n + (size_of t + size_of u))
link_to owners n r (loop v t) = link_to (set owners v r) n (suc r) t
link_to owners n r (name v) = 256 + get_or owners v 0

-- the cell of a choice, of kind 14 or 15
unfoldable pub choice_cell : Owners → (n r kind : ℕ) → Term → Term → Cell
choice_cell owners n r kind t u =
    record { kind = kind; left = link_to owners n r t; right = link_to owners (n + size_of t) (r + recs_of t) u }

-- the cells of a part, in the order of their places
unfoldable pub cells_in : Owners → (n r : ℕ) → Term → List Cell
cells_in owners n r end = []
cells_in owners n r (before j t) = cells_in owners n r t ++ (record { kind = j; left = link_to owners n r t; right = 0 } ∷ [])
cells_in owners n r (plus t u) =
    cells_in owners n r t ++ (cells_in owners (n + size_of t) (r + recs_of t) u ++ (choice_cell owners n r 14 t u ∷ []))
cells_in owners n r (inner t u) =
    cells_in owners n r t ++ (cells_in owners (n + size_of t) (r + recs_of t) u ++ (choice_cell owners n r 15 t u ∷ []))
cells_in owners n r (loop v t) = cells_in (set owners v r) n (suc r) t
cells_in owners n r (name v) = []

-- what leads to the bodies of its recs, in the order of their numbers
unfoldable pub bodies_in : Owners → (n r : ℕ) → Term → List ℕ
bodies_in owners n r end = []
bodies_in owners n r (before j t) = bodies_in owners n r t
bodies_in owners n r (plus t u) = bodies_in owners n r t ++ bodies_in owners (n + size_of t) (r + recs_of t) u
bodies_in owners n r (inner t u) = bodies_in owners n r t ++ bodies_in owners (n + size_of t) (r + recs_of t) u
bodies_in owners n r (loop v t) = link_to (set owners v r) n (suc r) t ∷ bodies_in (set owners v r) n (suc r) t
bodies_in owners n r (name v) = []

-- no variable has a rec yet
unfoldable pub no_owners : Owners
no_owners = 0 ∷ 0 ∷ 0 ∷ []

-- all cells of a term as numbers, that of the end first, which nobody reads
unfoldable pub cell_numbers : Term → List ℕ
cell_numbers t = 0 ∷ map packed (cells_in no_owners 0 0 t)

-- all bodies of its recs
unfoldable pub body_links : Term → List ℕ
body_links t = bodies_in no_owners 0 0 t

-- ---- what cells mean

module _ (cells bodies : List ℕ) where
  unfoldable pub cell_at : ℕ → Cell
  cell_at p = unpacked (get_or cells p 0)

  -- the place that a link leads to
  unfoldable pub place_of : ℕ → ℕ
  place_of link = cond (ltb link 256) link (get_or bodies (link - 256) 0)

  -- A link can be followed to its end, through choices, to prefixes: recs below `bound`, each to recs below itself. The body of a rec that is
  -- led to is a place.
  pub data Ends : (bound link : ℕ) → Type 0 where
    at_end : (b : ℕ) → Ends b 0
    at_prefix : (b p : ℕ) → 0 < p → p < 256 → p < length cells → (cell_at p).kind < 14 → Ends b p
    at_choice : (b p : ℕ) → 0 < p → p < 256 → p < length cells → 14 ≤ (cell_at p).kind
        → ((cell_at p).left < 256 → (cell_at p).left < p) → ((cell_at p).right < 256 → (cell_at p).right < p)
        → Ends b (cell_at p).left → Ends b (cell_at p).right → Ends b p
    at_variable : (b r : ℕ) → r < b → r < length bodies → get_or bodies r 0 < 256 → Ends r (get_or bodies r 0) → Ends b (256 + r)

  -- Cells say what places mean.
  pub record Explained (senses : List Sense) : Type 0 where
    pub as_many : length senses ≡ length cells
    pub few : length cells ≤ 256
    -- every place, and what a prefix leads to, can be followed to its end, with so many recs in all
    pub ends : (p : ℕ) → p < length cells → Ends (length bodies) p
    pub prefix_ends : (p : ℕ) → 0 < p → p < length cells → (cell_at p).kind < 14 → Ends (length bodies) (cell_at p).left
    -- so can every body, through recs before its own; it may be no place but another rec's variable, as that of Y in recX.a.recY.X
    pub body_ends : (r : ℕ) → r < length bodies → Ends r (get_or bodies r 0)
    -- a prefix: its action is its own only ready set and step
    pub prefix_ready : (p : ℕ) → 0 < p → p < length cells → (cell_at p).kind < 14 → (sense_at senses p).ready ≡ 2 ^ (cell_at p).kind ∷ []
    pub prefix_steps : (p : ℕ) → 0 < p → p < length cells → (cell_at p).kind < 14
        → (sense_at senses p).steps ≡ record { action = (cell_at p).kind; to = place_of (cell_at p).left } ∷ []
    -- + and (+)
    pub plus_ready : (p : ℕ) → 0 < p → p < length cells → (cell_at p).kind ≡ 14
        → (sense_at senses p).ready
        ≡ combine bit_or (sense_at senses (place_of (cell_at p).left)).ready (sense_at senses (place_of (cell_at p).right)).ready
    pub inner_ready : (p : ℕ) → 0 < p → p < length cells → (cell_at p).kind ≡ 15
        → (sense_at senses p).ready ≡ (sense_at senses (place_of (cell_at p).left)).ready ++ (sense_at senses (place_of (cell_at p).right)).ready
    pub choice_steps : (p : ℕ) → 0 < p → p < length cells → 14 ≤ (cell_at p).kind
        → (sense_at senses p).steps ≡ (sense_at senses (place_of (cell_at p).left)).steps ++ (sense_at senses (place_of (cell_at p).right)).steps
    -- the end
    pub end_ready : (sense_at senses 0).ready ≡ 0 ∷ []
    pub end_steps : (sense_at senses 0).steps ≡ []
