-- What the parts of a term give: the definitions of cells, bodies and held families, told them as one struct.
-- Assumes nothing.
use Rattle.std.specs.Prelude.{List, ℕ}
use Rattle.text.specs.Cells.{Ends}
use Rattle.text_ready.specs.declared.Parts.{Parts}
use Rattle.text_ready.specs.Ready.{Choice, JoinedBy, Added, PlaceReady}

-- a link can be followed to its end
abbrev pub Leads : Parts → (bound link : ℕ) → Type 0
Leads p = Ends p.cells.now p.bodies.now

-- a link leads to an internal choice
abbrev pub Chooses : Parts → (link : ℕ) → Type 0
Chooses p = Choice p.cells.now

-- a family is joined with what a link leads to
abbrev pub Joins : Parts → (link recs : ℕ) (family family' : List ℕ) (recs' : ℕ) → Type 0
Joins p = JoinedBy p.cells.now p.bodies.now p.held.now

-- one part of an internal choice more
abbrev pub Adds : Parts → (link recs : ℕ) (start all all' : List ℕ) (kept kept' : ℕ) → Type 0
Adds p = Added p.cells.now p.bodies.now p.held.now

-- the ready sets of a place
abbrev pub Readies : Parts → (place : ℕ) (lent : List ℕ) (r : ℕ) (out : List ℕ) → Type 0
Readies p = PlaceReady p.cells.now p.bodies.now p.held.now
