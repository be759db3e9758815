-- What the reader leaves behind for what was read.
-- Assumes nothing.
use Rattle.std.specs.Prelude as O
use Rattle.std.specs.Prelude.{Bool, ◌≡◌, true, false, not, List, [], ◌∷◌, ◌++◌, map, ℕ, ◌+◌, ◌-◌, ◌*◌, ◌≤◌, ◌<◌, length, get_or, set, take, drop, eqb}
use Rattle.std.proofs.Math.Option.{Option, none, some}
use Rattle.model.specs.Lists.{any, keep}
use Rattle.model.specs.Contract.{has}
use Rattle.text.specs.Grammar.{Tree}
use Rattle.text.specs.Terms.{term_of}
use Rattle.text.specs.Parser.{Parse, failed, parsed, tight_at, sums_of, whole_of, parse_of}
use Rattle.text.specs.Convert.{width_of, wrong_at, or_else, most_deep}
use Rattle.text.specs.Cells.{packed, recs_of, link_to, cells_in, bodies_in, no_owners, body_links}
use Rattle.text.specs.Places.{size_of}
use Rattle.text_reading.specs.declared.Read.{Read}
use Rattle.text_reading.specs.declared.Scope.{Scope}
use Rattle.text_reading.specs.declared.Stopped as S

-- Where reading stands: whether it can go on; the byte; what leads to the part that was read; how many places and recs were found; and the
-- first variable at fault.
pub record Standing : Type 0 where
  pub ok : Bool
  pub at : ℕ
  pub link : ℕ
  pub places : ℕ
  pub recs : ℕ
  pub wrong : Option ℕ

-- a variable at fault, as the definitions have it
abbrev pub fault_in : O.Option ℕ → Option ℕ
fault_in O.None = none
fault_in (O.Some i) = some i

-- where reading stands behind what was read
abbrev pub going : Read → Standing
going read =
    record { ok = true; at = read.at; link = read.link; places = read.places; recs = read.recs; wrong = fault_in read.wrong }

-- where it stands by an answer
abbrev pub left_by : O.Result Read S.Stopped → Standing
left_by (O.Ok read) = going read
left_by (O.Err stopped) = record { ok = false; at = stopped.at; link = 0; places = 0; recs = 0; wrong = none }

-- the variables of a mask
unfoldable pub listed : ℕ → List ℕ
listed mask = keep (has mask) (0 ∷ 1 ∷ 2 ∷ [])

-- ---- the definitions, for parts of a text

-- at most as many items in a chain as the text has bytes, and so much depth left
abbrev pub tight_in : (text : List ℕ) (depth : ℕ) → List ℕ → Parse
tight_in text depth = tight_at (length text) depth

abbrev pub sums_in : (text : List ℕ) (depth : ℕ) → List ℕ → Parse
sums_in text depth = sums_of (length text) (tight_in text depth)

abbrev pub whole_in : (text : List ℕ) (depth : ℕ) → List ℕ → Parse
whole_in text depth = whole_of (length text) (tight_in text depth)

-- ---- single steps

-- further on in the text, with nothing else found
abbrev pub onward : Standing → (at link : ℕ) → Standing
onward from at link = record { ok = true; at = at; link = link; places = from.places; recs = from.recs; wrong = from.wrong }

-- the same in a rec
abbrev pub with_rec : Standing → ℕ → Standing
with_rec from at = record { ok = true; at = at; link = 0; places = from.places; recs = from.recs + 1; wrong = from.wrong }

-- one place more, which leads to it
abbrev pub celled : Standing → Standing
celled from =
    record { ok = true; at = from.at; link = from.places + 1; places = from.places + 1; recs = from.recs; wrong = from.wrong }

-- all variables with a rec have a prefix since
abbrev pub prefixed_scope : Scope → Scope
prefixed_scope scope = record { recs = scope.recs; prefixed = scope.recs; owners = scope.owners }

-- The variables in a rec of v with this number.
pub record InRec (scope : Scope) (v number : ℕ) (inner : Scope) : Type 0 where
  pub recs_are : (w : ℕ) → any (eqb w) (listed inner.recs) ≡ any (eqb w) (v ∷ listed scope.recs)
  pub prefixed_are : (w : ℕ) → any (eqb w) (listed inner.prefixed) ≡ any (eqb w) (keep (λ u. not (eqb v u)) (listed scope.prefixed))
  pub owners_are : inner.owners ≡ set scope.owners v number

-- A cell was put behind the others.
pub record CellPut (cells : List ℕ) (from : Standing) (kind left right : ℕ) (to : Standing) (cells' : List ℕ) : Type 0 where
  pub to_is : to ≡ celled from
  pub cells_are : cells' ≡ set cells (from.places + 1) (packed (record { kind = kind; left = left; right = right }))

-- ---- parts

-- What holds where reading begins: room for what can come, and not more found than bytes read.
pub record Ready (text : List ℕ) (from : Standing) (scope : Scope) (cells bodies : List ℕ) : Type 0 where
  pub short : length text ≤ 256
  pub inside : from.at ≤ length text
  pub cells_room : length cells ≡ 257
  pub bodies_room : length bodies ≡ 64
  pub few_places : from.places ≤ from.at
  pub few_recs : 5 * from.recs ≤ from.at
  pub owners_known : length scope.owners ≡ 3

-- No derivation can go on at a byte; what is left from it on.
pub record Stopped (text r : List ℕ) (to : Standing) : Type 0 where
  pub not_ok : to.ok ≡ false
  pub inside : to.at ≤ length text
  pub left : r ≡ drop to.at text

-- A part was read: the cells of its tree and the bodies of its recs stand behind those before, and the first variable at fault is known.
pub record PartRead (text : List ℕ) (from : Standing) (scope : Scope) (cells bodies : List ℕ) (t : Tree) (r : List ℕ) (to : Standing)
    (cells' bodies' : List ℕ) : Type 0 where
  pub is_ok : to.ok ≡ true
  pub at_is : to.at ≡ from.at + width_of t
  pub inside : to.at ≤ length text
  pub left : r ≡ drop to.at text
  pub link_is : to.link ≡ link_to scope.owners from.places from.recs (term_of t)
  pub places_are : to.places ≡ from.places + size_of (term_of t)
  pub recs_are : to.recs ≡ from.recs + recs_of (term_of t)
  pub cells_are : take (1 + to.places) cells'
      ≡ take (1 + from.places) cells ++ map packed (cells_in scope.owners from.places from.recs (term_of t))
  pub bodies_are : take to.recs bodies' ≡ take from.recs bodies ++ bodies_in scope.owners from.places from.recs (term_of t)
  pub wrong_is : to.wrong ≡ or_else from.wrong (wrong_at (listed scope.recs) (listed scope.prefixed) from.at t)
  pub cells_room : length cells' ≡ 257
  pub bodies_room : length bodies' ≡ 64

-- What the reader leaves for what one of its definitions gives.
pub data ReadAs (text : List ℕ) (from : Standing) (scope : Scope) (cells bodies : List ℕ) (p : Parse) (to : Standing) (cells' bodies' : List ℕ)
    : Type 0 where
  fails : (r : List ℕ) → p ≡ failed r → Stopped text r to → length cells' ≡ 257 → length bodies' ≡ 64
      → ReadAs text from scope cells bodies p to cells' bodies'
  reads : (t : Tree) (r : List ℕ) → p ≡ parsed t r → PartRead text from scope cells bodies t r to cells' bodies'
      → ReadAs text from scope cells bodies p to cells' bodies'

-- ---- a whole text

-- All of a text was read: its cells behind the one of the end, and the bodies of its recs.
pub record WholeRead (cells : List ℕ) (t : Tree) (r : List ℕ) (to : Standing) (cells' bodies' : List ℕ) : Type 0 where
  pub is_ok : to.ok ≡ true
  pub nothing_left : r ≡ []
  pub link_is : to.link ≡ link_to no_owners 0 0 (term_of t)
  pub places_are : to.places ≡ size_of (term_of t)
  pub recs_are : to.recs ≡ recs_of (term_of t)
  pub cells_are : take (1 + to.places) cells' ≡ get_or cells 0 0 ∷ map packed (cells_in no_owners 0 0 (term_of t))
  pub bodies_are : take to.recs bodies' ≡ body_links (term_of t)
  pub wrong_is : to.wrong ≡ wrong_at [] [] 0 t

-- What is left for a text: the byte at which no derivation can go on, or all of it.
pub record TextRead (text cells : List ℕ) (to : Standing) (cells' bodies' : List ℕ) : Type 0 where
  pub unread : (r : List ℕ) → parse_of most_deep text ≡ failed r → (to.ok ≡ false) × (to.at ≡ length text - length r)
  pub read : (t : Tree) (r : List ℕ) → parse_of most_deep text ≡ parsed t r → WholeRead cells t r to cells' bodies'
