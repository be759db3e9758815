-- What joining a family with the ready sets of a part gives, told the cells of the places.
-- Assumes nothing.
use Rattle.std.specs.Prelude.{◌≡◌, ◌↔◌, ℕ, ◌+◌, ◌*◌, ◌<◌, ◌≤◌, min, length, get_or, take, drop, T}
use mathlib.Core.List.{List, Memᴰ}
use Rattle.model.specs.Contract.{has}
use Rattle.little_endian.specs.Front.{front}
use Rattle.nodes.specs.Sets.{sorted}
use Rattle.families.specs.Families.{in_family}
use Rattle.text.specs.Places.{Sense, sense_at}
use Rattle.text.specs.Cells.{Explained, unpacked, place_of}
use Rattle.text_ready.specs.Joined.{Family, Joined, Absorbs, United}

-- a place with an internal choice
pub record Choice (cells : List ℕ) (p : ℕ) : Type 0 where
  pub after : 0 < p
  pub inside : p < length cells
  pub inner : (unpacked (get_or cells p 0)).kind ≡ 15

-- a family that has the masks of a list and no others
abbrev pub Holds : List ℕ → List ℕ → Type 0
Holds family l = (m : ℕ) → m < 16384 → T (in_family family m) ↔ Memᴰ m l

module _ (cells bodies : List ℕ) where
  -- the ready sets of what a link leads to
  unfoldable pub ready_by : List Sense → ℕ → List ℕ
  ready_by senses link = (sense_at senses (place_of cells bodies link)).ready

  -- a family absorbs the ready sets of the bodies of recs: a bit for each
  abbrev pub Settled : List Sense → Family → ℕ → Type 0
  Settled senses F recs = (r : ℕ) → r < 64 → T (has recs r) → Absorbs F (ready_by senses (256 + r))

  -- The numbers in the place of rec r are the family of its body.
  abbrev pub HoldsBody : List Sense → List ℕ → ℕ → Type 0
  HoldsBody senses held r = Holds (take 256 (drop (256 * r) held)) (ready_by senses (get_or bodies r 0))

  -- so it is for the recs below n
  abbrev pub HeldBelow : List Sense → List ℕ → ℕ → Type 0
  HeldBelow senses held n = (r : ℕ) → r < n → HoldsBody senses held r

  -- so it is for the first recs, as many as there is room for
  abbrev pub Held : List Sense → List ℕ → Type 0
  Held senses held = (r : ℕ) → 256 * (r + 1) ≤ length held → HoldsBody senses held r

  -- so it is, whatever the cells mean
  abbrev pub HeldAlways : List ℕ → Type 0
  HeldAlways held = (senses : List Sense) → Explained cells bodies senses → Held senses held

  -- The family of the body of rec r is put behind those of the recs below it.
  pub record HeldMore (r : ℕ) (held held' : List ℕ) : Type 0 where
    pub room : length held' ≡ length held
    pub more : (senses : List Sense) → Explained cells bodies senses → HeldBelow senses held r → HeldBelow senses held' (r + 1)

  -- The family is joined with what a link leads to. What it absorbed it absorbs still, and perhaps more.
  pub record JoinedBy (held : List ℕ) (link recs : ℕ) (family family' : List ℕ) (recs' : ℕ) : Type 0 where
    pub room : length family' ≡ 256
    pub joined : (senses : List Sense) → Explained cells bodies senses → Held senses held → Settled senses (in_family family) recs
        → Joined (in_family family) (ready_by senses link) (in_family family')
    pub settled : (senses : List Sense) → Explained cells bodies senses → Held senses held → Settled senses (in_family family) recs
        → Settled senses (in_family family') recs'

  -- One part of an internal choice more: what joining gives for it is put into one family with the others.
  pub record Added (held : List ℕ) (link recs : ℕ) (start all all' : List ℕ) (kept kept' : ℕ) : Type 0 where
    pub room : length all' ≡ 256
    pub added : (senses : List Sense) → Explained cells bodies senses → Held senses held → Settled senses (in_family start) recs
        → (P : Family) × Joined (in_family start) (ready_by senses link) P × United (in_family all) P (in_family all')
        × ((r : ℕ) → r < 64 → T (has kept' r) → T (has kept r) × Absorbs P (ready_by senses (256 + r)))

  -- The ready sets of a place in order, eight of them at most, at the front of what is lent; r says how many there are, 9 for more.
  abbrev pub PlaceReady : (held : List ℕ) (place : ℕ) (lent : List ℕ) (r : ℕ) (out : List ℕ) → Type 0
  PlaceReady held place lent r out =
      (senses : List Sense) → Explained cells bodies senses → Held senses held
      → (r ≡ min 9 (length (sorted (sense_at senses place).ready))) × (out ≡ front (take 8 (sorted (sense_at senses place).ready)) lent)
