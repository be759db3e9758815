-- Parts of a sheet by the tables, one piece further: a mask, a successor if its action is offered, a row, an entry of the index. Each is
-- the head of what is left, and a row takes as many bytes as its ready sets say.
-- Assumes nothing.
use mathlib.Core.Path.{◌≡◌, refl, sym, ap, subst, ◌∙◌}
use mathlib.Core.Bool.{Bool, true, false, cond}
use mathlib.Core.List.{List, [], ◌∷◌, ◌++◌, map}
use Prim.Native.Nat.{ℕ, suc, ◌+◌, ◌-◌, ◌*◌, ◌≤◌, ◌<◌}
use native.Mathlib.Omega.{arith}
use lib.ListN.{length, get_or, take, drop, length-append, length-map, length-take, length-drop, drop_of_length-le}
use lib.Seq.{drop-cons}
use Rattle.model.specs.Lists.{keep, upto}
use Rattle.model.specs.Bytes.{le16}
use Rattle.model.specs.Contract.{actions, has, offers_in}
use Rattle.model.proofs.Actions.{length-upto}
use Rattle.walks.proofs.Rest.{rest_of, with_rest}
use Rattle.little_endian.specs.Front.{front, Wrote}
use Rattle.little_endian.proofs.Writing.{wrote_then}
use Rattle.sheet.specs.Union.{union_of, ones_below}
use Rattle.sheet.proofs.Union.{has-union}
use Rattle.sheet.proofs.Ones.{keep_same, ones-offered}
use Rattle.nodes.specs.SheetBytes.{mask_bytes, state_row_bytes, layout_rows, layout_index}
use Rattle.nodes.specs.Tables.{Tables, ready_at, state_with, successors_of, state_in, states_in, row_size, HeldSets}
use Rattle.nodes.proofs.Parts.{length-index}
use Rattle.nodes.proofs.Sheets.{length-masks, length-row, offered-few}
use Rattle.nodes.proofs.Writing.{Next}

-- ---- numbers and masks one further

-- the numbers from q on, below `count`
numbers_more : (q count : ℕ) → q < count → upto q (count - q) ≡ q ∷ upto (q + 1) (count - (q + 1))
unfolding upto
numbers_more q count h =
    let left : count - q ≡ suc (count - (q + 1)) = omega arith in
    let next : suc q ≡ q + 1 = omega arith in
    ap (upto q) left ∙ ap (λ (n : ℕ). q ∷ upto n (count - (q + 1))) next

numbers-end : (q count : ℕ) → count ≤ q → upto q (count - q) ≡ []
unfolding upto
numbers-end q count h = let left : count - q ≡ 0 = omega arith in ap (upto q) left

-- the masks from i on
pub masks-more : (masks : List ℕ) (i : ℕ) → i < length masks
    → Next (mask_bytes (drop i masks)) (le16 (get_or masks i 0)) (mask_bytes (drop (i + 1) masks))
unfolding mask_bytes
masks-more masks i h =
    let next : suc i ≡ i + 1 = omega arith in
    record { is = ap mask_bytes (drop-cons masks i 0 h) ∙ ap (λ (n : ℕ). le16 (get_or masks i 0) ++ mask_bytes (drop n masks)) next }

pub masks-end : (masks : List ℕ) (i : ℕ) → length masks ≤ i → mask_bytes (drop i masks) ≡ []
unfolding mask_bytes
masks-end masks i h = ap mask_bytes (drop_of_length-le masks h)

-- ---- successors one further

-- the head of a list is kept or not
kept_or_not : (f : ℕ → ℕ) (j : ℕ) (later : List ℕ) (u : Bool) {t : Bool} → t ≡ u
    → map f (cond u (j ∷ later) later) ≡ cond t (f j ∷ []) [] ++ map f later
kept_or_not f j later true e = rw e refl
kept_or_not f j later false e = rw e refl

module _ (next : List ℕ) (base mask : ℕ) where
  -- where each stands
  abbrev to : ℕ → ℕ
  to j = get_or next (base + j) 0

  -- those of the actions from j on
  abbrev pub successors_from : ℕ → List ℕ
  successors_from j = map to (keep (has mask) (upto j (14 - j)))

  pub successors-all : successors_from 0 ≡ successors_of next base mask
  unfolding successors_of actions
  successors-all = refl

  -- action j has a successor if the mask has it
  pub successors-more : (j : ℕ) {t : Bool} → j < 14 → t ≡ has mask j
      → Next (successors_from j) (cond t (get_or next (base + j) 0 ∷ []) []) (successors_from (j + 1))
  unfolding keep
  successors-more j h e =
      record {
        is =
            ap (λ (l : List ℕ). map to (keep (has mask) l)) (numbers_more j 14 h)
            ∙ kept_or_not to j (keep (has mask) (upto (j + 1) (14 - (j + 1)))) (has mask j) e;
      }

  pub successors-end : (j : ℕ) → 14 ≤ j → successors_from j ≡ []
  unfolding keep
  successors-end j h = ap (λ (l : List ℕ). map to (keep (has mask) l)) (numbers-end j 14 h)

  -- as many as the mask has actions
  pub successors-length : length (successors_of next base mask) ≡ ones_below mask 14
  unfolding successors_of ones_below actions
  successors-length = length-map (keep (has mask) (upto 0 14)) to

-- ---- the length of a row

-- whatever its successors are
pub row-size : (masks next : List ℕ) (base : ℕ) → length (state_row_bytes (state_with masks next base)) ≡ row_size masks
unfolding state_with row_size
row-size masks next base =
    omega (
      arith,
      length-row (state_with masks next base),
      length-map (keep (offers_in masks) actions) (λ j. get_or next (base + j) 0),
    )

-- by the bits of the union of its ready sets
pub row-size-ones : (masks : List ℕ) → row_size masks ≡ 1 + 2 * length masks + ones_below (union_of masks) 14
unfolding row_size
row-size-ones masks = ap (λ (n : ℕ). 1 + 2 * length masks + n) (ones-offered masks)

-- ---- a state that is held

module _ {sizes ready : List ℕ} {count : ℕ} (held : HeldSets sizes ready count) (q : ℕ) (here : q < count) where
  -- the number of its ready sets
  pub held-few : get_or sizes q 0 ≤ 8
  held-few = held.few_ready q here

  -- they are a part of the table
  pub held-part : take (8 * q + get_or sizes q 0 - 8 * q) (drop (8 * q) ready) ≡ ready_at sizes ready q
  unfolding ready_at
  held-part = let size : 8 * q + get_or sizes q 0 - 8 * q ≡ get_or sizes q 0 = omega arith in ap (λ (n : ℕ). take n (drop (8 * q) ready)) size

  -- and no more than eight
  pub held-length : length (ready_at sizes ready q) ≤ 8
  unfolding ready_at
  held-length = simp (length-take, length-drop) (omega (arith, held-few))

  -- so its row is short
  pub held-short : row_size (ready_at sizes ready q) ≤ 31
  unfolding row_size
  held-short = omega (arith, held-length, offered-few (ready_at sizes ready q))

  -- the states up to it are held
  pub held-upto : HeldSets sizes ready (q + 1)
  held-upto =
      record {
        few = omega (arith, held.few);
        sizes_room = held.sizes_room;
        ready_room = held.ready_room;
        few_ready = λ i h. held.few_ready i (omega arith);
      }

-- ---- rows and index one further

module _ (t : Tables) (count : ℕ) where
  -- the rows from state q on
  abbrev pub rows_from : ℕ → List ℕ
  rows_from q = layout_rows state_row_bytes (map (state_in t) (upto q (count - q)))

  pub rows_all : rows_from 0 ≡ layout_rows state_row_bytes (states_in t count)
  unfolding states_in
  rows_all = let all : count - 0 ≡ count = omega arith in ap (λ (n : ℕ). layout_rows state_row_bytes (map (state_in t) (upto 0 n))) all

  pub rows_more : (q : ℕ) → q < count → Next (rows_from q) (state_row_bytes (state_in t q)) (rows_from (q + 1))
  unfolding layout_rows
  rows_more q h = record { is = ap (λ (l : List ℕ). layout_rows state_row_bytes (map (state_in t) l)) (numbers_more q count h) }

  pub rows_end : (q : ℕ) → count ≤ q → rows_from q ≡ []
  unfolding layout_rows
  rows_end q h = ap (λ (l : List ℕ). layout_rows state_row_bytes (map (state_in t) l)) (numbers-end q count h)

  -- the row of state q
  pub row-at-size : (q : ℕ) → length (state_row_bytes (state_in t q)) ≡ row_size (ready_at t.sizes t.ready q)
  unfolding state_in
  row-at-size q = row-size (ready_at t.sizes t.ready q) t.next (14 * q)

  -- the length of the rows from state q on, by its own
  pub rows-length-more : (q : ℕ) → q < count → length (rows_from q) ≡ row_size (ready_at t.sizes t.ready q) + length (rows_from (q + 1))
  rows-length-more q h =
      omega (arith, ap length (rows_more q h).is, length-append (state_row_bytes (state_in t q)) (rows_from (q + 1)), row-at-size q)

  -- the index from state q on, whose row is at `row`
  abbrev pub index_from : (row q : ℕ) → List ℕ
  index_from row q = layout_index state_row_bytes row (map (state_in t) (upto q (count - q)))

  pub index-all : index_from 0 0 ≡ layout_index state_row_bytes 0 (states_in t count)
  unfolding states_in
  index-all = let all : count - 0 ≡ count = omega arith in ap (λ (n : ℕ). layout_index state_row_bytes 0 (map (state_in t) (upto 0 n))) all

  pub index-more : (row q : ℕ) {size : ℕ} → q < count → size ≡ row_size (ready_at t.sizes t.ready q)
      → Next (index_from row q) (le16 row) (index_from (row + size) (q + 1))
  unfolding layout_index
  index-more row q h e =
      record {
        is =
            ap (λ (l : List ℕ). layout_index state_row_bytes row (map (state_in t) l)) (numbers_more q count h)
            ∙ ap (λ (n : ℕ). le16 row ++ index_from (row + n) (q + 1)) (row-at-size q ∙ sym e);
      }

  pub index-end : (row q : ℕ) → count ≤ q → index_from row q ≡ []
  unfolding layout_index
  index-end row q h = ap (λ (l : List ℕ). layout_index state_row_bytes row (map (state_in t) l)) (numbers-end q count h)

  -- there are as many states as asked for, and in the index two bytes for each
  pub states-length : length (states_in t count) ≡ count
  unfolding states_in
  states-length = length-map (upto 0 count) (state_in t) ∙ length-upto count 0

  pub index-length : length (layout_index state_row_bytes 0 (states_in t count)) ≡ 2 * count
  index-length = omega (arith, length-index state_row_bytes 0 (states_in t count), states-length)

-- ---- a row whole

-- the successors of the actions in the union of ready sets are those of the actions that are offered
row-whole : (masks next : List ℕ) (base : ℕ) {union : ℕ} → union ≡ union_of masks
    → (length masks ∷ mask_bytes masks) ++ successors_of next base union ≡ state_row_bytes (state_with masks next base)
unfolding state_row_bytes state_with successors_of
row-whole masks next base e =
    ap (λ (l : List ℕ). length masks ∷ (mask_bytes masks ++ map (λ j. get_or next (base + j) 0) l))
    (ap (λ (mask : ℕ). keep (has mask) actions) e ∙ keep_same (has-union masks) actions)

-- a row is written by three writers, one directly behind the other: the count, the masks, the successors
pub row_written : (masks next : List ℕ) (base : ℕ) {union r : ℕ} {first counted masked last : List ℕ}
    → row_size masks ≤ length first → counted ≡ front (length masks ∷ []) first → masked ≡ front (mask_bytes masks) (rest_of 1 counted)
    → union ≡ union_of masks
    → Wrote (successors_of next base union) r (rest_of (1 + 2 * length masks) (with_rest 1 counted masked)) last
    → Wrote (state_row_bytes (state_with masks next base)) (1 + 2 * length masks + r) first
    (with_rest (1 + 2 * length masks) (with_rest 1 counted masked) last)
row_written masks next base {union} {r} {first} {counted} {masked} {last} room c m u s =
    let ones : ones_below union 14 ≡ ones_below (union_of masks) 14 = ap (λ (mask : ℕ). ones_below mask 14) u in
    let fits : 1 + 2 * length masks + ones_below union 14 ≤ length first = omega (arith, row-size-ones masks) in
    let one : Wrote (length masks ∷ []) 1 first counted = record { size_is = refl; in_front = c } in
    let two : Wrote (mask_bytes masks) (2 * length masks) (rest_of 1 counted) masked =
    record { size_is = sym (length-masks masks); in_front = m } in
    let both : Wrote (length masks ∷ mask_bytes masks) (1 + 2 * length masks) first (with_rest 1 counted masked) =
    wrote_then one two refl (omega (arith, length-masks masks)) in
    wrote_then both s (row-whole masks next base u) (omega (arith, successors-length next base union))

-- the row of state q, by its ready sets as a part of the table
pub row-at-written : (t : Tables) (q : ℕ) {masks : List ℕ} {r : ℕ} {first last : List ℕ} → masks ≡ ready_at t.sizes t.ready q
    → Wrote (state_row_bytes (state_with masks t.next (14 * q))) r first last → Wrote (state_row_bytes (state_in t q)) r first last
unfolding state_in
row-at-written t q {r = r} {first} {last} e w =
    subst (λ (masks : List ℕ). Wrote (state_row_bytes (state_with masks t.next (14 * q))) r first last) e w
