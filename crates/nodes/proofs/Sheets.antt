-- A sheet reads back as it was written: masks, successors, rows and all states, each where its bytes stand, in the order in which they
-- are read.
-- Assumes nothing.
use mathlib.Core.Path.{◌≡◌, refl, sym, ◌∙◌}
use mathlib.Core.Bool.{false}
use mathlib.Core.List.{List, [], ◌∷◌, ◌++◌, Memᴰ}
use Prim.Native.Nat.{ℕ, suc, ◌+◌, ◌*◌, ◌≤◌, ◌<◌}
use native.Mathlib.Omega.{arith}
use lib.ListN.{length, length-append}
use borrow.Author.Tests.{le-leb, lt-ltb, eq-eqb}
use Rattle.model.specs.Lists.{keep, upto, Ascending}
use Rattle.model.specs.Bytes.{byte, word, le16}
use Rattle.model.specs.Contract.{State, actions, offers_in}
use Rattle.model.specs.Sheet.{good, check, then, Trailer, stray_bit, good_trailer, read_sheet}
use Rattle.model.specs.Sheet.{masks_from, successors_from, row_with, row_at, states_from}
use Rattle.model.proofs.Lists.{keep-length}
use Rattle.model.proofs.RowMasks.{masks-end, masks-more}
use Rattle.nodes.specs.SheetBytes.{layout_rows, layout_index, layout, mask_bytes, state_row_bytes, sheet_bytes, Writable}
use Rattle.nodes.proofs.Bytes.{At, at_left, at_right, at_head, at_tail, at-cast, at-word, length-16}
use Rattle.nodes.proofs.Parts.{length-layout, rows_at, index_at, trailer-is}

-- ---- lengths

-- two bytes for each mask
pub length-masks : (masks : List ℕ) → length (mask_bytes masks) ≡ 2 * length masks
unfolding mask_bytes le16
length-masks [] = omega arith
length-masks (m ∷ masks) = omega (arith, length-masks masks)

-- a byte for the count, two for each mask, one for each successor
pub length-row : (s : State) → length (state_row_bytes s) ≡ 1 + 2 * length s.ready + length s.successors
unfolding state_row_bytes
length-row s = omega (arith, length-append (mask_bytes s.ready) s.successors, length-masks s.ready)

-- there are fourteen actions
pub offered-few : (masks : List ℕ) → length (keep (offers_in masks) actions) ≤ 14
unfolding actions upto
offered-few masks = keep-length (offers_in masks) actions

-- ---- reading back

module _ (b : List ℕ) (t : Trailer) where
  -- masks from i on
  back-masks : (q low i : ℕ) (masks : List ℕ) → At b i (mask_bytes masks) → Ascending low masks
      → ((m : ℕ) → Memᴰ m masks → stray_bit t.n t.role m ≡ false) → ((m : ℕ) → Memᴰ m masks → m < 65536)
      → masks_from b t q (length masks) low i ≡ good masks
  unfolding mask_bytes then
  back-masks q low i [] h up clean small = masks-end b t q low i
  back-masks q low i (m ∷ masks) h up clean small =
      let w : word b i ≡ m = at-word b i m (at_left b i (le16 m) (mask_bytes masks) h) (small m (Memᴰ.head refl)) in
      let r : masks_from b t q (length masks) (suc m) (i + 2) ≡ good masks =
      back-masks q (suc m) (i + 2) masks
      (at-cast b (i + length (le16 m)) (i + 2) (mask_bytes masks) (omega (arith, length-16 m)) (at_right b i (le16 m) (mask_bytes masks) h))
      up.1 (λ x y. clean x (Memᴰ.tail y)) (λ x y. small x (Memᴰ.tail y)) in
      masks-more b t q low i (length masks) (rw w (clean m (Memᴰ.head refl))) (omega (arith, up.0)) ∙ rw (w, r) refl

  -- successors from i on
  back-successors : (q i : ℕ) (l : List ℕ) → At b i l → ((x : ℕ) → Memᴰ x l → x < t.count)
      → successors_from b t q (length l) i ≡ good l
  unfolding successors_from check then
  back-successors q i [] h f = refl
  back-successors q i (x ∷ l) h f =
      let w : byte b i ≡ x = at_head b i x l h in
      let r : successors_from b t q (length l) (i + 1) ≡ good l =
      back-successors q (i + 1) l (at_tail b i x l h) (λ y m. f y (Memᴰ.tail m)) in
      rw (w, lt-ltb x t.count (f x (Memᴰ.head refl)), r) refl

  -- the row at i
  back-row : (q i : ℕ) (s : State) → Writable t.n t.role t.count s → At b i (state_row_bytes s)
      → i + length (state_row_bytes s) ≤ t.index
      → row_at b t q i ≡ good (record { state = s; behind = i + length (state_row_bytes s) })
  unfolding row_at row_with state_row_bytes check then
  back-row q i s w h fits =
      let len : length (mask_bytes s.ready) ≡ 2 * length s.ready = length-masks s.ready in
      let sum = length-append (mask_bytes s.ready) s.successors in
      let rest : At b (i + 1) (mask_bytes s.ready ++ s.successors) =
      at_tail b i (length s.ready) (mask_bytes s.ready ++ s.successors) h in
      let size : byte b i ≡ length s.ready = at_head b i (length s.ready) (mask_bytes s.ready ++ s.successors) h in
      let masks : masks_from b t q (length s.ready) 0 (i + 1) ≡ good s.ready =
      back-masks q 0 (i + 1) s.ready (at_left b (i + 1) (mask_bytes s.ready) s.successors rest)
      w.ascends w.clean w.small in
      let to : successors_from b t q (length s.successors) (i + 1 + 2 * length s.ready) ≡ good s.successors =
      back-successors q (i + 1 + 2 * length s.ready) s.successors
      (at-cast b (i + 1 + length (mask_bytes s.ready)) (i + 1 + 2 * length s.ready) s.successors (omega arith)
      (at_right b (i + 1) (mask_bytes s.ready) s.successors rest)) w.within in
      let end : i + 1 + 2 * length s.ready + length s.successors ≡ i + suc (length (mask_bytes s.ready ++ s.successors)) =
      omega arith in
      rw (
        size,
        lt-ltb i t.index (omega arith),
        le-leb 1 (length s.ready) w.some_ready,
        le-leb (length s.ready) 8 w.few_ready,
        le-leb (i + 1 + 2 * length s.ready) t.index (omega arith),
        masks,
        ← w.whole,
        le-leb (i + 1 + 2 * length s.ready + length s.successors) t.index (omega arith),
        to,
        end,
      ) refl

  -- all states from q on, whose row is at i
  back-states : (q i : ℕ) (l : List State) → t.index < 65536 → ((s : State) → Memᴰ s l → Writable t.n t.role t.count s)
      → At b i (layout_rows state_row_bytes l) → At b (t.index + 2 * q) (layout_index state_row_bytes i l)
      → i + length (layout_rows state_row_bytes l) ≡ t.index
      → states_from b t (length l) q i ≡ good l
  unfolding states_from layout_rows layout_index check then
  back-states q i [] small w h x e = rw (eq-eqb i t.index (omega arith)) refl
  back-states q i (s ∷ l) small w h x e =
      let sum = length-append (state_row_bytes s) (layout_rows state_row_bytes l) in
      let index : List ℕ = layout_index state_row_bytes (i + length (state_row_bytes s)) l in
      let entry : word b (t.index + 2 * q) ≡ i =
      at-word b (t.index + 2 * q) i (at_left b (t.index + 2 * q) (le16 i) index x) (omega arith) in
      let row : row_at b t q i ≡ good (record { state = s; behind = i + length (state_row_bytes s) }) =
      back-row q i s (w s (Memᴰ.head refl)) (at_left b i (state_row_bytes s) (layout_rows state_row_bytes l) h) (omega arith) in
      let rest : states_from b t (length l) (suc q) (i + length (state_row_bytes s)) ≡ good l =
      back-states (suc q) (i + length (state_row_bytes s)) l small (λ y m. w y (Memᴰ.tail m))
      (at_right b i (state_row_bytes s) (layout_rows state_row_bytes l) h)
      (at-cast b (t.index + 2 * q + length (le16 i)) (t.index + 2 * suc q) index (omega (arith, length-16 i))
      (at_right b (t.index + 2 * q) (le16 i) index x)) (omega arith) in
      rw (entry, eq-eqb i i refl, row, rest) refl

-- a row takes at most 31 bytes
rows_short : (n role count : ℕ) (l : List State) → ((s : State) → Memᴰ s l → Writable n role count s)
    → length (layout_rows state_row_bytes l) ≤ 31 * length l
unfolding layout_rows
rows_short n role count [] w = omega arith
rows_short n role count (s ∷ l) w =
    let v = w s (Memᴰ.head refl) in
    let rest = rows_short n role count l (λ y m. w y (Memᴰ.tail m)) in
    omega (
      arith,
      length-append (state_row_bytes s) (layout_rows state_row_bytes l),
      length-row s,
      offered-few s.ready,
      v.few_ready,
      v.whole,
      rest,
    )

-- A sheet that is written reads back: 1 to 64 states that can be written, n at most 7, role 0 or 1.
pub sheet-read-back : (n role : ℕ) (states : List State) → n ≤ 7 → role ≤ 1 → 1 ≤ length states → length states ≤ 64
    → ((s : State) → Memᴰ s states → Writable n role (length states) s)
    → read_sheet (sheet_bytes n role states) ≡ good (record { contract = record { n = n; states = states }; role = role })
unfolding read_sheet good_trailer check then sheet_bytes
sheet-read-back n role states n-ok role-ok some few w =
    let b : List ℕ = layout state_row_bytes n role 0xC5 states in
    let rows : ℕ = length (layout_rows state_row_bytes states) in
    let t : Trailer = record { index = rows; count = length states; n = n; role = role; closing = 0xC5 } in
    let short : rows ≤ 31 * length states = rows_short n role (length states) states w in
    let size : length b ≡ rows + 2 * length states + 6 = length-layout state_row_bytes n role 0xC5 states in
    let all : states_from b t (length states) 0 0 ≡ good states =
    back-states b t 0 0 states (omega arith) w (rows_at state_row_bytes n role 0xC5 states)
    (at-cast b rows (rows + 2 * 0) (layout_index state_row_bytes 0 states) (omega arith) (index_at state_row_bytes n role 0xC5 states))
    (omega arith) in
    rw (
      trailer-is state_row_bytes n role 0xC5 states (omega arith),
      le-leb 6 (length b) (omega arith),
      le-leb (length b) 2118 (omega arith),
      le-leb 1 (length states) some,
      le-leb (length states) 64 few,
      le-leb n 7 n-ok,
      le-leb role 1 role-ok,
      eq-eqb (rows + 2 * length states + 6) (length b) (sym size),
      all,
    ) refl
