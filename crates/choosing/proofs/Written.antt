-- A choosing sheet of the right form reads back as it was written. Each part is read where it stands, its tests pass by its form, and it
-- ends before the index; rows are short enough for the trailer's 16 bits.
-- Assumes nothing.
use mathlib.Core.Path.{◌≡◌, refl, sym, ap}
use mathlib.Core.Option.{some, bind}
use mathlib.Core.List.{List, [], ◌∷◌, ◌++◌, Memᴰ}
use Prim.Native.Nat.{ℕ, suc, ◌+◌, ◌*◌, ◌≤◌, ◌<◌}
use native.Mathlib.Omega.{arith}
use lib.ListN.{length, length-append}
use borrow.Author.Tests.{le-leb, lt-ltb, eq-eqb}
use Rattle.model.specs.Lists.{keep, upto, Ascending}
use Rattle.model.specs.Bytes.{byte, word, le16}
use Rattle.model.specs.Contract.{actions, has}
use Rattle.model.specs.Sheet.{good, check, then, Trailer}
use Rattle.model.proofs.Lists.{keep-length}
use Rattle.nodes.specs.SheetBytes.{layout_rows, layout_index, layout}
use Rattle.nodes.proofs.Bytes.{At, at_left, at_right, at_head, at_tail, at-cast, at-word, length-16}
use Rattle.nodes.proofs.Parts.{length-layout, rows_at, index_at, trailer-is}
use Rattle.nodes.proofs.Made.{no_stray}
use Rattle.choosing.specs.Rows.{ChoosingRow, hides, opens, Choosing, GroupFormed, RowFormed, Formed}
use Rattle.choosing.specs.Bytes.{group_bytes, groups_bytes, choosing_row_bytes, choosing_bytes}
use Rattle.choosing.specs.Read.{targets_from, group_at, groups_from, hiding_at, open_at, choosing_row_at, rows_from, framed}
use Rattle.choosing.specs.Read.{choosing_trailer, or_refused, read_choosing}

-- ---- parts

module _ (b : List ℕ) (t : Trailer) where
  back-targets : (low i : ℕ) (l : List ℕ) → At b i l → Ascending low l → ((r : ℕ) → Memᴰ r l → r < t.count)
      → targets_from b t (length l) low i ≡ some l
  unfolding targets_from
  back-targets low i [] h up f = refl
  back-targets low i (r ∷ l) h up f =
      let w : byte b i ≡ r = at_head b i r l h in
      let k : targets_from b t (length l) (suc r) (i + 1) ≡ some l =
      back-targets (suc r) (i + 1) l (at_tail b i r l h) up.1 (λ x m. f x (Memᴰ.tail m)) in
      rw (w, le-leb low r up.0, lt-ltb r t.count (f r (Memᴰ.head refl)), k) refl

  back-group : (i : ℕ) (l : List ℕ) → GroupFormed t.count l → At b i (group_bytes l) → i + length (group_bytes l) ≤ t.index
      → group_at b t i ≡ some (record { value = l; behind = i + length (group_bytes l) })
  unfolding group_at group_bytes
  back-group i l f h x =
      let w : byte b i ≡ length l = at_head b i (length l) l h in
      let k : targets_from b t (length l) 0 (i + 1) ≡ some l =
      back-targets 0 (i + 1) l (at_tail b i (length l) l h) f.ascends f.below in
      let e : i + 1 + length l ≡ i + suc (length l) = omega arith in
      rw (
        w,
        lt-ltb i t.index (omega arith),
        le-leb 1 (length l) f.some_row,
        le-leb (length l) 8 f.few_rows,
        k,
        e,
        le-leb (i + suc (length l)) t.index x,
      ) refl

  back-groups : (i : ℕ) (l : List (List ℕ)) → ((k : List ℕ) → Memᴰ k l → GroupFormed t.count k) → At b i (groups_bytes l)
      → i + length (groups_bytes l) ≤ t.index
      → groups_from b t (length l) i ≡ some (record { value = l; behind = i + length (groups_bytes l) })
  unfolding groups_from groups_bytes bind
  back-groups i [] f h x = let e : i ≡ i + 0 = omega arith in ap (λ (j : ℕ). some (record { value = []; behind = j })) e
  back-groups i (k ∷ l) f h x =
      let first : List ℕ = group_bytes k in
      let others : List ℕ = groups_bytes l in
      let sum : length (first ++ others) ≡ length first + length others = length-append first others in
      let one = back-group i k (f k (Memᴰ.head refl)) (at_left b i first others h) (omega arith) in
      let rest = back-groups (i + length first) l (λ z m. f z (Memᴰ.tail m)) (at_right b i first others h) (omega arith) in
      let e : i + length first + length others ≡ i + length (first ++ others) = omega arith in
      rw (one, rest, e) refl

  back-row : (i : ℕ) (x : ChoosingRow) → RowFormed t.n t.count x → At b i (choosing_row_bytes x)
      → i + length (choosing_row_bytes x) ≤ t.index
      → choosing_row_at b t i ≡ some (record { value = x; behind = i + length (choosing_row_bytes x) })
  unfolding choosing_row_at hiding_at open_at choosing_row_bytes
  back-row i (hides l) f h x =
      let w : byte b i ≡ 0 = at_head b i 0 (group_bytes l) h in
      let k = back-group (i + 1) l f (at_tail b i 0 (group_bytes l) h) (omega arith) in
      let e : i + 1 + length (group_bytes l) ≡ i + suc (length (group_bytes l)) = omega arith in
      rw (lt-ltb i t.index (omega arith), w, k, e) refl
  back-row i (opens mask l) f h x =
      let all : List ℕ = groups_bytes l in
      let sum : length (le16 mask ++ all) ≡ 2 + length all = omega (arith, length-append (le16 mask) all, length-16 mask) in
      let w : byte b i ≡ 1 = at_head b i 1 (le16 mask ++ all) h in
      let r : At b (i + 1) (le16 mask ++ all) = at_tail b i 1 (le16 mask ++ all) h in
      let m : word b (i + 1) ≡ mask = at-word b (i + 1) mask (at_left b (i + 1) (le16 mask) all r) (omega (arith, f.bits)) in
      let k =
      back-groups (i + 3) l f.each
      (at-cast b (i + 1 + length (le16 mask)) (i + 3) all (omega (arith, length-16 mask)) (at_right b (i + 1) (le16 mask) all r))
      (omega arith) in
      let e : i + 3 + length all ≡ i + suc (length (le16 mask ++ all)) = omega arith in
      rw (
        lt-ltb i t.index (omega arith),
        w,
        m,
        le-leb (i + 3) t.index (omega arith),
        no_stray t.n 0 mask f.bits f.named,
        ← f.each_action,
        k,
        e,
      ) refl

  back-rows : (q i : ℕ) (l : List ChoosingRow) → t.index < 65536
      → ((x : ChoosingRow) → Memᴰ x l → RowFormed t.n t.count x) → At b i (layout_rows choosing_row_bytes l)
      → At b (t.index + 2 * q) (layout_index choosing_row_bytes i l) → i + length (layout_rows choosing_row_bytes l) ≡ t.index
      → rows_from b t (length l) q i ≡ some l
  unfolding rows_from layout_rows layout_index bind
  back-rows q i [] small f h x e = rw (eq-eqb i t.index (omega arith)) refl
  back-rows q i (y ∷ l) small f h x e =
      let first : List ℕ = choosing_row_bytes y in
      let others : List ℕ = layout_rows choosing_row_bytes l in
      let next : ℕ = i + length first in
      let entry : ℕ = t.index + 2 * q in
      let entries : List ℕ = layout_index choosing_row_bytes next l in
      let sum : length (first ++ others) ≡ length first + length others = length-append first others in
      let at_i : word b entry ≡ i = at-word b entry i (at_left b entry (le16 i) entries x) (omega arith) in
      let one = back-row i y (f y (Memᴰ.head refl)) (at_left b i first others h) (omega arith) in
      let rest : rows_from b t (length l) (suc q) next ≡ some l =
      back-rows (suc q) next l small (λ z m. f z (Memᴰ.tail m)) (at_right b i first others h)
      (at-cast b (entry + length (le16 i)) (t.index + 2 * suc q) entries (omega (arith, length-16 i))
      (at_right b entry (le16 i) entries x)) (omega arith) in
      rw (at_i, eq-eqb i i refl, one, rest) refl

-- ---- lengths

groups-short : (count : ℕ) (l : List (List ℕ)) → ((k : List ℕ) → Memᴰ k l → GroupFormed count k)
    → length (groups_bytes l) ≤ 9 * length l
unfolding groups_bytes group_bytes
groups-short count [] f = omega arith
groups-short count (k ∷ l) f =
    omega (
      arith,
      length-append (group_bytes k) (groups_bytes l),
      (f k (Memᴰ.head refl)).few_rows,
      groups-short count l (λ x m. f x (Memᴰ.tail m)),
    )

few-offered : (mask : ℕ) → length (keep (has mask) actions) ≤ 14
unfolding actions upto
few-offered mask = keep-length (has mask) actions

-- a row takes at most 129 bytes
row-short : (n count : ℕ) (x : ChoosingRow) → RowFormed n count x → length (choosing_row_bytes x) ≤ 129
unfolding choosing_row_bytes group_bytes
row-short n count (hides l) f = omega (arith, f.few_rows)
row-short n count (opens mask l) f =
    omega (
      arith,
      length-append (le16 mask) (groups_bytes l),
      length-16 mask,
      groups-short count l f.each,
      f.each_action,
      few-offered mask,
    )

rows_short : (n count : ℕ) (l : List ChoosingRow) → ((x : ChoosingRow) → Memᴰ x l → RowFormed n count x)
    → length (layout_rows choosing_row_bytes l) ≤ 129 * length l
unfolding layout_rows
rows_short n count [] f = omega arith
rows_short n count (x ∷ l) f =
    omega (
      arith,
      length-append (choosing_row_bytes x) (layout_rows choosing_row_bytes l),
      row-short n count x (f x (Memᴰ.head refl)),
      rows_short n count l (λ y m. f y (Memᴰ.tail m)),
    )

-- ---- sheets

pub choosing-read-back : (c : Choosing) → Formed c → read_choosing (choosing_bytes c) ≡ good c
unfolding read_choosing framed choosing_trailer choosing_bytes or_refused check then
choosing-read-back c f =
    let l : List ChoosingRow = c.rows in
    let b : List ℕ = layout choosing_row_bytes c.n 0 0xC6 l in
    let rows : ℕ = length (layout_rows choosing_row_bytes l) in
    let t : Trailer = record { index = rows; count = length l; n = c.n; role = 0; closing = 0xC6 } in
    let short : rows ≤ 129 * length l = rows_short c.n (length l) l f.each in
    let size : length b ≡ rows + 2 * length l + 6 = length-layout choosing_row_bytes c.n 0 0xC6 l in
    let back : rows_from b t (length l) 0 0 ≡ some l =
    back-rows b t 0 0 l (omega (arith, f.few_rows)) f.each (rows_at choosing_row_bytes c.n 0 0xC6 l)
    (at-cast b rows (rows + 2 * 0) (layout_index choosing_row_bytes 0 l) (omega arith) (index_at choosing_row_bytes c.n 0 0xC6 l))
    (omega arith) in
    rw (
      trailer-is choosing_row_bytes c.n 0 0xC6 l (omega (arith, f.few_rows)),
      le-leb 6 (length b) (omega arith),
      le-leb 1 (length l) f.some_row,
      le-leb (length l) 32 f.few_rows,
      le-leb c.n 7 f.few_names,
      eq-eqb (rows + 2 * length l + 6) (length b) (sym size),
      back,
    ) refl
