-- Only the bytes that a choosing sheet is written as are read as it, so 17 is for every other form. What was read of rows and index stands
-- where it is written, the trailer behind it, and the length leaves room for nothing else.
-- Assumes nothing.
use mathlib.Core.Path.{◌≡◌, refl}
use mathlib.Core.List.{List, [], ◌∷◌, ◌++◌}
use Prim.Native.Nat.{ℕ, ◌+◌, ◌-◌, ◌*◌, ◌≤◌, ◌<◌}
use native.Mathlib.Omega.{arith}
use lib.ListN.{length}
use Rattle.model.specs.Bytes.{byte, le16}
use Rattle.model.specs.Sheet.{good, Trailer, trailer}
use Rattle.nodes.specs.SheetBytes.{layout_rows, layout_index, layout}
use Rattle.nodes.proofs.Bytes.{At, at-cast, length-16}
use Rattle.nodes.proofs.Parts.{length-index, length-layout}
use Rattle.choosing.specs.Rows.{Choosing}
use Rattle.choosing.specs.Bytes.{choosing_row_bytes, choosing_bytes}
use Rattle.choosing.specs.Read.{read_choosing}
use Rattle.nodes.proofs.Standing.{at_none, at-cons, at-append, at-16, at-whole}
use Rattle.choosing.proofs.Read.{choosing-read}

-- the last six bytes are the trailer that is read
trailer-stands : (b : List ℕ) → ((i : ℕ) → byte b i < 256) → 6 ≤ length b
    → At b (length b - 6) (le16 (trailer b).index ++ (trailer b).count ∷ (trailer b).n ∷ (trailer b).role ∷ (trailer b).closing ∷ [])
unfolding trailer
trailer-stands b small long =
    let end : ℕ = length b in
    let t : Trailer = trailer b in
    let from-role : List ℕ = t.role ∷ t.closing ∷ [] in
    let closing : At b (end - 1) (t.closing ∷ []) = at-cons b (end - 1) t.closing [] refl (at_none b (end - 1 + 1)) in
    let role : At b (end - 2) from-role =
    at-cons b (end - 2) t.role (t.closing ∷ []) refl (at-cast b (end - 1) (end - 2 + 1) (t.closing ∷ []) (omega arith) closing) in
    let n : At b (end - 3) (t.n ∷ from-role) =
    at-cons b (end - 3) t.n from-role refl (at-cast b (end - 2) (end - 3 + 1) from-role (omega arith) role) in
    let count : At b (end - 4) (t.count ∷ t.n ∷ from-role) =
    at-cons b (end - 4) t.count (t.n ∷ from-role) refl (at-cast b (end - 3) (end - 4 + 1) (t.n ∷ from-role) (omega arith) n) in
    at-append b (end - 6) (le16 t.index) (t.count ∷ t.n ∷ from-role)
    (at-16 b (end - 6) t.index (small (end - 6)) (small (end - 6 + 1)) refl)
    (at-cast b (end - 4) (end - 6 + length (le16 t.index)) (t.count ∷ t.n ∷ from-role) (omega (arith, length-16 t.index)) count)

pub only-bytes : (b : List ℕ) → ((i : ℕ) → byte b i < 256) → (c : Choosing) → read_choosing b ≡ good c → b ≡ choosing_bytes c
unfolding choosing_bytes layout
only-bytes b small c e =
    let r = choosing-read b small c e in
    let t : Trailer = trailer b in
    let rows : List ℕ = layout_rows choosing_row_bytes c.rows in
    let index : List ℕ = layout_index choosing_row_bytes 0 c.rows in
    let trail : List ℕ = le16 (length rows) ++ length c.rows ∷ c.n ∷ 0 ∷ 0xC6 ∷ [] in
    let count : length c.rows ≡ t.count = r.rows.each.size in
    let ends : t.index ≡ length rows = omega (arith, r.rows.ends) in
    let long : length index ≡ 2 * t.count = omega (arith, length-index choosing_row_bytes 0 c.rows) in
    let size : length (rows ++ (index ++ trail)) ≡ length rows + 2 * length c.rows + 6 =
    length-layout choosing_row_bytes c.n 0 0xC6 c.rows in
    let trails : At b (length b - 6) trail =
    rw (ends, ← count, r.names, r.trails.service, r.trails.closes) at (trailer-stands b small r.long) in
    at-whole b (rows ++ (index ++ trail))
    (at-append b 0 rows (index ++ trail) r.rows.rows
    (at-append b (0 + length rows) index trail (at-cast b (t.index + 2 * 0) (0 + length rows) index (omega arith) r.rows.index)
    (at-cast b (length b - 6) (0 + length rows + length index) trail (omega (arith, r.size)) trails)))
    (omega (arith, r.size, size))
