-- A sheet is written by three writers, one directly behind the other, and answered with its length; where it has no room, with 13 and an
-- untouched output.
-- Assumes nothing.
use mathlib.Core.Path.{◌≡◌, refl, sym, ap₂, ◌∙◌}
use mathlib.Core.List.{List, [], ◌∷◌, ◌++◌, append_assoc}
use Prim.Native.Nat.{ℕ, ◌+◌, ◌*◌, ◌≤◌, ◌<◌}
use native.Mathlib.Omega.{arith}
use lib.ListN.{length, length-append}
use borrow.Author.Tests.{le-leb, lt-leb}
use Rattle.model.specs.Bytes.{le16}
use Rattle.std.specs.Prelude.{Result, Ok, Err, MatchResult}
use Rattle.model.specs.Sheet.{Refusal, good, plain}
use Rattle.model.proofs.PlanBytes.{length-16}
use Rattle.walks.proofs.Rest.{rest_of, with_rest}
use Rattle.little_endian.specs.Front.{front, Wrote}
use Rattle.little_endian.proofs.Writing.{wrote_then}
use Rattle.nodes.specs.SheetBytes.{state_row_bytes, layout_rows, layout_index, layout, sheet_bytes}
use Rattle.nodes.specs.Answer.{written, written_as, written_by, refused_as, refusal_of}
use Rattle.nodes.specs.declared.SheetAnswer.{SheetAnswer}
use Rattle.nodes.specs.declared.Refusal.TheVariants.{NoRoom}
use Rattle.nodes.specs.Tables.{Tables, states_in}
use Rattle.nodes.proofs.Parts.{length-layout}
use Rattle.nodes.proofs.Tables.{states-length, index-length}

-- ---- what is answered for bytes

module _ (bytes out : List ℕ) where
  -- there is room for them
  pub written-whole : {out' : List ℕ} {size : ℕ} → length bytes ≤ length out → size ≡ length bytes → out' ≡ front bytes out
      → written_as refusal_of (Ok size) out' ≡ written out (good bytes)
  unfolding written written_as
  written-whole h s f =
      rw (le-leb (length bytes) (length out) h)
      (ap₂ (λ (n : ℕ) (o : List ℕ). record { number = 0; sheet = 0; state = 0; length = n; output = o }) s f)

  -- there is none
  pub written-short : length out < length bytes → written_as refusal_of (Err NoRoom) out ≡ written out (good bytes)
  unfolding written written_as refusal_of plain
  written-short h = rw (lt-leb (length bytes) (length out) h) refl

-- ---- a sheet from the tables

module _ (t : Tables) (count n : ℕ) where
  -- its rows and its index
  abbrev rows : List ℕ
  rows = layout_rows state_row_bytes (states_in t count)

  abbrev index : List ℕ
  index = layout_index state_row_bytes 0 (states_in t count)

  -- how long it is
  pub sheet-length : length (sheet_bytes n 0 (states_in t count)) ≡ length (layout_rows state_row_bytes (states_in t count)) + 2 * count + 6
  unfolding sheet_bytes
  sheet-length = omega (arith, length-layout state_row_bytes n 0 0xC5 (states_in t count), states-length t count)

  module _ {size : ℕ} (measured : size ≡ length (layout_rows state_row_bytes (states_in t count))) where
    -- the trailer, by what was measured
    abbrev trail : List ℕ
    trail = le16 size ++ count ∷ n ∷ 0 ∷ 0xC5 ∷ []

    -- the parts make the sheet
    sheet-whole : (rows ++ index) ++ trail ≡ sheet_bytes n 0 (states_in t count)
    unfolding sheet_bytes layout
    sheet-whole =
        append_assoc rows index trail
        ∙ ap₂ (λ (i c : ℕ). rows ++ (index ++ (le16 i ++ c ∷ n ∷ 0 ∷ 0xC5 ∷ []))) measured (sym (states-length t count))

    -- rows, index and trailer, each written into the rest of what is lent
    pub sheet-written : (first : List ℕ) {rowed indexed last : List ℕ} → size + 2 * count + 6 ≤ length first
        → rowed ≡ front (layout_rows state_row_bytes (states_in t count)) first
        → indexed ≡ front (layout_index state_row_bytes 0 (states_in t count)) (rest_of size rowed)
        → last ≡ front (le16 size ++ count ∷ n ∷ 0 ∷ 0xC5 ∷ []) (rest_of (size + 2 * count) (with_rest size rowed indexed))
        → with_rest (size + 2 * count) (with_rest size rowed indexed) last ≡ front (sheet_bytes n 0 (states_in t count)) first
    sheet-written first {rowed} {indexed} {last} room r i l =
        let one : Wrote rows size first rowed = record { size_is = measured; in_front = r } in
        let two : Wrote index (2 * count) (rest_of size rowed) indexed = record { size_is = sym (index-length t count); in_front = i } in
        let both : Wrote (rows ++ index) (size + 2 * count) first (with_rest size rowed indexed) =
        wrote_then one two refl (omega (arith, index-length t count)) in
        let six : length trail ≡ 6 = omega (arith, length-append (le16 size) (count ∷ n ∷ 0 ∷ 0xC5 ∷ []), length-16 size) in
        let three : Wrote trail 6 (rest_of (size + 2 * count) (with_rest size rowed indexed)) last =
        record { size_is = sym six; in_front = l } in
        (wrote_then both three sheet-whole (omega arith)).in_front

-- ---- answers in a struct

-- what is answered for a length or a refusal says so
pub answered-as : {E : Type 0} (says : E → Refusal) (made : Result ℕ E) (answer : SheetAnswer) (out : List ℕ)
    → MatchResult made (λ size. answer ≡ record { number = 0; sheet = 0; state = 0; length = size }) (λ e. answer ≡ refused_as (says e))
    → written_by answer out ≡ written_as says made out
unfolding written_by written_as refused_as
answered-as says (Ok size) answer out is = rw is refl
answered-as says (Err e) answer out is = rw is refl
