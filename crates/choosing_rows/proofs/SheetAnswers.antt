-- The answers on a trailer and on a whole sheet, case by case: a law for each way in which bytes are a choosing sheet or none.
-- Assumes nothing.
use mathlib.Core.Path.{◌≡◌, refl, subst⁻¹}
use mathlib.Core.Bool.{Bool, true, false, not}
use mathlib.Core.List.{List}
use Prim.Native.Nat.{ℕ, ◌+◌, ◌*◌, ◌<◌, ◌≤◌}
use native.Mathlib.Omega.{arith}
use lib.Dec.{T, eqb, leb}
use lib.ListN.{length}
use borrow.Author.Tests.{le-leb, lt-leb, eq-eqb, leb-true, eqb-true}
use Rattle.std.specs.Prelude as C
use Rattle.std.specs.Prelude.{Some, None, is_some}
use Rattle.model.specs.Sheet.{Trailer, trailer, refusal, then, plain}
use Rattle.model.proofs.Lists.{both_true}
use Rattle.choosing.specs.Rows.{ChoosingRow, row_in}
use Rattle.choosing.specs.Read.{choosing_trailer, or_refused, read_choosing, framed}
use Rattle.choosing.specs.Tables.{Tabled}
use Rattle.choosing.specs.Fault.{fault_row}
use Rattle.choosing.proofs.Read.{trailer-read}
use Rattle.choosing.proofs.Fault.{frame_refused, frame-reads, fault-refused}
use Rattle.choosing_rows.specs.Answers.{fault_in}
use Rattle.choosing_rows.specs.Holding.{TrailerPlaced, RowsHeld, AllRead, RowsRead}
use Rattle.choosing_rows.proofs.Reading.{fault-at}

-- ---- a trailer
pub trailer-closing : (t : Trailer) → 1 ≤ t.count → t.count ≤ 32 → t.n ≤ 7 → t.role ≡ 0 → eqb t.closing 0xC6 ≡ choosing_trailer t
unfolding choosing_trailer
trailer-closing t some few names role =
    simp (le-leb 1 t.count some, le-leb t.count 32 few, le-leb t.n 7 names, eq-eqb t.role 0 role)

-- ---- trailer and length

module _ (b : List ℕ) where
  pub frame-short : length b < 6 → false ≡ framed b
  unfolding framed
  frame-short h = simp (lt-leb 6 (length b) h)

  -- bytes whose trailer is t
  module _ (t : Trailer) (e : t ≡ trailer b) where
    module _ (h : 6 ≤ length b) where
      pub frame-trailer : choosing_trailer t ≡ false → false ≡ framed b
      unfolding framed
      frame-trailer g = simp (le-leb 6 (length b) h, rw e at g)

      pub frame-length : choosing_trailer t ≡ true → eqb (t.index + 2 * t.count + 6) (length b) ≡ framed b
      unfolding framed
      frame-length g = simp (le-leb 6 (length b) h, rw e at g, e)

    pub frame-placed : framed b ≡ true → TrailerPlaced b t
    unfolding framed
    frame-placed f =
        let fits = both_true (choosing_trailer (trailer b)) _ (both_true (leb 6 (length b)) _ f).1 in
        let read = trailer-read (trailer b) (subst⁻¹ T fits.0 tt) in
        subst⁻¹ (TrailerPlaced b) e
        (record {
          some_row = read.some_row;
          few_rows = read.few_rows;
          few_names = read.few_names;
          ends = eqb-true _ _ fits.1;
        })

pub frame-long : (b : List ℕ) → framed b ≡ true → 6 ≤ length b
unfolding framed
frame-long b f = leb-true 6 (length b) (both_true (leb 6 (length b)) _ f).0

-- ---- a sheet

-- the tables that hold all rows of a sheet
held-tabled : {n : ℕ} {rows : List ChoosingRow} {hidden masks targets : List ℕ} → RowsHeld rows hidden masks targets
    → Tabled (record { n = n; rows = rows }) hidden masks targets
unfolding row_in
held-tabled held =
    record {
      hidden_room = held.hidden_room;
      masks_room = held.masks_room;
      targets_room = held.targets_room;
      hidden_are = held.hidden_are;
      masks_are = held.masks_are;
      targets_are = held.targets_are;
    }

module _ (b : List ℕ) where
  no_sheet : {hidden masks targets : List ℕ} → read_choosing b ≡ refusal (plain 17 0) → RowsRead b false hidden masks targets
  no_sheet e = record { sheet = λ d. let z : ◌≡◌ {A = ℕ} 0 1 = cc in absurd (omega arith); no_sheet = λ d. e }

  pub sheet-frame : {hidden masks targets : List ℕ} → framed b ≡ false → RowsRead b false hidden masks targets
  sheet-frame f = no_sheet (frame_refused b f)

  pub fault-frame : framed b ≡ false → None ≡ fault_in (fault_row b)
  unfolding fault_row fault_in
  fault-frame f = rw f refl

  -- a sheet whose trailer is t, and the answer on its rows
  module _ (f : framed b ≡ true) (t : Trailer) (e : t ≡ trailer b) {hidden masks targets : List ℕ} {answer : C.Option ℕ}
      (read : AllRead b t answer hidden masks targets) where
    pub fault-is : answer ≡ fault_in (fault_row b)
    unfolding fault_row
    fault-is = rw f (rw e at read.answer_is)

    sheet-whole : answer ≡ None → RowsRead b true hidden masks targets
    unfolding or_refused then
    sheet-whole d =
        let all = read.all d in
        record {
          sheet = λ k. (record { n = (trailer b).n; rows = all.0 }, frame-reads b f _ (rw e at all.1), held-tabled all.2);
          no_sheet = λ k. let z : ◌≡◌ {A = ℕ} 0 1 = cc in absurd (omega arith);
        }

    sheet-fault : {q : ℕ} → answer ≡ Some q → RowsRead b false hidden masks targets
    sheet-fault d = no_sheet (fault-refused b (fault-at fault-is d))

    pub sheet-read : {whole : Bool} → is_some answer ≡ not whole → RowsRead b whole hidden masks targets
    sheet-read {whole} h = go answer refl whole h
      where
        go : (a : C.Option ℕ) → answer ≡ a → (whole : Bool) → is_some a ≡ not whole → RowsRead b whole hidden masks targets
        go None d true h = sheet-whole d
        go None d false h = cc
        go (Some q) d true h = cc
        go (Some q) d false h = sheet-fault d
