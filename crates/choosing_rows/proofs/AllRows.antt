-- The rows of a sheet, read one after the other: those in front are read and held in the tables, the others stand from a place on.
-- Assumes nothing.
use mathlib.Core.Path.{◌≡◌, refl, sym, ap, subst, ◌∙◌}
use mathlib.Core.Bool.{true}
use mathlib.Core.Logic.{⊎_elim}
use mathlib.Core.List.{List, [], ◌∷◌, ◌++◌, map, append-nil, map-append}
use mathlib.Core.Option
use mathlib.Core.Option.{Option, none, some, Option-elim, bind}
use Prim.Native.Nat.{ℕ, suc, ◌+◌, ◌-◌, ◌*◌, ◌<◌, ◌≤◌}
use native.Mathlib.Nat.{eq-or-lt_of_le}
use native.Mathlib.Omega.{arith}
use native.Mathlib.Numerals.{add-one}
use lib.Dec.{eqb}
use lib.ListN.{length, get_or, take, set, length-append, length-set, get_or-append}
use lib.Seq.{append_snoc, take-suc-set, get_or-append_seam}
use borrow.Author.Tests.{eq-eqb, ne_eqb}
use Rattle.std.specs.Prelude.{Some, None}
use Rattle.model.specs.Bytes.{word}
use Rattle.model.specs.Sheet.{Trailer}
use Rattle.choosing.specs.Rows.{ChoosingRow, opens, hidden_of, targets_of}
use Rattle.choosing.specs.Read.{choosing_row_at, rows_from}
use Rattle.nodes.specs.Sets.{set_of}
use Rattle.choosing.specs.Tables.{mask_number}
use Rattle.choosing.specs.Fault.{fault_from}
use Rattle.choosing_rows.specs.Answers.{fault_in}
use Rattle.choosing_rows.specs.Holding.{NoRows, RowPut, Room, RowsHeld, AllRead}
use Rattle.choosing_rows.proofs.Reading.{part}

-- ---- tables
held_none : {hidden masks targets : List ℕ} → NoRows hidden masks targets → RowsHeld [] hidden masks targets
held_none given =
    record {
      hidden_room = given.hidden_room;
      masks_room = given.masks_room;
      targets_room = given.targets_room;
      hidden_are = refl;
      masks_are = refl;
      targets_are = λ r j h l. absurd (omega arith);
      blank = λ p h. given.blank p (omega arith);
    }

-- a table with one number for each row, and one row more
table-snoc : (f : ChoosingRow → ℕ) (rows : List ChoosingRow) (x : ChoosingRow) (l : List ℕ) → take (length rows) l ≡ map f rows
    → length rows < length l → take (length (rows ++ x ∷ [])) (set l (length rows) (f x)) ≡ map f (rows ++ x ∷ [])
table-snoc f rows x l are h =
    let long : length (rows ++ x ∷ []) ≡ suc (length rows) = omega (arith, length-append rows (x ∷ [])) in
    rw (long, map-append)
    (take-suc-set l (length rows) (f x) h ∙ ap (λ (front : List ℕ). front ++ f x ∷ []) are)

module _ {rows : List ChoosingRow} {hidden masks targets : List ℕ} (held : RowsHeld rows hidden masks targets) where
  module _ (few : length rows < 32) {x : ChoosingRow} {hidden' masks' targets' : List ℕ}
      (put : RowPut x (length rows) hidden masks targets hidden' masks' targets') where
    targets-snoc : (r j : ℕ) → r < length (rows ++ x ∷ []) → j < 14
        → get_or targets' (14 * r + j) 0 ≡ set_of (targets_of (get_or (rows ++ x ∷ []) r (opens 0 [])) j)
    targets-snoc r j h l =
        ⊎_elim last before (eq-or-lt_of_le {n = r} {m = length rows} (omega (arith, length-append rows (x ∷ []))))
      where
        last : r ≡ length rows → get_or targets' (14 * r + j) 0 ≡ set_of (targets_of (get_or (rows ++ x ∷ []) r (opens 0 [])) j)
        last e = rw (e, get_or-append_seam rows x [] (opens 0 [])) (put.targets_put.here j l)

        before : r < length rows → get_or targets' (14 * r + j) 0 ≡ set_of (targets_of (get_or (rows ++ x ∷ []) r (opens 0 [])) j)
        before d =
            put.targets_put.before (14 * r + j) (omega arith)
            ∙ held.targets_are r j d l
            ∙ ap (λ (y : ChoosingRow). set_of (targets_of y j)) (sym (get_or-append rows (x ∷ []) (opens 0 []) r d))

    held-snoc : length targets' ≡ length targets → RowsHeld (rows ++ x ∷ []) hidden' masks' targets'
    held-snoc long =
        record {
          hidden_room = ap length put.hidden_put ∙ length-set hidden (length rows) (set_of (hidden_of x)) ∙ held.hidden_room;
          masks_room = ap length put.mask_put ∙ length-set masks (length rows) (mask_number x) ∙ held.masks_room;
          targets_room = long ∙ held.targets_room;
          hidden_are =
              rw put.hidden_put
              (table-snoc (λ (y : ChoosingRow). set_of (hidden_of y)) rows x hidden held.hidden_are (omega (arith, held.hidden_room)));
          masks_are = rw put.mask_put (table-snoc mask_number rows x masks held.masks_are (omega (arith, held.masks_room)));
          targets_are = targets-snoc;
          blank = λ p h. put.targets_put.blank p (omega (arith, length-append rows (x ∷ [])));
        }

-- ---- rows

-- Row r stands at a place; those in front of it are read, and the tables hold them.
pub record RowsSoFar (b : List ℕ) (t : Trailer) (hidden masks targets : List ℕ) (r at : ℕ) : Type 0 where
  pub rows : List ChoosingRow
  pub within : r ≤ t.count
  pub rest : rows_from b t t.count 0 0 ≡ Option.map (λ (l : List ChoosingRow). rows ++ l) (rows_from b t (t.count - r) r at)
  pub fault : fault_from b t t.count 0 0 ≡ fault_from b t (t.count - r) r at
  pub size : length rows ≡ r
  pub held : RowsHeld rows hidden masks targets

none_before : {A : Type 0} (o : Option (List A)) → o ≡ Option.map (λ (l : List A). [] ++ l) o
none_before none = refl
none_before (some l) = refl

one-before : {A : Type 0} (front : List A) (x : A) (o : Option (List A))
    → Option.map (λ (l : List A). front ++ l) (Option.map (λ (l : List A). x ∷ l) o) ≡ Option.map (λ (l : List A). (front ++ x ∷ []) ++ l) o
one-before front x none = refl
one-before front x (some l) = ap some (sym (append_snoc front x l))

module _ {b : List ℕ} {t : Trailer} {hidden masks targets : List ℕ} where
  -- row r is at fault
  pub all-fault : {r : ℕ} → fault_from b t t.count 0 0 ≡ some r → AllRead b t (Some r) hidden masks targets
  unfolding fault_in
  all-fault e = record { answer_is = rw e refl; all = λ d. let z : ◌≡◌ {A = ℕ} 0 1 = cc in absurd (omega arith) }

  pub rows-begin : NoRows hidden masks targets → RowsSoFar b t hidden masks targets 0 0
  rows-begin given =
      record {
        rows = [];
        within = omega arith;
        rest = let all : t.count - 0 ≡ t.count = omega arith in rw all (none_before (rows_from b t t.count 0 0));
        fault = let all : t.count - 0 ≡ t.count = omega arith in rw all refl;
        size = refl;
        held = held_none given;
      }

  module _ {r at : ℕ} (v : RowsSoFar b t hidden masks targets r at) where
    pub rows-room : r < 32 → Room r hidden masks targets
    rows-room h =
        record {
          row = h;
          hidden_room = v.held.hidden_room;
          masks_room = v.held.masks_room;
          targets_room = v.held.targets_room;
          blank = λ p l. v.held.blank p (omega (arith, v.size));
        }

    -- ---- past the last row
    module _ (h : t.count ≤ r) where
      rows-over : rows_from b t t.count 0 0 ≡ Option.map (λ (l : List ChoosingRow). v.rows ++ l) (rows_from b t 0 r at)
      rows-over = let none-left : t.count - r ≡ 0 = omega arith in rw none-left at v.rest

      fault-over : fault_from b t t.count 0 0 ≡ fault_from b t 0 r at
      fault-over = let none-left : t.count - r ≡ 0 = omega arith in rw none-left at v.fault

      pub rows-gap : (at ≡ t.index → ⊥) → {last : ℕ} → last ≡ t.count - 1 → fault_from b t t.count 0 0 ≡ some last
      unfolding fault_from
      rows-gap n e =
          let before : r - 1 ≡ t.count - 1 = omega (arith, v.within) in
          fault-over ∙ rw (ne_eqb at t.index n, e, before) refl

      pub rows_end : at ≡ t.index → AllRead b t None hidden masks targets
      unfolding fault_in rows_from fault_from
      rows_end e =
          let whole = eq-eqb at t.index e in
          let no-fault : fault_from b t t.count 0 0 ≡ none = fault-over ∙ rw whole refl in
          record {
            answer_is = rw no-fault refl;
            all = λ d. (v.rows, rows-over ∙ rw whole (ap some (append-nil v.rows)), v.held);
          }

    -- ---- at row r
    module _ (h : r < t.count) (entry : ℕ) (w : entry ≡ word b (t.index + 2 * r)) where
      one_more : t.count - r ≡ suc (t.count - (r + 1))
      one_more = omega arith

      fault-next : fault_from b t t.count 0 0 ≡ fault_from b t (suc (t.count - (r + 1))) r at
      fault-next = rw one_more at v.fault

      pub rows-entry : (entry ≡ at → ⊥) → fault_from b t t.count 0 0 ≡ some r
      unfolding fault_from
      rows-entry n = fault-next ∙ rw (ne_eqb (word b (t.index + 2 * r)) at (rw w at n)) refl

      module _ (e : entry ≡ at) where
        said : eqb (word b (t.index + 2 * r)) at ≡ true
        said = eq-eqb (word b (t.index + 2 * r)) at (rw w at e)

        pub rows-bad : choosing_row_at b t at ≡ none → fault_from b t t.count 0 0 ≡ some r
        unfolding fault_from Option-elim
        rows-bad d = fault-next ∙ rw (said, d) refl

        pub rows_on : {x : ChoosingRow} {at' : ℕ} → choosing_row_at b t at ≡ some (part x at') → {hidden' masks' targets' : List ℕ} → r < 32
            → length targets' ≡ length targets → RowPut x r hidden masks targets hidden' masks' targets'
            → RowsSoFar b t hidden' masks' targets' (r + 1) at'
        unfolding rows_from fault_from bind Option-elim
        rows_on {x} {at'} d {hidden'} {masks'} {targets'} few long put =
            record {
              rows = v.rows ++ x ∷ [];
              within = omega arith;
              rest =
                  rw one_more at v.rest
                  ∙ rw (said, d, add-one r) (one-before v.rows x (rows_from b t (t.count - suc r) (suc r) at'));
              fault = fault-next ∙ rw (said, d, add-one r) refl;
              size = omega (arith, length-append v.rows (x ∷ []), v.size);
              held =
                  held-snoc v.held (omega (arith, v.size))
                  (subst (λ (q : ℕ). RowPut x q hidden masks targets hidden' masks' targets') (sym v.size) put) long;
            }
