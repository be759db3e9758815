-- The row at fault, and the refusal that it is for. Rows are read up to the first at fault: there is one exactly where reading fails. A
-- circle is found at the first row that leads back to itself.
-- Assumes nothing.
use mathlib.Core.Path.{◌≡◌, refl, sym, ap, subst, subst⁻¹, ◌∙◌}
use mathlib.Core.Bool.{Bool, true, false, cond}
use mathlib.Core.Logic.{◌⊎◌, inl, inr}
use mathlib.Core.List.{List, [], ◌∷◌}
use mathlib.Core.Option.{Option, none, some, map, Option-elim, some-injective, none-ne-some, bind}
use Prim.Native.Nat.{ℕ, zero, suc, ◌+◌, ◌-◌, ◌*◌, ◌≤◌, ◌<◌}
use native.Mathlib.Omega.{arith}
use lib.ListN.{length, get_or}
use lib.Dec.{T, eqb, ltb, leb}
use borrow.Author.Tests.{ltb-true}
use Rattle.model.specs.Lists.{any, place, upto}
use Rattle.model.specs.Bytes.{word}
use Rattle.model.specs.Contract.{has}
use Rattle.model.specs.Sheet.{good, refusal, check, then, Refusal, plain, Trailer, trailer}
use Rattle.model.proofs.Lists.{is_true, and_both, cond-some, any_place, place-passes}
use Rattle.model.proofs.Actions.{length-upto}
use Rattle.model.proofs.Sheet.{never-good}
use Rattle.choosing.specs.Rows.{ChoosingRow, Choosing}
use Rattle.choosing.specs.Read.{Part, choosing_row_at, rows_from, choosing_trailer, or_refused, read_choosing, framed}
use Rattle.choosing.specs.Convert.{row_numbers, leads_of, circle}
use Rattle.choosing.specs.Fault.{fault_from, fault_row, circle_row}
use Rattle.choosing.proofs.Read.{trailer-read}
use Rattle.choosing.proofs.Leads.{Leads}

-- ---- 17: rows

-- rows are read if none is at fault, and not if one is
abbrev Agree : Option ℕ → Option (List ChoosingRow) → Type 0
Agree none o = (rows : List ChoosingRow) × (o ≡ some rows)
Agree (some q) o = o ≡ none

agree-more : (fault : Option ℕ) (x : ChoosingRow) (o : Option (List ChoosingRow)) → Agree fault o
    → Agree fault (map (λ (l : List ChoosingRow). x ∷ l) o)
agree-more none x o a = (x ∷ a.0, ap (map (λ (l : List ChoosingRow). x ∷ l)) a.1)
agree-more (some q) x o a = ap (map (λ (l : List ChoosingRow). x ∷ l)) a

module _ (b : List ℕ) (t : Trailer) where
  rows_agree : (left q i : ℕ) → Agree (fault_from b t left q i) (rows_from b t left q i)
  unfolding fault_from rows_from bind Option-elim
  rows_agree zero q i = go (eqb i t.index)
    where
      go : (whole : Bool) → Agree (cond whole none (some (q - 1))) (cond whole (some []) none)
      go true = ([], refl)
      go false = refl
  rows_agree (suc left) q i = go (eqb (word b (t.index + 2 * q)) i) (choosing_row_at b t i) (rows_agree left (suc q))
    where
      go : (said : Bool) (o : Option (Part ChoosingRow)) → ((j : ℕ) → Agree (fault_from b t left (suc q) j) (rows_from b t left (suc q) j))
          → Agree (cond said (Option-elim o (some q) (λ (p : Part ChoosingRow). fault_from b t left (suc q) p.behind)) (some q))
          (cond said (bind o (λ p. map (λ (l : List ChoosingRow). p.value ∷ l) (rows_from b t left (suc q) p.behind))) none)
      go false o rest = refl
      go true none rest = refl
      go true (some p) rest = agree-more (fault_from b t left (suc q) p.behind) p.value _ (rest p.behind)

  -- rows with one at fault are not read
  rows-fault : (left q i : ℕ) {r : ℕ} → fault_from b t left q i ≡ some r → rows_from b t left q i ≡ none
  rows-fault left q i e = subst (λ (fault : Option ℕ). Agree fault (rows_from b t left q i)) e (rows_agree left q i)

  -- and rows with none are
  rows_whole : (left q i : ℕ) → fault_from b t left q i ≡ none → (rows : List ChoosingRow) × (rows_from b t left q i ≡ some rows)
  rows_whole left q i e = subst (λ (fault : Option ℕ). Agree fault (rows_from b t left q i)) e (rows_agree left q i)

  -- a row at fault is one of the rows
  fault-below : (left q i : ℕ) → 1 ≤ q + left → {r : ℕ} → fault_from b t left q i ≡ some r → r < q + left
  unfolding fault_from Option-elim
  fault-below zero q i h {r} e = go (eqb i t.index) e
    where
      go : (whole : Bool) → cond whole none (some (q - 1)) ≡ some r → r < q + 0
      go true d = absurd (none-ne-some r d)
      go false d = omega (arith, some-injective (q - 1) r d)
  fault-below (suc left) q i h {r} e =
      go (eqb (word b (t.index + 2 * q)) i) (choosing_row_at b t i) (λ j d. fault-below left (suc q) j (omega arith) d) e
    where
      go : (said : Bool) (o : Option (Part ChoosingRow)) → ((j : ℕ) → fault_from b t left (suc q) j ≡ some r → r < suc q + left)
          → cond said (Option-elim o (some q) (λ (p : Part ChoosingRow). fault_from b t left (suc q) p.behind)) (some q) ≡ some r
          → r < q + suc left
      go false o rest d = omega (arith, some-injective q r d)
      go true none rest d = omega (arith, some-injective q r d)
      go true (some p) rest d = omega (arith, rest p.behind d)

-- ---- 17: sheets

module _ (b : List ℕ) where
  -- bytes with a wrong trailer or length are refused
  pub frame_refused : framed b ≡ false → read_choosing b ≡ refusal (plain 17 0)
  unfolding framed read_choosing check
  frame_refused e = rw e refl

  -- the others are read as their rows are
  pub frame-reads : framed b ≡ true → (o : Option (List ChoosingRow)) → rows_from b (trailer b) (trailer b).count 0 0 ≡ o
      → read_choosing b ≡ then (or_refused (plain 17 0) o) (λ rows. good (record { n = (trailer b).n; rows = rows }))
  unfolding framed read_choosing check
  frame-reads e o d = rw (e, d) refl

  module _ {q : ℕ} (e : fault_row b ≡ some q) where
    framed-fault : T (framed b) × (fault_from b (trailer b) (trailer b).count 0 0 ≡ some q)
    unfolding fault_row
    framed-fault = cond-some (framed b) _ q e

    -- bytes with a row at fault are refused
    pub fault-refused : read_choosing b ≡ refusal (plain 17 0)
    unfolding or_refused then
    fault-refused =
        frame-reads (is_true _ framed-fault.0) none (rows-fault b (trailer b) (trailer b).count 0 0 framed-fault.1)

    -- and the row is one of the sheet's
    pub fault-within : q < (trailer b).count
    unfolding framed
    fault-within =
        let fits = (and_both (choosing_trailer (trailer b)) _ (and_both (leb 6 (length b)) _ framed-fault.0).1).0 in
        let some_row = (trailer-read (trailer b) fits).some_row in
        omega (arith, fault-below b (trailer b) (trailer b).count 0 0 (omega (arith, some_row)) framed-fault.1)

  -- bytes that are refused have a wrong trailer or length, or a row at fault
  pub refused-fault : {e : Refusal} → read_choosing b ≡ refusal e → (framed b ≡ false) ⊎ ((q : ℕ) × (fault_row b ≡ some q))
  unfolding fault_row or_refused then
  refused-fault {e} h = go (framed b) refl (fault_from b (trailer b) (trailer b).count 0 0) refl
    where
      go : (f : Bool) → framed b ≡ f → (fault : Option ℕ) → fault_from b (trailer b) (trailer b).count 0 0 ≡ fault
          → (framed b ≡ false) ⊎ ((q : ℕ) × (fault_row b ≡ some q))
      go false d fault k = inl d
      go true d (some q) k = inr (q, rw (d, k) refl)
      go true d none k =
          let read = rows_whole b (trailer b) (trailer b).count 0 0 k in
          absurd (never-good (sym h ∙ frame-reads d _ read.1))

-- ---- 18

-- the first number that passes is one of the numbers exactly if some number passes
pub place-any : (p : ℕ → Bool) (first count : ℕ) → ltb (place p (upto first count)) count ≡ any p (upto first count)
place-any p first count = ap (ltb (place p (upto first count))) (sym (length-upto count first)) ∙ sym (any_place p (upto first count))

number_at : (first count i : ℕ) → i < count → get_or (upto first count) i 0 ≡ first + i
unfolding upto
number_at first zero i h = absurd (omega arith)
number_at first (suc count) zero h = omega arith
number_at first (suc count) (suc i) h = number_at (suc first) count i (omega arith) ∙ omega arith

-- a circle is found at the first row that leads back to itself
pub circle-row : (c : Choosing) → circle c ≡ true → (circle_row c < length c.rows) × Leads (leads_of c) (circle_row c) (circle_row c)
unfolding circle circle_row row_numbers
circle-row c e =
    let back : ℕ → Bool = λ r. has (get_or (leads_of c) r 0) r in
    let rows : ℕ = length c.rows in
    let here : ℕ = place back (upto 0 rows) in
    let within : here < rows = ltb-true here rows (place-any back 0 rows ∙ e) in
    let first : back (get_or (upto 0 rows) here 0) ≡ true = place-passes back (upto 0 rows) 0 (omega (arith, length-upto rows 0)) in
    let is : here ≡ get_or (upto 0 rows) here 0 = omega (arith, number_at 0 rows here within) in
    (within, subst⁻¹ T (ap back is ∙ first) tt)
