-- In bytes that are a plan, row p stands at the place that the index says, and a step looks its code up there.
-- Assumes nothing.
use mathlib.Core.Path.{◌≡◌, refl, sym, ap, subst, ◌∙◌}
use mathlib.Core.Bool.{true, false, cond}
use mathlib.Core.List.{List, [], ◌∷◌}
use mathlib.Core.Option.{Option, none, some}
use Prim.Native.Nat.{ℕ, zero, suc, ◌+◌, ◌-◌, ◌*◌, ◌<◌, ◌≤◌}
use native.Mathlib.Omega.{arith}
use native.Mathlib.Nat.{zero-add}
use lib.ListN.{length, get_or}
use lib.Dec.{eqb, ltb}
use borrow.Author.Tests.{lt-ltb, le-ltb}
use Rattle.model.specs.Bytes.{byte, word, dword}
use Rattle.model.specs.Plan.{Move, Plan, held, read_moves, read_rows, read_with, read_plan, rows_of, rows_in, row_step, step_in, step_of}
use Rattle.model.proofs.Lists.{is_true, cond-some}
use Rattle.plan.specs.declared.Row.{Row}
use Rattle.plan.specs.Rows.{RowOf}
use Rattle.plan.specs.Layout.{is_some, good_place}
use Rattle.plan.proofs.Answers.{is-some-elim, is-some-not, map-elim}
use Rattle.plan.proofs.Places.{place-within}
use Rattle.plan.proofs.Trailer.{test, with-room}

module _ (b : List ℕ) (index count n : ℕ) where
  -- the place that the index says for row p
  abbrev place_of : ℕ → ℕ
  place_of p = dword b (index + 4 * p)

  abbrev row_at : ℕ → List Move
  row_at i = read_moves b (i + 1) (byte b i)

  -- rows that were read, the first of them row p
  record Rows (left p : ℕ) (rows : List (List Move)) : Type 0 where
    size : length rows ≡ left
    within : (q : ℕ) → q < left → place_of (p + q) + 1 + 3 * byte b (place_of (p + q)) ≤ index
    row : (q : ℕ) → q < left → get_or rows q [] ≡ row_at (place_of (p + q))

  rows_none : (p : ℕ) {rows : List (List Move)} → [] ≡ rows → Rows 0 p rows
  rows_none p e = subst (Rows 0 p) e (record { size = refl; within = λ q h. absurd (omega arith); row = λ q h. absurd (omega arith) })

  rows-one-more : (left p i : ℕ) (rows : List (List Move)) → place_of p ≡ i → i + 1 + 3 * byte b i ≤ index → Rows left (suc p) rows
      → Rows (suc left) p (row_at i ∷ rows)
  rows-one-more left p i rows e h r =
      record { size = ap suc r.size; within = within; row = row }
    where
      shift : (q : ℕ) → suc p + q ≡ p + suc q
      shift q = omega arith

      first : place_of (p + 0) ≡ i
      first = ap place_of (omega arith) ∙ e

      within : (q : ℕ) → q < suc left → place_of (p + q) + 1 + 3 * byte b (place_of (p + q)) ≤ index
      within zero l = rw first h
      within (suc q) l = rw (shift q) at (r.within q (omega arith))

      row : (q : ℕ) → q < suc left → get_or (row_at i ∷ rows) q [] ≡ row_at (place_of (p + q))
      row zero l = rw first
      row (suc q) l = rw (shift q) at (r.row q (omega arith))

  rows-read : (left p i : ℕ) {rows : List (List Move)} → read_rows b index count n left p i ≡ some rows → Rows left p rows
  unfolding read_rows good_place
  rows-read zero p i e = rows_none p (let w = (cond-some (eqb i index) (some []) _ e).1 in cc)
  rows-read (suc left) p i {rows} e =
      let w = cond-some (good_place b index count n p i) _ _ e in
      let good = place-within b index count n p i (is_true _ w.0) in
      let rest = map-elim _ (read_rows b index count n left (suc p) (i + 1 + 3 * byte b i)) w.1 in
      subst (Rows (suc left) p) rest.2
      (rows-one-more left p i rest.0 good.0 good.1 (rows-read left (suc p) (i + 1 + 3 * byte b i) rest.1))

module _ (b : List ℕ) where
  abbrev index_of : ℕ
  index_of = dword b (length b - 8)

  abbrev count_of : ℕ
  count_of = word b (length b - 4)

  abbrev row_place : ℕ → ℕ
  row_place p = dword b (index_of + 4 * p)

-- what holds of bytes that are a plan: rows, index and trailer fill them, and row p stands at the place that the index says
pub record PlanStands (b : List ℕ) : Type 0 where
  pub room : index_of b + 4 * count_of b + 8 ≡ length b
  pub size : length (rows_in b) ≡ count_of b
  pub within : (p : ℕ) → p < count_of b → row_place b p + 1 + 3 * byte b (row_place b p) ≤ index_of b
  pub row : (p : ℕ) → p < count_of b → get_or (rows_in b) p [] ≡ read_moves b (row_place b p + 1) (byte b (row_place b p))

-- rows that were read with the numbers of a trailer
rows-with : (b : List ℕ) (index count n k : ℕ) {p : Plan} → read_with b index count n k ≡ some p → Rows b index count n count 0 p.rows
unfolding read_with
rows-with b index count n k e =
    let w = cond-some (test b index count n k) _ _ e in
    let m = map-elim _ (read_rows b index count n count 0 0) w.1 in
    subst (λ (p : Plan). Rows b index count n count 0 p.rows) m.2 (rows-read b index count n count 0 0 m.1)

pub stands : (b : List ℕ) → is_some (read_plan b) ≡ true → PlanStands b
unfolding read_plan rows_in rows_of
stands b e =
    let r = is-some-elim (read_plan b) e in
    let rows = rows-with b (index_of b) (count_of b) (byte b (length b - 2)) _ r.1 in
    record {
      room = with-room b _ _ _ _ e;
      size = rw r.1 rows.size;
      within = λ p h. rw zero-add at (rows.within p h);
      row = λ p h. rw r.1 (rw zero-add at (rows.row p h));
    }

-- the plan that was read with the numbers of a trailer
plan-with : (b : List ℕ) (index count n k : ℕ) {p : Plan} → read_with b index count n k ≡ some p
    → read_with b index count n k ≡ some (record { n = n; k = k; rows = p.rows })
unfolding read_with
plan-with b index count n k {p} e =
    let w = cond-some (test b index count n k) _ _ e in
    let m = map-elim _ (read_rows b index count n count 0 0) w.1 in
    e ∙ ap some (sym m.2 ∙ ap (λ (p : Plan). record { n = n; k = k; rows = p.rows }) m.2)

-- n and k stand at its end
pub figures-read : (b : List ℕ) → is_some (read_plan b) ≡ true
    → read_plan b ≡ some (record { n = byte b (length b - 2); k = byte b (length b - 1); rows = rows_in b })
unfolding read_plan rows_in rows_of
figures-read b e =
    let r = is-some-elim (read_plan b) e in
    plan-with b (index_of b) (count_of b) (byte b (length b - 2)) (byte b (length b - 1)) r.1
    ∙ ap (λ (o : Option Plan). some (record { n = byte b (length b - 2); k = byte b (length b - 1); rows = rows_of o })) (sym r.1)

-- ---- stepping

-- the step in bytes that are a plan, and in others
step-rows : (b : List ℕ) (p code : ℕ) → is_some (read_plan b) ≡ true
    → step_of b p code ≡ cond (ltb p (length (rows_in b))) (row_step (held (get_or (rows_in b) p []) code)) (record { number = 15; state = 0 })
unfolding step_of step_in rows_in rows_of
step-rows b p code e = rw (is-some-elim (read_plan b) e).1

pub step-no-plan : (b : List ℕ) (p code : ℕ) → is_some (read_plan b) ≡ false → record { number = 14; state = 0 } ≡ step_of b p code
unfolding step_of step_in
step-no-plan b p code e = rw (is-some-not (read_plan b) e)

pub step-no-state : (b : List ℕ) → is_some (read_plan b) ≡ true → (count p code : ℕ) → count ≡ word b (length b - 4) → count ≤ p
    → record { number = 15; state = 0 } ≡ step_of b p code
step-no-state b plan count p code c h =
    sym (step-rows b p code plan ∙ rw ((stands b plan).size, le-ltb p (count_of b) (omega arith)))

pub step-state : (b : List ℕ) (p code : ℕ) → is_some (read_plan b) ≡ true → p < length (rows_in b) → {row : Row} → RowOf b p row
    → row_step (held (read_moves b row.first row.size) code) ≡ step_of b p code
step-state b p code plan h stands =
    ap (λ (moves : List Move). row_step (held moves code)) stands.moves ∙ sym (step-rows b p code plan ∙ rw (lt-ltb p (length
    (rows_in b)) h))

-- ---- the row of a state

-- bytes that have a row are a plan
pub has-rows : (b : List ℕ) {p : ℕ} → p < length (rows_in b) → is_some (read_plan b) ≡ true
unfolding rows_in rows_of is_some
has-rows b {p} h = go (read_plan b) h
  where
    go : (o : Option Plan) → p < length (rows_of o) → is_some o ≡ true
    go none l = absurd (omega arith)
    go (some plan) l = refl

-- by numbers that were read from the bytes
module _ (b : List ℕ) (p : ℕ) (h : p < length (rows_in b)) where
  s : PlanStands b
  s = stands b (has-rows b h)

  state : p < count_of b
  state = omega (arith, s.size)

  pub trailer-fits : 8 ≤ length b
  trailer-fits = omega (arith, s.room)

  module _ (index : ℕ) (i : index ≡ dword b (length b - 8)) where
    pub entry-fits : index + 4 * p + 4 ≤ length b
    entry-fits = omega (arith, s.room, state)

    module _ (row : ℕ) (r : row ≡ dword b (index + 4 * p)) where
      row_is : row ≡ row_place b p
      row_is = r ∙ ap (λ (x : ℕ). dword b (x + 4 * p)) i

      pub row_fits : row + 1 + 3 * byte b row ≤ length b
      row_fits = rw row_is (omega (arith, s.within p state, s.room))

      pub row-stands : RowOf b p (record { first = row + 1; size = byte b row })
      row-stands = record { within = row_fits; moves = rw row_is (sym (s.row p state)) }
