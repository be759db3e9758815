-- The answers on states, trailer and sheet, case by case: a law for each way in which one is found whole or at fault.
-- Each unfolds one step of the model's reading. Assumes nothing.
use mathlib.Core.Path.{◌≡◌, sym, ap, ◌∙◌}
use mathlib.Core.Bool.{true, false}
use mathlib.Core.Logic.{◌⊎◌, inl, inr}
use mathlib.Core.List.{List, ◌∷◌}
use Prim.Native.Nat.{ℕ, zero, suc, ◌+◌, ◌-◌, ◌*◌, ◌<◌, ◌≤◌}
use native.Mathlib.Omega.{arith}
use native.Mathlib.Numerals.{add-one, sub-one}
use lib.ListN.{length}
use borrow.Author.Tests.{le-leb, lt-leb, eq-eqb, ne_eqb}
use Rattle.model.specs.Bytes.{word}
use Rattle.model.specs.Contract.{State}
use Rattle.model.specs.Sheet.{Reading, Fault, Trailer, Row, Sheet, good, refusal, check, then, row_at, states_from, good_trailer, trailer}
use Rattle.model.specs.Sheet.{read_sheet}
use Rattle.sheet.specs.Answers.{on_result, whole, behind_of}
use Rattle.sheet.proofs.Answers.{on-then, was-good, was-refusal}

-- ---- states
module _ (b : List ℕ) (t : Trailer) where
  module _ (left q i : ℕ) (h : left ≤ 0) where
    states-none : whole (states_from b t left q i) ≡ whole (states_from b t 0 q i)
    states-none = ap (λ (n : ℕ). whole (states_from b t n q i)) (omega arith)

    pub states-gap : (i ≡ t.index → ⊥) → (last : ℕ) → q - 1 ≡ last
        → whole (states_from b t left q i) ≡ refusal (record { number = 4; state = last; offset = i })
    unfolding states_from check then
    states-gap n last e = states-none ∙ simp (ne_eqb i t.index n, e)

    pub states-whole : i ≡ t.index → whole (states_from b t left q i) ≡ good tt
    unfolding states_from check then
    states-whole e = states-none ∙ simp (eq-eqb i t.index e)

  module _ (q i entry : ℕ) (w : entry ≡ word b (t.index + 2 * q)) where
    pub states-entry : (left : ℕ) → 0 < left → (entry ≡ i → ⊥)
        → whole (states_from b t left q i) ≡ refusal (record { number = 4; state = q; offset = t.index + 2 * q })
    unfolding states_from check then
    states-entry zero h n = absurd (omega arith)
    states-entry (suc left) h n = simp (ne_eqb (word b (t.index + 2 * q)) i (rw w at n))

    module _ (e : entry ≡ i) where
      pub states-fault : (left : ℕ) → 0 < left → (f : Fault) → refusal f ≡ on_result behind_of (row_at b t q i)
          → whole (states_from b t left q i) ≡ refusal f
      unfolding states_from check then
      states-fault zero h f r = absurd (omega arith)
      states-fault (suc left) h f r =
          simp (eq-eqb (word b (t.index + 2 * q)) i (rw w at e), was-refusal behind_of (row_at b t q i) f r)

      pub states-more : (left : ℕ) → 0 < left → (behind : ℕ) → good behind ≡ on_result behind_of (row_at b t q i)
          → whole (states_from b t left q i) ≡ whole (states_from b t (left - 1) (q + 1) behind)
      unfolding states_from check then
      states-more zero h behind r = absurd (omega arith)
      states-more (suc left) h behind r =
          let row = was-good behind_of (row_at b t q i) behind r in
          let rest : Row → Reading Fault (List State) =
          λ (x : Row). on_result (λ states. x.state ∷ states) (states_from b t left (suc q) x.behind) in
          rw (row.2, sub-one (suc left), add-one q)
          (simp (eq-eqb (word b (t.index + 2 * q)) i (rw w at e))
          (ap (λ (x : Reading Fault Row). whole (then x rest)) row.1
          ∙ on-then (λ s. tt) (λ states. row.0.state ∷ states) (states_from b t left (suc q) row.0.behind)))

-- ---- a sheet whose trailer is t
module _ (b : List ℕ) where
  -- a fault of no state
  abbrev at-whole : (number : ℕ) → Reading Fault (Unit {0})
  at-whole number = refusal (record { number = number; state = 0; offset = 0 })

  pub sheet-size : (length b < 6) ⊎ ((6 ≤ length b) × (2118 < length b)) → at-whole 1 ≡ whole (read_sheet b)
  unfolding read_sheet check then
  sheet-size (inl h) = simp (lt-leb 6 (length b) h)
  sheet-size (inr h) = simp (le-leb 6 (length b) h.0, lt-leb (length b) 2118 h.1)

  module _ (h : 6 ≤ length b) where
    module _ (l : length b ≤ 2118) (t : Trailer) (e : t ≡ trailer b) where
      pub sheet-trailer : good_trailer t ≡ false → at-whole 2 ≡ whole (read_sheet b)
      unfolding read_sheet check then
      sheet-trailer g = simp (le-leb 6 (length b) h, le-leb (length b) 2118 l, ap good_trailer (sym e) ∙ g)

      module _ (g : good_trailer t ≡ true) where
        pub sheet-index : (t.index + 2 * t.count + 6 ≡ length b → ⊥) → at-whole 3 ≡ whole (read_sheet b)
        unfolding read_sheet check then
        sheet-index n =
            simp
            (le-leb 6 (length b) h, le-leb (length b) 2118 l, ap good_trailer (sym e) ∙ g, ne_eqb _ _ (rw e at n))

        pub sheet-states : t.index + 2 * t.count + 6 ≡ length b → whole (states_from b t t.count 0 0) ≡ whole (read_sheet b)
        unfolding read_sheet check
        sheet-states n =
            let states = states_from b (trailer b) (trailer b).count 0 0 in
            let sheet : List State → Sheet =
            λ states. record { contract = record { n = (trailer b).n; states = states }; role = (trailer b).role } in
            ap (λ (u : Trailer). whole (states_from b u u.count 0 0)) e
            ∙ simp
            (le-leb 6 (length b) h, le-leb (length b) 2118 l, ap good_trailer (sym e) ∙ g, eq-eqb _ _ (rw e at n))
            (sym (on-then (λ s. tt) sheet states))
