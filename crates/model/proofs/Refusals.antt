-- The numbers of refusals: a sheet is refused as 1 to 7, two sheets as 1 to 9. Each test gives its own number, so each
-- reading is refused only as its tests and those it goes on with are.
-- Assumes nothing.
use mathlib.Core.Path.{◌≡◌, refl, subst}
use mathlib.Core.Bool.{Bool, true, false, ◌&&◌}
use mathlib.Core.List.{List}
use Prim.Native.Nat.{ℕ, zero, suc, ◌+◌, ◌*◌, ◌≤◌}
use native.Mathlib.Omega.{arith}
use lib.ListN.{length}
use lib.Dec.{eqb, ltb, leb}
use Rattle.model.specs.Lists.{keep, place}
use Rattle.model.specs.Bytes.{byte, word}
use Rattle.model.specs.Contract.{actions, offers_in}
use Rattle.model.specs.Sheet.{Reading, good, refusal, check, then, Fault, Trailer, trailer, stray_bit, out_of_order, words_from, masks_from, successors_from, row_with, row_at, states_from, Sheet, good_trailer, read_sheet, Refusal, in_place, plain, read_both}

-- a reading is refused only as P allows
abbrev pub OnlyRefused : {E A : Type 0} → (E → Type 0) → Reading E A → Type 0
OnlyRefused P (good a) = Unit {0}
OnlyRefused P (refusal e) = P e

module _ {E : Type 0} (P : E → Type 0) where
  pub only-check : {A : Type 0} (ok : Bool) (e : E) (r : Reading E A) → P e → OnlyRefused P r → OnlyRefused P (check ok e r)
  unfolding check
  only-check true e r p o = o
  only-check false e r p o = p

  pub only_then : {A B : Type 0} (r : Reading E A) (f : A → Reading E B) → OnlyRefused P r → ((a : A) → OnlyRefused P (f a)) → OnlyRefused P (then r f)
  unfolding then
  only_then (good a) f o g = g a
  only_then (refusal e) f o g = o

  -- a test that fails refuses, and what is behind it is reached only if it passed
  pub only-tested : {A : Type 0} (ok : Bool) (e : E) (r : Reading E A) → (ok ≡ false → P e) → (ok ≡ true → OnlyRefused P r) → OnlyRefused P (check ok e r)
  unfolding check
  only-tested true e r p o = o refl
  only-tested false e r p o = p refl

  -- what is behind a result is reached only with it
  pub only-read : {A B : Type 0} (r : Reading E A) (f : A → Reading E B) → OnlyRefused P r → ((a : A) → r ≡ good a → OnlyRefused P (f a))
      → OnlyRefused P (then r f)
  unfolding then
  only-read (good a) f o g = g a refl
  only-read (refusal e) f o g = o

  pub only-elim : {A : Type 0} (r : Reading E A) (e : E) → OnlyRefused P r → r ≡ refusal e → P e
  only-elim r e o q = subst (OnlyRefused P) q o

pub only-weaker : {E A : Type 0} (P Q : E → Type 0) → ((e : E) → P e → Q e) → (r : Reading E A) → OnlyRefused P r → OnlyRefused Q r
only-weaker P Q h (good a) o = tt
only-weaker P Q h (refusal e) o = h e o

-- a number from 1 to a last one
abbrev pub InTable : ℕ → ℕ → Type 0
InTable last number = (1 ≤ number) × (number ≤ last)

abbrev OfSheet : Fault → Type 0
OfSheet f = InTable 7 f.number

-- a refusal for a state
abbrev pub OfState : ℕ → Fault → Type 0
OfState q f = OfSheet f × (f.state ≡ q)

module _ (b : List ℕ) (t : Trailer) where
  only-masks : (q count least i : ℕ) → OnlyRefused (OfState q) (masks_from b t q count least i)
  unfolding masks_from
  only-masks q count least i =
      let stray = place (stray_bit t.n t.role) (words_from b count i) in
      only-check (OfState q) (leb count stray) _ _ ((omega arith, omega arith), refl)
      (only-check (OfState q) (leb count (out_of_order least (words_from b count i))) _ _ ((omega arith, omega arith), refl) tt)

  only-successors : (q left i : ℕ) → OnlyRefused (OfState q) (successors_from b t q left i)
  unfolding successors_from
  only-successors q zero i = tt
  only-successors q (suc left) i =
      only-check (OfState q) (ltb (byte b i) t.count) _ _ ((omega arith, omega arith), refl)
      (only_then (OfState q) (successors_from b t q left (i + 1)) _ (only-successors q left (i + 1)) (λ successors. tt))

  -- a row is refused for its state
  pub only_row : (q i : ℕ) → OnlyRefused (OfState q) (row_at b t q i)
  unfolding row_at row_with
  only_row q i =
      only-check (OfState q) (ltb i t.index) _ _ ((omega arith, omega arith), refl)
      (only-check (OfState q) (leb 1 (byte b i) && leb (byte b i) 8) _ _ ((omega arith, omega arith), refl)
      (only-check (OfState q) (leb (i + 1 + 2 * byte b i) t.index) _ _ ((omega arith, omega arith), refl)
      (only_then (OfState q) (masks_from b t q (byte b i) 0 (i + 1)) _ (only-masks q (byte b i) 0 (i + 1))
      (λ masks.
      let offered = length (keep (offers_in masks) actions) in
      let place = i + 1 + 2 * byte b i in
      only-check (OfState q) (leb (place + offered) t.index) _ _ ((omega arith, omega arith), refl)
      (only_then (OfState q) (successors_from b t q offered place) _ (only-successors q offered place) (λ successors. tt))))))

  only-states : (left q i : ℕ) → OnlyRefused OfSheet (states_from b t left q i)
  unfolding states_from
  only-states zero q i = only-check OfSheet (eqb i t.index) _ _ (omega arith, omega arith) tt
  only-states (suc left) q i =
      only-check OfSheet (eqb (word b (t.index + 2 * q)) i) _ _ (omega arith, omega arith)
      (only_then OfSheet (row_at b t q i) _ (only-weaker (OfState q) OfSheet (λ f o. o.0) (row_at b t q i) (only_row q i))
      (λ row. only_then OfSheet (states_from b t left (suc q) row.behind) _ (only-states left (suc q) row.behind) (λ states. tt)))

-- a sheet is refused as 1 to 7
pub sheet-numbers : (b : List ℕ) → OnlyRefused OfSheet (read_sheet b)
unfolding read_sheet
sheet-numbers b =
    let t = trailer b in
    only-check OfSheet (leb 6 (length b) && leb (length b) 2118) _ _ (omega arith, omega arith)
    (only-check OfSheet (good_trailer t) _ _ (omega arith, omega arith)
    (only-check OfSheet (eqb (t.index + 2 * t.count + 6) (length b)) _ _ (omega arith, omega arith)
    (only_then OfSheet (states_from b t t.count 0 0) _ (only-states b t t.count 0 0) (λ states. tt))))

abbrev OfBoth : Refusal → Type 0
OfBoth r = InTable 9 r.number

only-place : (p : ℕ) (r : Reading Fault Sheet) → OnlyRefused OfSheet r → OnlyRefused OfBoth (in_place p r)
unfolding in_place
only-place p (good s) o = tt
only-place p (refusal f) o = (o.0, omega (arith, o.1))

-- two sheets are refused as 1 to 9
pub both-numbers : (role₁ role₂ : ℕ) (b₁ b₂ : List ℕ) → OnlyRefused OfBoth (read_both role₁ role₂ b₁ b₂)
unfolding read_both plain
both-numbers role₁ role₂ b₁ b₂ =
    only_then OfBoth (in_place 1 (read_sheet b₁)) _ (only-place 1 (read_sheet b₁) (sheet-numbers b₁))
    (λ s₁. only_then OfBoth (in_place 2 (read_sheet b₂)) _ (only-place 2 (read_sheet b₂) (sheet-numbers b₂))
    (λ s₂. only-check OfBoth (eqb s₁.role role₁) _ _ (omega arith, omega arith)
    (only-check OfBoth (eqb s₂.role role₂) _ _ (omega arith, omega arith)
    (only-check OfBoth (eqb s₁.contract.n s₂.contract.n) _ _ (omega arith, omega arith) tt))))
