-- The places that can be in a state, put to a set one by one: the first, and each that stands directly behind a prefix.
-- Assumes nothing.
use mathlib.Core.Path.{◌≡◌, refl, ap, subst, subst⁻¹, ◌∙◌}
use mathlib.Core.Bool.{Bool, true, false}
use mathlib.Core.Logic.{⊎_elim}
use mathlib.Core.List.{List, []}
use Prim.Native.Nat.{ℕ, ◌+◌, ◌-◌, ◌^◌, ◌≤◌, ◌<◌}
use native.Mathlib.Omega.{arith}
use native.Mathlib.Nat.{eq-or-lt_of_le}
use lib.ListN.{length, get_or}
use lib.Dec.{T, ltb}
use lib.Bits.{bit_or}
use borrow.Author.Tests.{lt-ltb, le-ltb, ltb-true, ltb-false}
use Rattle.model.specs.Contract.{has}
use Rattle.model.proofs.Bits.{has-or-left, has-or-right, has-or-cases}
use Rattle.model.proofs.Masks.{has-power, power-has}
use Rattle.place_sets.specs.PlaceSets.{number_of}
use Rattle.text.specs.Places.{Sense}
use Rattle.text.specs.declared.Cell as code
use Rattle.text.specs.declared.Cell.TheVariants.{Prefix, Plus, Inner}
use Rattle.text.specs.Told.{Told}
use Rattle.text.specs.Cells.{Cell, Ends, at_end, at_prefix, at_choice, at_variable, Explained, cell_at, unpacked, place_of}
use Rattle.text.specs.Steps.{step_of}
use Rattle.text.proofs.Ends.{to-body}
use Rattle.text_places.specs.Wanted.{Known, Wanting}

-- ---- where a link leads

pub place-itself : (cells bodies : List ℕ) (link : ℕ) → link < 256 → place_of cells bodies link ≡ link
unfolding place_of
place-itself cells bodies link h = rw (lt-ltb link 256 h) refl

pub place-body : (cells bodies : List ℕ) (link : ℕ) → 256 ≤ link → place_of cells bodies link ≡ get_or bodies (link - 256) 0
unfolding place_of
place-body cells bodies link h = rw (le-ltb link 256 h) refl

-- what is no prefix is a choice
pub told-choice : (cell : Cell) (place : code.Cell) → Told cell place → ((action next : ℕ) → place ≡ Prefix action next → ⊥) → 14 ≤ cell.kind
told-choice cell (Prefix action next) told other = absurd (other action next refl)
told-choice cell (Plus left right) told other = omega (arith, told.0)
told-choice cell (Inner left right) told other = omega (arith, told.0)

module _ (cells bodies : List ℕ) where
  -- the cells of some term, one of which is told
  pub known_of : (first : ℕ) → ((senses : List Sense) × Explained cells bodies senses) → first < length cells → length bodies ≤ 64
      → Known cells bodies
  known_of first (senses, x) low recs = record { senses = senses; explained = x; some = omega arith; recs = recs }

  -- a link to a body, and the place of that
  pub link-leads : {b link : ℕ} → Ends cells bodies b link → 256 ≤ link
      → (link < 256 + length bodies) × (get_or bodies (link - 256) 0 < 256)
  link-leads {b} {link} e h =
      let y = to-body cells bodies b (link - 256) e (omega arith) in
      (omega (arith, y.inside), y.place)

  -- a place that ends has a cell
  place-has : {b p : ℕ} → Ends cells bodies b p → p < 256 → 0 < length cells → p < length cells
  place-has (at_end b) h some = some
  place-has (at_prefix b p _ _ i f) h some = i
  place-has (at_choice b p _ _ i f lb rb l r) h some = i
  place-has (at_variable b q _ i f l) h some = absurd (omega (arith, h))

  -- so has the place that a link leads to
  pub to_inside : {b : ℕ} (link : ℕ) → Ends cells bodies b link → 0 < length cells → place_of cells bodies link < length cells
  to_inside {b} link e some = go (ltb link 256) refl
    where
      go : (t : Bool) → ltb link 256 ≡ t → place_of cells bodies link < length cells
      go true d =
          let h = ltb-true link 256 d in
          subst⁻¹ (λ (x : ℕ). x < length cells) (place-itself cells bodies link h) (place-has e h some)
      go false d =
          let h = ltb-false link 256 d in
          let y = to-body cells bodies b (link - 256) e (omega arith) in
          subst⁻¹ (λ (x : ℕ). x < length cells) (place-body cells bodies link h) (place-has y.ends y.place some)

  -- what a prefix leads to can be followed
  pub behind-ends : Known cells bodies → (p : ℕ) → 0 < p → p < length cells → (unpacked (get_or cells p 0)).kind < 14
      → {next : ℕ} → next ≡ (unpacked (get_or cells p 0)).left → Ends cells bodies (length bodies) next
  unfolding cell_at
  behind-ends known p some inside kind is =
      subst⁻¹ (Ends cells bodies (length bodies)) is (known.explained.prefix_ends p some inside kind)

  -- ---- the set

  -- the first place alone
  pub wanting-first : (first : ℕ) {set : List ℕ} → first < length cells → number_of set ≡ 2 ^ first → length set ≡ 4
      → Wanting cells bodies first 1 set
  wanting-first first {set} low is room = record {
    room = room;
    has_first = subst⁻¹ (λ (y : ℕ). T (has y first)) is (has-power first);
    has_behind = λ i h prefix. absurd (omega (arith, prefix.above));
    inside = λ p t. omega (arith, power-has first p (subst (λ (y : ℕ). T (has y p)) is t));
  }

  module _ (known : Known cells bodies) (p : ℕ) (some : 0 < p) (low : p < length cells) {first : ℕ} {set : List ℕ}
      (is : Wanting cells bodies first p set) where
    -- the place behind a prefix more
    pub wanting-prefix : {set' : List ℕ} {next to : ℕ} → (unpacked (get_or cells p 0)).kind < 14 → next ≡ (unpacked (get_or cells p 0)).left
        → to ≡ place_of [] bodies next → number_of set' ≡ bit_or (number_of set) (2 ^ to) → length set' ≡ 4
        → Wanting cells bodies first (p + 1) set'
    unfolding cell_at step_of place_of
    wanting-prefix {set'} {next} {to} kind is_next leads-to more room = record {
      room = room;
      has_first = kept first is.has_first;
      has_behind = λ i h prefix.
          ⊎_elim (λ (e : i ≡ p). subst⁻¹ (λ (k : ℕ). T (has (number_of set') (step_of cells bodies k).to)) e here)
          (λ less. kept (step_of cells bodies i).to (is.has_behind i less prefix))
          (eq-or-lt_of_le (omega arith));
      inside = λ k t.
          ⊎_elim (λ u. is.inside k u) (λ u. subst⁻¹ (λ (x : ℕ). x < length cells) (power-has to k u) inside-to)
          (has-or-cases (number_of set) (2 ^ to) k (subst (λ (x : ℕ). T (has x k)) more t));
    }
      where
        leads : to ≡ place_of [] bodies (unpacked (get_or cells p 0)).left
        leads = leads-to ∙ ap (place_of [] bodies) is_next

        kept : (k : ℕ) → T (has (number_of set) k) → T (has (number_of set') k)
        kept k t = subst⁻¹ (λ (x : ℕ). T (has x k)) more (has-or-left (number_of set) (2 ^ to) k t)

        here : T (has (number_of set') (step_of cells bodies p).to)
        here =
            subst (λ (k : ℕ). T (has (number_of set') k)) leads
            (subst⁻¹ (λ (x : ℕ). T (has x to)) more (has-or-right (number_of set) (2 ^ to) to (has-power to)))

        inside-to : to < length cells
        inside-to =
            subst⁻¹ (λ (x : ℕ). x < length cells) leads
            (to_inside (unpacked (get_or cells p 0)).left (behind-ends known p some low kind refl) known.some)

    -- a choice is no prefix
    pub wanting-choice : 14 ≤ (unpacked (get_or cells p 0)).kind → Wanting cells bodies first (p + 1) set
    unfolding cell_at
    wanting-choice kind = record {
      room = is.room;
      has_first = is.has_first;
      has_behind = λ i h prefix.
          ⊎_elim
          (λ (e : i ≡ p).
          let small : (unpacked (get_or cells p 0)).kind < 14 = subst (λ (k : ℕ). (unpacked (get_or cells k 0)).kind < 14) e prefix.kind in
          absurd (omega arith))
          (λ less. is.has_behind i less prefix)
          (eq-or-lt_of_le (omega arith));
      inside = is.inside;
    }
