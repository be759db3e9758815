-- A union of masks has a stray bit exactly if one of the masks has one: a stray bit is stray in every mask that has it.
-- Assumes nothing.
use mathlib.Core.Path.{◌≡◌, subst, subst⁻¹, ◌∙◌}
use mathlib.Core.Bool.{Bool, ◌&&◌, ◌||◌}
use mathlib.Core.Logic.{⊎_elim}
use mathlib.Core.List.{List}
use Prim.Native.Nat.{ℕ}
use lib.ListN.{length}
use lib.Dec.{T, eqb, ltb, leb}
use Rattle.model.specs.Lists.{any, place}
use Rattle.model.specs.Contract.{actions, has, name, offers_in}
use Rattle.model.specs.Sheet.{stray_bit}
use Rattle.model.proofs.Lists.{test-alike, or_cases, or_left, or_right, and_both, and-of, any-intro, any-elim, any_place}
use Rattle.sheet.specs.Union.{union_of}
use Rattle.sheet.proofs.Union.{has-union}

module _ (n role : ℕ) where
  -- a stray bit of a mask: every mask that has it has a stray bit
  abbrev Forbidden : ℕ → Type 0
  Forbidden mask = (j : ℕ) × T (has mask j) × ((x : ℕ) → T (has x j) → T (stray_bit n role x))

  -- the three tests of a stray bit
  abbrev nameless : ℕ → Bool
  nameless mask = any (λ j. has mask j && leb n (name j)) actions

  abbrev marked : ℕ → Bool
  marked mask = has mask 14 && eqb role 0

  forbidden : (mask : ℕ) → T (stray_bit n role mask) → Forbidden mask
  unfolding stray_bit
  forbidden mask s =
      ⊎_elim
      (λ low. ⊎_elim
      (λ none.
      let w = any-elim (λ j. has mask j && leb n (name j)) actions none in
      let both = and_both (has mask w.0) (leb n (name w.0)) w.2 in (
        w.0,
        both.0,
        λ x h.
            or_left (nameless x || has x 15) (marked x)
            (or_left (nameless x) (has x 15)
            (any-intro (λ j. has x j && leb n (name j)) w.1 (and-of (has x w.0) (leb n (name w.0)) h both.1))),
      ))
      (λ top. (15, top, λ x h. or_left (nameless x || has x 15) (marked x) (or_right (nameless x) (has x 15) h)))
      (or_cases (nameless mask) (has mask 15) low))
      (λ mark.
      let both = and_both (has mask 14) (eqb role 0) mark in
      (14, both.0, λ x h. or_right (nameless x || has x 15) (marked x) (and-of (has x 14) (eqb role 0) h both.1)))
      (or_cases (nameless mask || has mask 15) (marked mask) s)

  -- a stray bit of the union is one of some mask, and back
  stray-any : (masks : List ℕ) → stray_bit n role (union_of masks) ≡ any (stray_bit n role) masks
  unfolding offers_in
  stray-any masks =
      test-alike (stray_bit n role (union_of masks)) (any (stray_bit n role) masks)
      (λ s.
      let f = forbidden (union_of masks) s in
      let w = any-elim (λ mask. has mask f.0) masks (subst T (has-union masks f.0) f.1) in
      any-intro (stray_bit n role) w.1 (f.2 w.0 w.2))
      (λ s.
      let w = any-elim (stray_bit n role) masks s in
      let f = forbidden w.0 w.2 in
      f.2 (union_of masks) (subst⁻¹ T (has-union masks f.0) (any-intro (λ mask. has mask f.0) w.1 f.1)))

  -- so the union tells whether there is a first mask with a stray bit
  pub stray-union : (masks : List ℕ) → stray_bit n role (union_of masks) ≡ ltb (place (stray_bit n role) masks) (length masks)
  stray-union masks = stray-any masks ∙ any_place (stray_bit n role) masks
