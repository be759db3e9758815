-- The bytes at a place of a text, as the definitions ask for them.
-- Assumes nothing.
use mathlib.Core.Path.{◌≡◌, refl, sym, ap, ◌∙◌}
use mathlib.Core.Bool.{Bool, true, false, ◌&&◌}
use mathlib.Core.Option.{none, some}
use mathlib.Core.List.{List, ◌∷◌}
use Prim.Native.Nat.{ℕ, ◌+◌, ◌-◌, ◌≤◌, ◌<◌}
use native.Mathlib.Nat.{lt_of_not-le, add-zero}
use native.Mathlib.Omega.{arith}
use native.Mathlib.Decide.{dec_le}
use native.Mathlib.Numerals.{add-one}
use lib.ListN.{length, get_or, drop, drop_of_length-le}
use lib.Seq.{drop-cons}
use lib.Dec.{eqb, leb}
use borrow.Author.Tests.{eq-eqb, ne_eqb, le-leb, leb-true, eqb-true}
use Rattle.std.specs.Prelude.{Option, slice_get, Some, None}
use Rattle.std.specs.Option.{option_eq}
use Rattle.std.proofs.lemmas.Bool.{false_from_ne_true, true≢false, false≢true}
use Rattle.std.proofs.lemmas.Option.{none-some, slice_get_within, slice_get-get_or, get_or_from_slice_get}
use Rattle.model.proofs.Lists.{both_true}
use Rattle.text.specs.Parser.{after, one_of}
use Rattle.text_reading.specs.Reader.{ByteIn, NoneIn}

-- a number that is not in a range
out_of : {low high : ℕ} (b : ℕ) → (low ≤ b → b ≤ high → ⊥) → (leb low b && leb b high) ≡ false
out_of {low} {high} b m =
    false_from_ne_true (leb low b && leb b high) (λ q.
    let w = both_true (leb low b) (leb b high) q in
    m (leb-true low b w.0) (leb-true b high w.1))

same_byte : (o : Option ℕ) {b : ℕ} → option_eq eqb o (Some b) ≡ true → o ≡ Some b
same_byte None q = absurd (false≢true q)
same_byte (Some a) {b} q = ap Some (eqb-true a b q)

other_byte : (o : Option ℕ) {b : ℕ} → option_eq eqb o (Some b) ≡ false → o ≡ Some b → ⊥
other_byte None q e = none-some _ e
other_byte (Some a) {b} q e = let same : a ≡ b = cc in true≢false (sym (eq-eqb a b same) ∙ q)

-- what the code's test of the next byte tells
module _ (text : List ℕ) (at : ℕ) {b : ℕ} {o : Option ℕ} (byte : o ≡ slice_get text (at + 0)) {r : Bool} (test : r ≡ option_eq eqb o (Some b)) where
  pub next_is : r ≡ true → slice_get text at ≡ Some b
  next_is q = rw add-zero at (sym byte ∙ same_byte o (sym test ∙ q))

  pub next-not : r ≡ false → slice_get text at ≡ Some b → ⊥
  next-not q e = other_byte o (sym test ∙ q) (byte ∙ rw add-zero e)

module _ (text : List ℕ) (at : ℕ) where
  -- a byte that is there is not behind the last
  pub here : {b : ℕ} → slice_get text at ≡ Some b → at < length text
  here {b} e = slice_get_within text at b e

  -- what is left from a byte on
  from-here : {b : ℕ} → slice_get text at ≡ Some b → drop at text ≡ b ∷ drop (at + 1) text
  from-here {b} e =
      let h : at < length text = here e in
      rw (add-one, drop-cons text at 0, get_or_from_slice_get text at b 0 e) refl

  -- one that is not behind the last is there
  there : at < length text → slice_get text at ≡ Some (get_or text at 0)
  there h = slice_get-get_or text at 0 h

  -- another byte is not, nor one of others
  pub not-at : {c d : ℕ} → slice_get text at ≡ Some c → (c ≡ d → ⊥) → slice_get text at ≡ Some d → ⊥
  not-at {c} {d} e n f = n cc

  pub not-in : {c low high : ℕ} → slice_get text at ≡ Some c → (low ≤ c → c ≤ high → ⊥) → NoneIn text at low high
  not-in {c} e n b f l h = let same : c ≡ b = cc in n (omega arith) (omega arith)

  -- ---- one byte

  pub after_is : {c : ℕ} → slice_get text at ≡ Some c → after c (drop at text) ≡ some (drop (at + 1) text)
  unfolding after
  after_is {c} e = ap (after c) (from-here e) ∙ rw (eq-eqb c c refl) refl

  pub after-not : {c : ℕ} → (slice_get text at ≡ Some c → ⊥) → after c (drop at text) ≡ none
  unfolding after
  after-not {c} n = go (dec_le (length text) at)
    where
      go : Dec (length text ≤ at) → after c (drop at text) ≡ none
      go (yes k) = ap (after c) (drop_of_length-le text k)
      go (no k) =
          let e = there (lt_of_not-le k) in
          ap (after c) (from-here e) ∙ rw (ne_eqb c (get_or text at 0) (λ z. n (e ∙ ap Some (sym z)))) refl

  -- ---- one of several

  pub one-is : (low span : ℕ) {n : ℕ} → ByteIn text at low (low + span) n → one_of low span (drop at text) ≡ some (n, drop (at + 1) text)
  unfolding one_of
  one-is low span {n} h =
      let i = h.within in
      let same : low + n - low ≡ n = omega arith in
      ap (one_of low span) (from-here h.is)
      ∙ rw (le-leb low (low + n) (omega arith), le-leb (low + n) (low + span) i, same) refl

  pub one-not : (low span : ℕ) → NoneIn text at low (low + span) → one_of low span (drop at text) ≡ none
  unfolding one_of
  one-not low span n = go (dec_le (length text) at)
    where
      go : Dec (length text ≤ at) → one_of low span (drop at text) ≡ none
      go (yes k) = ap (one_of low span) (drop_of_length-le text k)
      go (no k) =
          let e = there (lt_of_not-le k) in
          ap (one_of low span) (from-here e) ∙ rw (out_of (get_or text at 0) (n (get_or text at 0) e)) refl
