-- What each definition of the reader gives at a place of a text, for the byte that stands there.
-- Assumes nothing.
use mathlib.Core.Path.{◌≡◌, refl}
use mathlib.Core.List.{List, [], ◌∷◌}
use Prim.Native.Nat.{ℕ, zero, suc, ◌+◌, ◌-◌}
use native.Mathlib.Omega.{arith}
use lib.ListN.{drop}
use Rattle.std.specs.Prelude.{slice_get, Some}
use Rattle.text.specs.Grammar.{Tree, nought, bare, dotted, variable, bracket}
use Rattle.text.specs.Parser.{Parse, failed, parsed, and_then, choose, expects, whole_of, leaf, acted, sent, bracketed, looped, step, tight_at}
use Rattle.text_reading.specs.Reader.{ByteIn, NoneIn}
use Rattle.text_reading.proofs.Bytes.{not-at, not-in, after_is, after-not, one-is, one-not}

-- ---- 0 and variables

module _ (text : List ℕ) (at : ℕ) where
  pub leaf-nought : slice_get text at ≡ Some 48 → leaf (drop at text) ≡ parsed nought (drop (at + 1) text)
  unfolding leaf choose
  leaf-nought e = rw (after_is text at e) refl

  module _ (n : slice_get text at ≡ Some 48 → ⊥) where
    pub leaf-variable : {v : ℕ} → ByteIn text at 88 90 v → leaf (drop at text) ≡ parsed (variable v) (drop (at + 1) text)
    unfolding leaf choose
    leaf-variable h = rw (after-not text at n, one-is text at 88 2 h) refl

    pub leaf-stops : NoneIn text at 88 90 → leaf (drop at text) ≡ failed (drop at text)
    unfolding leaf choose
    leaf-stops m = rw (after-not text at n, one-not text at 88 2 m) refl

  -- ---- the rest of tight

  module _ (p q : List ℕ → Parse) where
    pub acted-bare : (j : ℕ) → (slice_get text at ≡ Some 46 → ⊥) → acted p q j (drop at text) ≡ parsed (bare j) (drop at text)
    unfolding acted choose
    acted-bare j n = rw (after-not text at n) refl

    pub acted-dot : (j : ℕ) → slice_get text at ≡ Some 46
        → acted p q j (drop at text) ≡ and_then (p (drop (at + 1) text)) (λ t r. parsed (dotted j t) r)
    unfolding acted choose
    acted-dot j e = rw (after_is text at e) refl

    pub sent-letter : {j : ℕ} → ByteIn text at 97 103 j → sent p q (drop at text) ≡ acted p q (7 + j) (drop (at + 1) text)
    unfolding sent choose
    sent-letter h = rw (one-is text at 97 6 h) refl

    pub sent-stops : NoneIn text at 97 103 → sent p q (drop at text) ≡ failed (drop at text)
    unfolding sent choose
    sent-stops n = rw (one-not text at 97 6 n) refl

    pub step-takes : {j : ℕ} → ByteIn text at 97 103 j → step p q (drop at text) ≡ acted p q j (drop (at + 1) text)
    unfolding step choose
    step-takes h = rw (one-is text at 97 6 h) refl

    pub step-sends : slice_get text at ≡ Some 33 → step p q (drop at text) ≡ sent p q (drop (at + 1) text)
    unfolding step choose
    step-sends e = rw (one-not text at 97 6 (not-in text at e (λ l h. omega arith)), after_is text at e) refl

    pub step-bracket : slice_get text at ≡ Some 40 → step p q (drop at text) ≡ bracketed p q (drop (at + 1) text)
    unfolding step choose
    step-bracket e =
        rw (
          one-not text at 97 6 (not-in text at e (λ l h. omega arith)),
          after-not text at {c = 33} (not-at text at e (λ z. omega arith)),
          after_is text at e,
        ) refl

    pub step-rec : slice_get text at ≡ Some 114 → step p q (drop at text) ≡ expects (101 ∷ 99 ∷ []) (looped p q) (drop (at + 1) text)
    unfolding step choose
    step-rec e =
        rw (
          one-not text at 97 6 (not-in text at e (λ l h. omega arith)),
          after-not text at {c = 33} (not-at text at e (λ z. omega arith)),
          after-not text at {c = 40} (not-at text at e (λ z. omega arith)),
          after_is text at e,
        ) refl

    pub step-leaf : NoneIn text at 97 103 → (slice_get text at ≡ Some 33 → ⊥) → (slice_get text at ≡ Some 40 → ⊥)
        → (slice_get text at ≡ Some 114 → ⊥) → step p q (drop at text) ≡ leaf (drop at text)
    unfolding step choose
    step-leaf l m n o = rw (one-not text at 97 6 l, after-not text at m, after-not text at n, after-not text at o) refl

-- with depth left, one step
pub tight-step : (n depth : ℕ) → (depth ≡ 0 → ⊥) → (s : List ℕ)
    → tight_at n depth s ≡ step (tight_at n (depth - 1)) (whole_of n (tight_at n (depth - 1))) s
unfolding tight_at
tight-step n depth h s = go depth h
  where
    go : (d : ℕ) → (d ≡ 0 → ⊥) → tight_at n d s ≡ step (tight_at n (d - 1)) (whole_of n (tight_at n (d - 1))) s
    go zero k = absurd (k refl)
    go (suc d) k = let same : suc d - 1 ≡ d = omega arith in rw same refl

-- with none left
pub tight-none : (n depth : ℕ) → depth ≡ 0 → (s : List ℕ) → tight_at n depth s ≡ leaf s
unfolding tight_at
tight-none n depth h s = rw h refl

-- ---- brackets

module _ (p q : List ℕ → Parse) (s : List ℕ) where
  pub bracket-fails : {r : List ℕ} → q s ≡ failed r → bracketed p q s ≡ failed r
  unfolding bracketed and_then
  bracket-fails e = rw e refl

  module _ {t : Tree} {r : List ℕ} (e : q s ≡ parsed t r) (text : List ℕ) (at : ℕ) (left : r ≡ drop at text) where
    pub bracket-stops : (slice_get text at ≡ Some 41 → ⊥) → bracketed p q s ≡ failed (drop at text)
    unfolding bracketed and_then expects choose
    bracket-stops n = rw (e, left, after-not text at n) refl

    pub bracket-ends : slice_get text at ≡ Some 41 → bracketed p q s ≡ parsed (bracket t) (drop (at + 1) text)
    unfolding bracketed and_then expects choose
    bracket-ends is = rw (e, left, after_is text at is) refl

-- ---- what follows a part

pub then-fails : {a : Parse} (f : Tree → List ℕ → Parse) {r : List ℕ} → a ≡ failed r → and_then a f ≡ failed r
unfolding and_then
then-fails f e = rw e refl

pub then-goes : {a : Parse} (f : Tree → List ℕ → Parse) {t : Tree} {r : List ℕ} → a ≡ parsed t r → and_then a f ≡ f t r
unfolding and_then
then-goes f e = rw e refl
