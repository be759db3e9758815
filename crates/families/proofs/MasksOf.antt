-- The masks of a family in order: number by number, and in a number from the lowest bit on.
-- Assumes nothing.
use mathlib.Core.Path.{◌≡◌, refl, sym, ap}
use mathlib.Core.Bool.{Bool, true, false, cond}
use mathlib.Core.Logic.{⊎_elim}
use mathlib.Core.List.{List, [], ◌∷◌, ◌++◌, map}
use Prim.Native.Nat.{ℕ, zero, suc, ◌+◌, ◌-◌, ◌*◌, ◌^◌, ◌≤◌, ◌<◌}
use native.Mathlib.Omega.{arith}
use native.Mathlib.Nat.{eq-or-lt_of_le}
use lib.ListN.{get_or}
use lib.Bits.{bit_and, and_le_r}
use lib.Count.{count_trailing_zeros}
use Rattle.model.specs.Lists.{keep, upto}
use Rattle.model.specs.Contract.{has}
use Rattle.model.proofs.Masks.{has-none}
use Rattle.model.proofs.LowestBit.{Lowest, lowest-bit, set-among}
use Rattle.families.specs.Families.{in_family, masks_of, masks_in}
use Rattle.families.proofs.Families.{in-number}

-- ---- ranges

upto-parts : (first a b : ℕ) → upto first (a + b) ≡ upto first a ++ upto (first + a) b
unfolding upto
upto-parts first zero b = let e : first + 0 ≡ first = omega arith in let z : 0 + b ≡ b = omega arith in rw (z, e) refl
upto-parts first (suc a) b =
    let e : first + suc a ≡ suc first + a = omega arith in
    let z : suc a + b ≡ suc (a + b) = omega arith in
    rw (z, e) (ap (λ (l : List ℕ). first ∷ l) (upto-parts (suc first) a b))

keep-parts : (p : ℕ → Bool) (l k : List ℕ) → keep p (l ++ k) ≡ keep p l ++ keep p k
unfolding keep
keep-parts p [] k = refl
keep-parts p (x ∷ l) k = rw (keep-parts p l k) (go (p x))
  where
    go : (t : Bool) → cond t (x ∷ (keep p l ++ keep p k)) (keep p l ++ keep p k) ≡ cond t (x ∷ keep p l) (keep p l) ++ keep p k
    go true = refl
    go false = refl

-- a range that begins `base` later, by a test that looks at what comes behind
keep-later : (p q : ℕ → Bool) (base first count : ℕ) → ((j : ℕ) → j < first + count → p (base + j) ≡ q j)
    → keep p (upto (base + first) count) ≡ map (λ j. base + j) (keep q (upto first count))
unfolding keep upto
keep-later p q base first zero f = refl
keep-later p q base first (suc count) f =
    let e : suc (base + first) ≡ base + suc first = omega arith in
    rw (f first (omega arith), e, keep-later p q base (suc first) count (λ j h. f j (omega arith))) (go (q first) (keep q (upto (suc first) count)))
  where
    go : (t : Bool) (l : List ℕ) → cond t ((base + first) ∷ map (λ j. base + j) l) (map (λ j. base + j) l)
        ≡ map (λ j. base + j) (cond t (first ∷ l) l)
    go true l = refl
    go false l = refl

-- tests that agree from a number on keep the same
keep_same : (p q : ℕ → Bool) (first count : ℕ) → ((j : ℕ) → first ≤ j → p j ≡ q j) → keep p (upto first count) ≡ keep q (upto first count)
unfolding keep upto
keep_same p q first zero f = refl
keep_same p q first (suc count) f = rw (f first (omega arith), keep_same p q (suc first) count (λ j h. f j (omega arith)))

keep-none : (p : ℕ → Bool) (first count : ℕ) → ((j : ℕ) → p j ≡ false) → keep p (upto first count) ≡ []
unfolding keep upto
keep-none p first zero f = refl
keep-none p first (suc count) f = rw (f first) (keep-none p (suc first) count f)

-- ---- number by number

-- the masks of the numbers from w on
abbrev pub masks_from : (words : List ℕ) (w : ℕ) → List ℕ
masks_from words w = keep (in_family words) (upto (64 * w) (16384 - 64 * w))

module _ (words : List ℕ) where
  pub from_all : masks_from words 0 ≡ masks_of words
  unfolding masks_of
  from_all = refl

  pub from_end : (w : ℕ) → 256 ≤ w → masks_from words w ≡ []
  unfolding keep upto
  from_end w h = let none : 16384 - 64 * w ≡ 0 = omega arith in rw none refl

  of_number : (w : ℕ) → keep (in_family words) (upto (64 * w) 64) ≡ masks_in w (get_or words w 0)
  unfolding masks_in
  of_number w =
      let e : 64 * w + 0 ≡ 64 * w = omega arith in
      rw e at (keep-later (in_family words) (has (get_or words w 0)) (64 * w) 0 64 (λ p h. in-number words w p (64 * w + p) h refl))

  pub from_more : (w : ℕ) → w < 256 → masks_from words w ≡ masks_in w (get_or words w 0) ++ masks_from words (w + 1)
  from_more w h =
      let left : 16384 - 64 * w ≡ 64 + (16384 - 64 * (w + 1)) = omega arith in
      let next : 64 * w + 64 ≡ 64 * (w + 1) = omega arith in
      rw (left, upto-parts (64 * w) 64 (16384 - 64 * (w + 1)), next, keep-parts, of_number w) refl

-- ---- in a number, from the lowest bit on

pub in-none : (w : ℕ) → masks_in w 0 ≡ []
unfolding masks_in
in-none w = rw (keep-none (has 0) 0 64 has-none) refl

keep-lowest : {word less at : ℕ} → Lowest word less at → (first count : ℕ) → first ≤ at → at < first + count
    → keep (has word) (upto first count) ≡ at ∷ keep (has less) (upto first count)
unfolding keep upto
keep-lowest low first zero h k = absurd (omega arith)
keep-lowest {word} {less} {at} low first (suc count) h k =
    ⊎_elim
    (λ (e : first ≡ at). rw (
      e,
      low.set,
      low.gone at (omega arith),
      keep_same (has word) (has less) (suc at) count (λ j l. sym (low.above j (omega arith))),
    ))
    (λ (l : first < at). rw (low.clear first l, low.gone first h) (keep-lowest low (suc first) count (omega arith) (omega arith)))
    (eq-or-lt_of_le h)

module _ (w word : ℕ) (some : word ≡ 0 → ⊥) (small : word < 2 ^ 64) where
  positive : 0 < word
  positive = ⊎_elim (λ (e : 0 ≡ word). absurd (some (sym e))) (λ l. l) (eq-or-lt_of_le (omega arith))

  pub in-less : bit_and word (word - 1) < word
  in-less = omega (arith, positive, and_le_r word (word - 1))

  pub in-lowest : {at : ℕ} → at ≡ count_trailing_zeros 64 word → masks_in w word ≡ (64 * w + at) ∷ masks_in w (bit_and word (word - 1))
  unfolding masks_in
  in-lowest {at} e =
      let low = lowest-bit 64 word positive small in
      let within = set-among 64 word (count_trailing_zeros 64 word) small low.set in
      rw (e, keep-lowest low 0 64 (omega arith) (omega arith)) refl
