-- A byte of what is left when blanks are dropped, and where it stood.
-- Assumes nothing.
use mathlib.Core.Path.{◌≡◌, refl, ap, ◌∙◌}
use mathlib.Core.Bool.{Bool, true, false}
use mathlib.Core.List.{List, [], ◌∷◌}
use Prim.Native.Nat.{ℕ, zero, suc, ◌≤◌, ◌<◌}
use native.Mathlib.Omega.{arith}
use lib.ListN.{length, get_or, take}
use Rattle.model.specs.Lists.{keep}
use Rattle.model.specs.Bytes.{byte}
use Rattle.text.specs.Convert.{is_blank, dropped, place_of_byte}

-- ---- one byte more

dropped-blank : (b : ℕ) (s : List ℕ) → is_blank b ≡ true → dropped (b ∷ s) ≡ dropped s
unfolding dropped keep
dropped-blank b s e = rw e

dropped-byte : (b : ℕ) (s : List ℕ) → is_blank b ≡ false → dropped (b ∷ s) ≡ b ∷ dropped s
unfolding dropped keep
dropped-byte b s e = rw e

dropped-nil : dropped [] ≡ []
unfolding dropped keep
dropped-nil = refl

place-blank : (b : ℕ) (s : List ℕ) (i : ℕ) → is_blank b ≡ true → place_of_byte (b ∷ s) i ≡ suc (place_of_byte s i)
unfolding place_of_byte
place-blank b s zero e = rw e
place-blank b s (suc i) e = rw e

place-first : (b : ℕ) (s : List ℕ) → is_blank b ≡ false → place_of_byte (b ∷ s) zero ≡ zero
unfolding place_of_byte
place-first b s e = rw e

place-later : (b : ℕ) (s : List ℕ) (i : ℕ) → is_blank b ≡ false → place_of_byte (b ∷ s) (suc i) ≡ suc (place_of_byte s i)
unfolding place_of_byte
place-later b s i e = rw e

-- ---- a byte that is left

-- The place is one of the text, the byte stands there, and the bytes before it are those that are left before it.
pub record Stands (s : List ℕ) (i at : ℕ) : Type 0 where
  pub inside : at < length s
  pub there : byte s at ≡ get_or (dropped s) i 0
  pub front : dropped (take at s) ≡ take i (dropped s)

-- behind a blank
stands-blank : (b : ℕ) (s : List ℕ) (i at : ℕ) → is_blank b ≡ true → Stands s i at → Stands (b ∷ s) i (suc at)
unfolding byte
stands-blank b s i at e h =
    record {
      inside = omega arith;
      there = rw (dropped-blank b s e) h.there;
      front = rw (dropped-blank b s e) (dropped-blank b (take at s) e ∙ h.front);
    }

-- behind another byte
stands-later : (b : ℕ) (s : List ℕ) (i at : ℕ) → is_blank b ≡ false → Stands s i at → Stands (b ∷ s) (suc i) (suc at)
unfolding byte
stands-later b s i at e h =
    record {
      inside = omega arith;
      there = rw (dropped-byte b s e) h.there;
      front = rw (dropped-byte b s e) (dropped-byte b (take at s) e ∙ ap (λ (x : List ℕ). b ∷ x) h.front);
    }

-- the first
stands-first : (b : ℕ) (s : List ℕ) → is_blank b ≡ false → Stands (b ∷ s) zero zero
unfolding byte
stands-first b s e = record { inside = omega arith; there = rw (dropped-byte b s e); front = dropped-nil }

pub byte-stands : (s : List ℕ) (i : ℕ) → i < length (dropped s) → Stands s i (place_of_byte s i)
byte-stands [] i h = absurd (omega (arith, ap length dropped-nil))
byte-stands (b ∷ s) i h = go (is_blank b) refl i h (byte-stands s)
  where
    go : (c : Bool) → is_blank b ≡ c → (i : ℕ) → i < length (dropped (b ∷ s))
        → ((i : ℕ) → i < length (dropped s) → Stands s i (place_of_byte s i)) → Stands (b ∷ s) i (place_of_byte (b ∷ s) i)
    go true e i h r =
        rw (place-blank b s i e) (stands-blank b s i (place_of_byte s i) e (r i (omega (arith, ap length (dropped-blank b s e)))))
    go false e zero h r = rw (place-first b s e) (stands-first b s e)
    go false e (suc i) h r =
        rw (place-later b s i e) (stands-later b s i (place_of_byte s i) e (r i (omega (arith, ap length (dropped-byte b s e)))))

pub place_inside : (s : List ℕ) (i : ℕ) → i < length (dropped s) → place_of_byte s i < length s
place_inside s i h = (byte-stands s i h).inside

pub place_byte : (s : List ℕ) (i : ℕ) → i < length (dropped s) → byte s (place_of_byte s i) ≡ get_or (dropped s) i 0
place_byte s i h = (byte-stands s i h).there

pub place-front : (s : List ℕ) (i : ℕ) → i < length (dropped s) → dropped (take (place_of_byte s i) s) ≡ take i (dropped s)
place-front s i h = (byte-stands s i h).front

-- ---- none is left

pub place-beyond : (s : List ℕ) (i : ℕ) → length (dropped s) ≤ i → place_of_byte s i ≡ length s
unfolding place_of_byte
place-beyond [] i h = refl
place-beyond (b ∷ s) i h = go (is_blank b) refl i h (place-beyond s)
  where
    go : (c : Bool) → is_blank b ≡ c → (i : ℕ) → length (dropped (b ∷ s)) ≤ i
        → ((i : ℕ) → length (dropped s) ≤ i → place_of_byte s i ≡ length s) → place_of_byte (b ∷ s) i ≡ suc (length s)
    go true e i h r = place-blank b s i e ∙ ap suc (r i (omega (arith, ap length (dropped-blank b s e))))
    go false e zero h r = absurd (omega (arith, ap length (dropped-byte b s e)))
    go false e (suc i) h r = place-later b s i e ∙ ap suc (r i (omega (arith, ap length (dropped-byte b s e))))
