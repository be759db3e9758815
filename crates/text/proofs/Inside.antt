-- A list that stands together within a longer one, and its own parts there: behind how many they stand. The laws serve the places, cells
-- and bodies of a term alike.
-- Assumes nothing.
use mathlib.Core.Path.{◌≡◌, refl, ap, sym, subst, ◌∙◌}
use mathlib.Core.List.{List, [], ◌∷◌, ◌++◌, append_assoc, append-nil}
use Prim.Native.Nat.{ℕ, suc, ◌+◌, ◌≤◌}
use native.Mathlib.Omega.{arith}
use lib.ListN.{length, get_or, length-append}
use lib.Seq.{get_or-append_seam}

-- ---- lengths

pub last-length : {A : Type 0} (l : List A) (x : A) (i : ℕ) → length l ≡ i → length (l ++ (x ∷ [])) ≡ suc i
last-length l x i e = length-append l (x ∷ []) ∙ omega (arith, e)

pub both-length : {A : Type 0} (l r : List A) (i k : ℕ) → length l ≡ i → length r ≡ k → length (l ++ r) ≡ i + k
both-length l r i k e f = length-append l r ∙ rw (e, f) refl

pub choice-length : {A : Type 0} (l r : List A) (x : A) (i k : ℕ) → length l ≡ i → length r ≡ k
    → length (l ++ (r ++ (x ∷ []))) ≡ suc (i + k)
choice-length l r x i k e f = both-length l (r ++ (x ∷ [])) i (suc k) e (last-length r x k f) ∙ omega arith

-- ---- lists in lists

-- a list stands within a longer one, with so many before it
pub record Inside {A : Type 0} (whole part : List A) (n : ℕ) : Type 0 where
  pub front : List A
  pub behind : List A
  pub is : whole ≡ front ++ (part ++ behind)
  pub far : length front ≡ n

pub inside-whole : {A : Type 0} (whole : List A) → Inside whole whole 0
inside-whole whole = record { front = []; behind = []; is = sym (append-nil whole); far = refl }

pub inside-left : {A : Type 0} {whole : List A} (l r : List A) {n : ℕ} → Inside whole (l ++ r) n → Inside whole l n
inside-left {A} l r k =
    record {
      front = k.front;
      behind = r ++ k.behind;
      is = k.is ∙ ap (λ (x : List A). k.front ++ x) (append_assoc l r k.behind);
      far = k.far;
    }

pub inside-right : {A : Type 0} {whole : List A} (l r : List A) {n : ℕ} (i : ℕ) → length l ≡ i → Inside whole (l ++ r) n
    → Inside whole r (n + i)
inside-right {A} l r i long k =
    record {
      front = k.front ++ l;
      behind = k.behind;
      is = k.is ∙ ap (λ (x : List A). k.front ++ x) (append_assoc l r k.behind) ∙ sym (append_assoc k.front l (r ++ k.behind));
      far = length-append k.front l ∙ rw (k.far, long) refl;
    }

pub inside-rest : {A : Type 0} {whole : List A} (x : A) (l : List A) {n : ℕ} → Inside whole (x ∷ l) n → Inside whole l (suc n)
inside-rest {whole = whole} x l {n} k = subst (Inside whole l) (omega arith) (inside-right (x ∷ []) l 1 refl k)

-- the second of two parts, with what is behind it
pub inside-second : {A : Type 0} {whole : List A} (l r m : List A) {n : ℕ} (i : ℕ) → length l ≡ i → Inside whole (l ++ (r ++ m)) n
    → Inside whole r (n + i)
inside-second l r m i long k = inside-left r m (inside-right l (r ++ m) i long k)

-- what is behind two parts
pub inside-third : {A : Type 0} {whole : List A} (l r m : List A) {n : ℕ} (i k : ℕ) → length l ≡ i → length r ≡ k
    → Inside whole (l ++ (r ++ m)) n → Inside whole m (n + (i + k))
inside-third {whole = whole} l r m {n} i k e f h =
    subst (Inside whole m) (omega arith) (inside-right r m k f (inside-right l (r ++ m) i e h))

-- the part fits into the whole
pub inside-fits : {A : Type 0} {whole part : List A} {n : ℕ} → Inside whole part n → n + length part ≤ length whole
inside-fits {whole = whole} {part = part} {n = n} k =
    let all : length whole ≡ length k.front + length (part ++ k.behind) =
    ap length k.is ∙ length-append k.front (part ++ k.behind) in
    omega (arith, all, k.far, length-append part k.behind)

-- the first of a part stands behind those before it
pub inside-first : {A : Type 0} {whole : List A} (x : A) (l : List A) {n : ℕ} (d : A) → Inside whole (x ∷ l) n → get_or whole n d ≡ x
inside-first {A} x l {n} d k =
    ap (λ (y : List A). get_or y n d) k.is
    ∙ ap (λ (q : ℕ). get_or (k.front ++ (x ∷ (l ++ k.behind))) q d) (sym k.far)
    ∙ get_or-append_seam k.front x (l ++ k.behind) d
