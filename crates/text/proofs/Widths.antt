-- How many bytes a text of a tree has, and that its term has fewer places.
-- Assumes nothing.
use mathlib.Core.Path.{◌≡◌, refl}
use mathlib.Core.List.{List, [], ◌∷◌}
use Prim.Native.Nat.{ℕ, ◌+◌, ◌%◌, ◌≤◌}
use native.Mathlib.Omega.{arith}
use native.Mathlib.Decide.{dec_le}
use lib.ListN.{length, length-append}
use borrow.Author.Tests.{lt-ltb, le-ltb}
use Rattle.text.specs.Grammar.{
  Spelled,
  takes,
  sends,
  Tree,
  Level,
  Derives,
  d_nought,
  d_variable,
  d_bare,
  d_dotted,
  d_bound,
  d_bracket,
  d_one,
  d_summed,
  d_only,
  d_chosen,
}
use Rattle.text.specs.Terms.{term_of}
use Rattle.text.specs.Places.{size_of}
use Rattle.text.specs.Convert.{action_width, width_of}

-- ---- width

-- a letter, with ! before it where it sends
spelled-width : {j : ℕ} {x : List ℕ} → Spelled j x → length x ≡ action_width j
unfolding action_width
spelled-width (takes i h) = rw (lt-ltb i 7 (omega arith)) refl
spelled-width (sends i h) = rw (le-ltb (7 + i) 7 (omega arith)) refl

width-of : {l : Level} {t : Tree} {x : List ℕ} → Derives l t x → length x ≡ width_of t
unfolding width_of
width-of d_nought = refl
width-of (d_variable v h) = refl
width-of (d_bare j x h) = spelled-width h
width-of (d_dotted j t x y h e) = omega (arith, spelled-width h, width-of e, length-append x (46 ∷ y))
width-of (d_bound v t y h e) = omega (arith, width-of e)
width-of (d_bracket t x e) = omega (arith, width-of e, length-append x (41 ∷ []))
width-of (d_one t x e) = width-of e
width-of (d_summed t u x y e f) = omega (arith, width-of e, width-of f, length-append x (43 ∷ y))
width-of (d_only t x e) = width-of e
width-of (d_chosen t u x y e f) = omega (arith, width-of e, width-of f, length-append x (40 ∷ 43 ∷ 41 ∷ y))

pub width : (l : Level) (t : Tree) (x : List ℕ) → Derives l t x → length x ≡ width_of t
width l t x e = width-of e

-- ---- places

-- an action has a byte at least
pub spelled-some : {j : ℕ} {x : List ℕ} → Spelled j x → (1 ≤ length x) × (1 ≡ length x → length x % 2 ≡ 1)
spelled-some (takes i h) = omega arith
spelled-some (sends i h) = omega arith

-- A term has at most one place for each byte. Where it has as many, the text is letters with + between them, whose number is odd.
pub size-odd : {l : Level} {t : Tree} {x : List ℕ} → Derives l t x
    → (size_of (term_of t) ≤ length x) × (size_of (term_of t) ≡ length x → length x % 2 ≡ 1)
unfolding term_of size_of
size-odd d_nought = omega arith
size-odd (d_variable v h) = omega arith
size-odd (d_bare j x h) = spelled-some h
size-odd (d_dotted j t x y h e) =
    let i = size-odd e in
    omega (arith, i.0, (spelled-some h).0, length-append x (46 ∷ y))
size-odd (d_bound v t y h e) = let i = size-odd e in omega (arith, i.0)
size-odd (d_bracket t x e) = let i = size-odd e in omega (arith, i.0, length-append x (41 ∷ []))
size-odd (d_one t x e) = size-odd e
size-odd (d_summed t u x y e f) =
    let i = size-odd e in
    let k = size-odd f in
    let long = length-append x (43 ∷ y) in (
      omega (arith, i.0, k.0, long),
      λ q.
          let o = i.1 (omega (arith, k.0, i.0, long, q)) in
          let o' = k.1 (omega (arith, i.0, k.0, long, q)) in
          omega (arith, o, o', long),
    )
size-odd (d_only t x e) = size-odd e
size-odd (d_chosen t u x y e f) =
    let i = size-odd e in
    let k = size-odd f in
    omega (arith, i.0, k.0, length-append x (40 ∷ 43 ∷ 41 ∷ y))

-- so a term that is typed with at most 256 bytes has fewer places than that
pub few_places : (l : Level) (t : Tree) (x : List ℕ) → Derives l t x → length x ≤ 256 → size_of (term_of t) ≤ 255
few_places l t x e h = go (dec_le (size_of (term_of t)) 255)
  where
    go : Dec (size_of (term_of t) ≤ 255) → size_of (term_of t) ≤ 255
    go (yes k) = k
    go (no k) =
        let i = size-odd e in
        let odd = i.1 (omega (arith, i.0)) in
        absurd (omega (arith, i.0, odd))
