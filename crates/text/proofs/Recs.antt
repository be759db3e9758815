-- A part of a term with the recs around it: it is followed from the root with the rec of each variable and the number of recs begun before
-- it. Its cells and bodies then stand together in those of the whole, and every place is that of a prefix or a choice that is found so.
-- Assumes nothing.
use mathlib.Core.Path.{◌≡◌, refl, subst, ◌∙◌}
use mathlib.Core.List.{[], ◌∷◌, ◌++◌}
use Prim.Native.Nat.{ℕ, zero, suc, ◌+◌, ◌<◌, ◌≤◌}
use native.Mathlib.Omega.{arith}
use native.Mathlib.Decide.{dec_le}
use lib.ListN.{length, get_or, set, length-set}
use Rattle.text.specs.Terms.{Term, end, before, plus, inner, loop, name}
use Rattle.text.specs.Places.{Scope, size_of}
use Rattle.text.specs.Cells.{Owners, recs_of, link_to, choice_cell, cells_in, bodies_in, no_owners, body_links}
use Rattle.text.proofs.Substitution.{Values}
use Rattle.text.proofs.Stands.{
  Stands,
  at-root,
  in-before,
  in-plus-left,
  in-plus-right,
  in-inner-left,
  in-inner-right,
  in-loop,
}
use Rattle.text.proofs.Inside.{Inside, inside-whole, inside-left, inside-right, inside-rest, inside-second, inside-fits}
use Rattle.text.proofs.Cells.{cells-length, bodies-length, set_below}
use Rattle.text.proofs.Derived.{NamesBelow}

-- ---- a part and the recs around it

-- how many recs begin before a part
unfoldable pub recs_at : {root : Term} {scope : Scope} {σ : Values} {n : ℕ} {t : Term} → Stands root scope σ n t → ℕ
recs_at at-root = 0
recs_at (in-before j t w) = recs_at w
recs_at (in-plus-left t u w) = recs_at w
recs_at (in-plus-right t u w) = recs_at w + recs_of t
recs_at (in-inner-left t u w) = recs_at w
recs_at (in-inner-right t u w) = recs_at w + recs_of t
recs_at (in-loop v t w) = suc (recs_at w)

-- the rec of each variable where it stands
unfoldable pub owners_at : {root : Term} {scope : Scope} {σ : Values} {n : ℕ} {t : Term} → Stands root scope σ n t → Owners
owners_at at-root = no_owners
owners_at (in-before j t w) = owners_at w
owners_at (in-plus-left t u w) = owners_at w
owners_at (in-plus-right t u w) = owners_at w
owners_at (in-inner-left t u w) = owners_at w
owners_at (in-inner-right t u w) = owners_at w
owners_at (in-loop v t w) = set (owners_at w) v (recs_at w)

-- what leads to a part where it stands
abbrev pub link_at : {root : Term} {scope : Scope} {σ : Values} {n : ℕ} {t : Term} → Stands root scope σ n t → ℕ
link_at {n = n} {t = t} w = link_to (owners_at w) n (recs_at w) t

pub part-names : {root : Term} → NamesBelow root → {scope : Scope} {σ : Values} {n : ℕ} {t : Term} → Stands root scope σ n t → NamesBelow t
part-names b at-root = b
part-names b (in-before j t w) = part-names b w
part-names b (in-plus-left t u w) = (part-names b w).0
part-names b (in-plus-right t u w) = (part-names b w).1
part-names b (in-inner-left t u w) = (part-names b w).0
part-names b (in-inner-right t u w) = (part-names b w).1
part-names b (in-loop v t w) = (part-names b w).1

-- there are three variables
pub owners-three : {root : Term} {scope : Scope} {σ : Values} {n : ℕ} {t : Term} (w : Stands root scope σ n t) → length (owners_at w) ≡ 3
unfolding owners_at no_owners
owners-three at-root = refl
owners-three (in-before j t w) = owners-three w
owners-three (in-plus-left t u w) = owners-three w
owners-three (in-plus-right t u w) = owners-three w
owners-three (in-inner-left t u w) = owners-three w
owners-three (in-inner-right t u w) = owners-three w
owners-three (in-loop v t w) = length-set (owners_at w) v (recs_at w) ∙ owners-three w

none_owned : (x : ℕ) → get_or no_owners x 0 ≤ 0
unfolding no_owners
none_owned zero = omega arith
none_owned (suc zero) = omega arith
none_owned (suc (suc zero)) = omega arith
none_owned (suc (suc (suc x))) = omega arith

-- no variable has a rec that begins later
pub owners-below : {root : Term} {scope : Scope} {σ : Values} {n : ℕ} {t : Term} (w : Stands root scope σ n t) (x : ℕ)
    → get_or (owners_at w) x 0 ≤ recs_at w
unfolding owners_at recs_at
owners-below at-root x = none_owned x
owners-below (in-before j t w) x = owners-below w x
owners-below (in-plus-left t u w) x = owners-below w x
owners-below (in-plus-right t u w) x = omega (arith, owners-below w x)
owners-below (in-inner-left t u w) x = owners-below w x
owners-below (in-inner-right t u w) x = omega (arith, owners-below w x)
owners-below (in-loop v t w) x =
    set_below (owners_at w) v (recs_at w) (suc (recs_at w)) (omega arith) (λ y. let h = owners-below w y in omega (arith, h)) x

-- ---- its cells and bodies among those of the whole

pub cells-inside : {root : Term} {scope : Scope} {σ : Values} {n : ℕ} {t : Term} (w : Stands root scope σ n t)
    → Inside (cells_in no_owners 0 0 root) (cells_in (owners_at w) n (recs_at w) t) n
unfolding cells_in owners_at recs_at
cells-inside {root = root} at-root = inside-whole (cells_in no_owners 0 0 root)
cells-inside (in-before {n = n} j t w) =
    inside-left (cells_in (owners_at w) n (recs_at w) t) (record { kind = j; left = link_to (owners_at w) n (recs_at w) t; right = 0 } ∷ [])
    (cells-inside w)
cells-inside (in-plus-left {n = n} t u w) =
    inside-left (cells_in (owners_at w) n (recs_at w) t)
    (cells_in (owners_at w) (n + size_of t) (recs_at w + recs_of t) u ++ (choice_cell (owners_at w) n (recs_at w) 14 t u ∷ [])) (cells-inside w)
cells-inside (in-plus-right {n = n} t u w) =
    inside-second (cells_in (owners_at w) n (recs_at w) t) (cells_in (owners_at w) (n + size_of t) (recs_at w + recs_of t) u)
    (choice_cell (owners_at w) n (recs_at w) 14 t u ∷ []) (size_of t) (cells-length t (owners_at w) n (recs_at w)) (cells-inside w)
cells-inside (in-inner-left {n = n} t u w) =
    inside-left (cells_in (owners_at w) n (recs_at w) t)
    (cells_in (owners_at w) (n + size_of t) (recs_at w + recs_of t) u ++ (choice_cell (owners_at w) n (recs_at w) 15 t u ∷ [])) (cells-inside w)
cells-inside (in-inner-right {n = n} t u w) =
    inside-second (cells_in (owners_at w) n (recs_at w) t) (cells_in (owners_at w) (n + size_of t) (recs_at w + recs_of t) u)
    (choice_cell (owners_at w) n (recs_at w) 15 t u ∷ []) (size_of t) (cells-length t (owners_at w) n (recs_at w)) (cells-inside w)
cells-inside (in-loop v t w) = cells-inside w

pub bodies-inside : {root : Term} {scope : Scope} {σ : Values} {n : ℕ} {t : Term} (w : Stands root scope σ n t)
    → Inside (body_links root) (bodies_in (owners_at w) n (recs_at w) t) (recs_at w)
unfolding body_links bodies_in owners_at recs_at
bodies-inside {root = root} at-root = inside-whole (bodies_in no_owners 0 0 root)
bodies-inside (in-before j t w) = bodies-inside w
bodies-inside (in-plus-left {n = n} t u w) =
    inside-left (bodies_in (owners_at w) n (recs_at w) t) (bodies_in (owners_at w) (n + size_of t) (recs_at w + recs_of t) u) (bodies-inside w)
bodies-inside (in-plus-right {n = n} t u w) =
    inside-right (bodies_in (owners_at w) n (recs_at w) t) (bodies_in (owners_at w) (n + size_of t) (recs_at w + recs_of t) u) (recs_of t)
    (bodies-length t (owners_at w) n (recs_at w)) (bodies-inside w)
bodies-inside (in-inner-left {n = n} t u w) =
    inside-left (bodies_in (owners_at w) n (recs_at w) t) (bodies_in (owners_at w) (n + size_of t) (recs_at w + recs_of t) u) (bodies-inside w)
bodies-inside (in-inner-right {n = n} t u w) =
    inside-right (bodies_in (owners_at w) n (recs_at w) t) (bodies_in (owners_at w) (n + size_of t) (recs_at w + recs_of t) u) (recs_of t)
    (bodies-length t (owners_at w) n (recs_at w)) (bodies-inside w)
bodies-inside (in-loop {n = n} v t w) =
    inside-rest (link_to (set (owners_at w) v (recs_at w)) n (suc (recs_at w)) t)
    (bodies_in (set (owners_at w) v (recs_at w)) n (suc (recs_at w)) t) (bodies-inside w)

-- the places and recs before a part, with its own, are among those of the whole
pub part-size : {root : Term} {scope : Scope} {σ : Values} {n : ℕ} {t : Term} (w : Stands root scope σ n t) → n + size_of t ≤ size_of root
part-size {root = root} {n = n} {t = t} w =
    omega (arith, inside-fits (cells-inside w), cells-length t (owners_at w) n (recs_at w), cells-length root no_owners 0 0)

pub bodies-many : (root : Term) → length (body_links root) ≡ recs_of root
unfolding body_links
bodies-many root = bodies-length root no_owners 0 0

pub part-recs : {root : Term} {scope : Scope} {σ : Values} {n : ℕ} {t : Term} (w : Stands root scope σ n t)
    → recs_at w + recs_of t ≤ recs_of root
part-recs {root = root} {n = n} {t = t} w =
    omega (arith, inside-fits (bodies-inside w), bodies-length t (owners_at w) n (recs_at w), bodies-many root)

-- ---- every place is that of a prefix or a choice

pub data IsPlace (root : Term) : ℕ → Type 0 where
  a_prefix : {scope : Scope} {σ : Values} {n : ℕ} (j : ℕ) (t : Term) → Stands root scope σ n (before j t) → IsPlace root (suc (n + size_of t))
  a-plus : {scope : Scope} {σ : Values} {n : ℕ} (t u : Term) → Stands root scope σ n (plus t u)
      → IsPlace root (suc (n + (size_of t + size_of u)))
  an-inner : {scope : Scope} {σ : Values} {n : ℕ} (t u : Term) → Stands root scope σ n (inner t u)
      → IsPlace root (suc (n + (size_of t + size_of u)))

-- a place up to the next one is the next one or found before
next-is-place : {root : Term} {p : ℕ} (m : ℕ) → p ≤ suc m → (p ≤ m → IsPlace root p) → IsPlace root (suc m) → IsPlace root p
next-is-place {root} {p} m h f k = go (dec_le p m)
  where
    go : Dec (p ≤ m) → IsPlace root p
    go (yes l) = f l
    go (no l) = subst (IsPlace root) (omega (arith, h, l)) k

either-is-place : {root : Term} {p : ℕ} (m : ℕ) → (p ≤ m → IsPlace root p) → (m < p → IsPlace root p) → IsPlace root p
either-is-place {root} {p} m f g = go (dec_le p m)
  where
    go : Dec (p ≤ m) → IsPlace root p
    go (yes l) = f l
    go (no l) = g (omega (arith, l))

choice-is-place : {root : Term} {p : ℕ} (n i k : ℕ) → p ≤ n + suc (i + k) → (p ≤ n + i → IsPlace root p)
    → (n + i < p → p ≤ n + i + k → IsPlace root p) → IsPlace root (suc (n + (i + k))) → IsPlace root p
choice-is-place n i k h f g own =
    next-is-place (n + (i + k)) (omega (arith, h)) (λ l. either-is-place (n + i) f (λ m. g m (omega (arith, l)))) own

pub find : {root : Term} (t : Term) {scope : Scope} {σ : Values} {n : ℕ} → Stands root scope σ n t → (p : ℕ) → n < p → p ≤ n + size_of t
    → IsPlace root p
unfolding size_of
find end w p l h = absurd (omega (arith, l, h))
find (before j t) {n = n} w p l h = next-is-place (n + size_of t) (omega (arith, h)) (λ k. find t (in-before j t w) p l k) (a_prefix j t w)
find (plus t u) {n = n} w p l h =
    choice-is-place n (size_of t) (size_of u) h (λ k. find t (in-plus-left t u w) p l k) (λ m k. find u (in-plus-right t u w) p m k) (a-plus t u w)
find (inner t u) {n = n} w p l h =
    choice-is-place n (size_of t) (size_of u) h (λ k. find t (in-inner-left t u w) p l k) (λ m k. find u (in-inner-right t u w) p m k)
    (an-inner t u w)
find (loop v t) w p l h = find t (in-loop v t w) p l h
find (name v) w p l h = absurd (omega (arith, l, h))

-- ---- every rec stands somewhere

pub data IsRec (root : Term) : ℕ → Type 0 where
  a_rec : {scope : Scope} {σ : Values} {n : ℕ} (v : ℕ) (t : Term) (w : Stands root scope σ n (loop v t)) → IsRec root (recs_at w)

-- a rec among those of two parts is one of the first or of the second
either-is-rec : {root : Term} {r : ℕ} (m : ℕ) → (r < m → IsRec root r) → (m ≤ r → IsRec root r) → IsRec root r
either-is-rec {root} {r} m f g = go (dec_le m r)
  where
    go : Dec (m ≤ r) → IsRec root r
    go (yes l) = g l
    go (no l) = f (omega (arith, l))

pub find-rec : {root : Term} (t : Term) {scope : Scope} {σ : Values} {n : ℕ} (w : Stands root scope σ n t) (r : ℕ) → recs_at w ≤ r
    → r < recs_at w + recs_of t → IsRec root r
unfolding recs_of recs_at
find-rec end w r l h = absurd (omega (arith, l, h))
find-rec (before j t) w r l h = find-rec t (in-before j t w) r l h
find-rec (plus t u) w r l h =
    either-is-rec (recs_at w + recs_of t) (λ k. find-rec t (in-plus-left t u w) r l k)
    (λ k. find-rec u (in-plus-right t u w) r k (omega (arith, h)))
find-rec (inner t u) w r l h =
    either-is-rec (recs_at w + recs_of t) (λ k. find-rec t (in-inner-left t u w) r l k)
    (λ k. find-rec u (in-inner-right t u w) r k (omega (arith, h)))
find-rec {root} (loop v t) w r l h =
    either-is-rec (suc (recs_at w)) (λ k. subst (IsRec root) (omega (arith, l, k)) (a_rec v t w))
    (λ k. find-rec t (in-loop v t w) r k (omega (arith, h)))
find-rec (name v) w r l h = absurd (omega (arith, l, h))
