-- Cells of places: how many there are, and that they are packed without loss. Lengths are sums by recursion on the term; a link is below
-- 512, as it is a place or 256 and a rec's number.
-- Assumes nothing.
use mathlib.Core.Path.{◌≡◌, refl, ap}
use mathlib.Core.List.{[], ◌∷◌}
use Prim.Native.Nat.{ℕ, zero, suc, ◌+◌, ◌*◌, ◌/◌, ◌%◌, ◌<◌, ◌≤◌}
use native.Mathlib.Omega.{arith}
use lib.ListN.{length, get_or, set}
use Rattle.text.specs.Terms.{Term, end, before, plus, inner, loop, name}
use Rattle.text.specs.Places.{size_of}
use Rattle.text.specs.Cells.{Cell, packed, unpacked, Owners, recs_of, link_to, choice_cell, cells_in, bodies_in}
use Rattle.text.proofs.Inside.{last-length, both-length, choice-length}

-- ---- lengths

pub cells-length : (t : Term) (owners : Owners) (n r : ℕ) → length (cells_in owners n r t) ≡ size_of t
unfolding cells_in size_of
cells-length end owners n r = refl
cells-length (before j t) owners n r =
    last-length (cells_in owners n r t) (record { kind = j; left = link_to owners n r t; right = 0 }) (size_of t) (cells-length t owners n r)
cells-length (plus t u) owners n r =
    choice-length (cells_in owners n r t) (cells_in owners (n + size_of t) (r + recs_of t) u) (choice_cell owners n r 14 t u) (size_of t) (size_of u)
    (cells-length t owners n r) (cells-length u owners (n + size_of t) (r + recs_of t))
cells-length (inner t u) owners n r =
    choice-length (cells_in owners n r t) (cells_in owners (n + size_of t) (r + recs_of t) u) (choice_cell owners n r 15 t u) (size_of t) (size_of u)
    (cells-length t owners n r) (cells-length u owners (n + size_of t) (r + recs_of t))
cells-length (loop v t) owners n r = cells-length t (set owners v r) n (suc r)
cells-length (name v) owners n r = refl

pub bodies-length : (t : Term) (owners : Owners) (n r : ℕ) → length (bodies_in owners n r t) ≡ recs_of t
unfolding bodies_in recs_of
bodies-length end owners n r = refl
bodies-length (before j t) owners n r = bodies-length t owners n r
bodies-length (plus t u) owners n r =
    both-length (bodies_in owners n r t) (bodies_in owners (n + size_of t) (r + recs_of t) u) (recs_of t) (recs_of u)
    (bodies-length t owners n r) (bodies-length u owners (n + size_of t) (r + recs_of t))
bodies-length (inner t u) owners n r =
    both-length (bodies_in owners n r t) (bodies_in owners (n + size_of t) (r + recs_of t) u) (recs_of t) (recs_of u)
    (bodies-length t owners n r) (bodies-length u owners (n + size_of t) (r + recs_of t))
bodies-length (loop v t) owners n r = ap suc (bodies-length t (set owners v r) n (suc r))
bodies-length (name v) owners n r = refl

-- ---- packing

digits : (k l r : ℕ) → k < 16 → l < 512
    → ((k + 16 * l + 8192 * r) % 16 ≡ k) × ((k + 16 * l + 8192 * r) / 16 % 512 ≡ l) × ((k + 16 * l + 8192 * r) / 8192 ≡ r)
digits k l r small fits =
    let shifted : (k + 16 * l + 8192 * r) / 16 ≡ l + 512 * r = omega (arith, small) in
    (omega (arith, small), rw shifted (omega (arith, fits)), omega (arith, small, fits))

pub unpacked-packed : (c : Cell) → c.kind < 16 → c.left < 512 → unpacked (packed c) ≡ c
unfolding packed unpacked
unpacked-packed c k l = let d = digits c.kind c.left c.right k l in rw (d.0, d.1, d.2) refl

-- ---- owners and links

-- a bound on all owners is one after a rec has set its own
pub set_below : (owners : Owners) (v r b : ℕ) → r ≤ b → ((x : ℕ) → get_or owners x 0 ≤ b) → (x : ℕ) → get_or (set owners v r) x 0 ≤ b
set_below [] v r b k h x = h x
set_below (o ∷ owners) zero r b k h zero = k
set_below (o ∷ owners) zero r b k h (suc x) = h (suc x)
set_below (o ∷ owners) (suc v) r b k h zero = h 0
set_below (o ∷ owners) (suc v) r b k h (suc x) = set_below owners v r b k (λ y. h (suc y)) x

-- what leads to a part is a number below 512, so that it fits into a cell
pub link_fits : (t : Term) (owners : Owners) (n r : ℕ) → n + size_of t ≤ 255 → ((x : ℕ) → get_or owners x 0 ≤ 255) → r + recs_of t ≤ 255
    → link_to owners n r t < 512
unfolding link_to size_of recs_of
link_fits end owners n r few h k = omega arith
link_fits (before j t) owners n r few h k = omega (arith, few)
link_fits (plus t u) owners n r few h k = omega (arith, few)
link_fits (inner t u) owners n r few h k = omega (arith, few)
link_fits (loop v t) owners n r few h k =
    link_fits t (set owners v r) n (suc r) few (set_below owners v r 255 (omega (arith, k)) h) (omega (arith, k))
link_fits (name v) owners n r few h k = omega (arith, h v)
