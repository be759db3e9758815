-- One part is written behind the other: at the front of what was lent stands what is written so far, and what is behind it is
-- as it was.
-- Assumes nothing.
use mathlib.Core.Path.{◌≡◌, refl, ap, ◌∙◌}
use mathlib.Core.List.{List, [], ◌++◌}
use Prim.Native.Nat.{ℕ, ◌+◌, ◌-◌, ◌≤◌}
use native.Mathlib.Omega.{arith}
use lib.ListN.{length, length-append, length-take, length-drop}
use Rattle.little_endian.specs.Front.{front, Wrote}
use Rattle.little_endian.proofs.Front.{length_front, front-then}
use Rattle.walks.proofs.Rest.{rest_of, with_rest}

pub wrote_none : (xs : List ℕ) → Wrote [] 0 xs xs
unfolding front
wrote_none xs = record { size_is = refl; in_front = refl }

pub wrote-length : {w first out : List ℕ} {at : ℕ} → Wrote w at first out → length w ≤ length first → length out ≡ length first
wrote-length {w} {first} is h = ap length is.in_front ∙ length_front w first h

-- w is written up to the place `at`, and v into the rest from there on
pub wrote_then : {w v all first out zs : List ℕ} {at r : ℕ} → Wrote w at first out → Wrote v r (rest_of at out) zs → w ++ v ≡ all
    → at + length v ≤ length first → Wrote all (at + r) first (with_rest at out zs)
wrote_then {w} {v} {all} {first} {out} {zs} {at} is more whole fits =
    record {
      size_is = omega (arith, is.size_is, more.size_is, ap length whole, length-append w v);
      in_front =
          front-then at first out w v zs is.in_front is.size_is fits more.in_front ∙ ap (λ (b : List ℕ). front b first) whole;
    }

-- the rest of what is lent
pub rest-length : (out : List ℕ) (at : ℕ) → length (rest_of at out) ≡ length out - at
rest-length out at = simp (length-take, length-drop) (omega arith)
