-- Lists of zeros.
-- Assumes nothing.
use mathlib.Core.Path.{◌≡◌, refl}
use mathlib.Core.List.{List}
use Prim.Native.Nat.{ℕ, zero, suc}
use lib.ListN.{get_or, replicate}

abbrev pub zeros : ℕ → List ℕ
zeros n = replicate n 0

pub zeros-blank : (n p : ℕ) → get_or (zeros n) p 0 ≡ 0
zeros-blank zero p = refl
zeros-blank (suc n) zero = refl
zeros-blank (suc n) (suc p) = zeros-blank n p
