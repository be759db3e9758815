-- Unions of the numbers that two tests take: what the parts of a family are joined to.
-- Assumes nothing.
use Rattle.std.specs.Prelude.{◌≡◌, Bool, ◌⊎◌, List, ℕ, ◌^◌, ◌≤◌, ◌<◌, length, T}
use Rattle.std.specs.Int.Bits.{bit_or}
use Rattle.model.specs.Contract.{has}

-- a test takes the number m, which is below `most`
abbrev pub Taken : (test : ℕ → Bool) (most m : ℕ) → Type 0
Taken test most m = (m < most) × T (test m)

-- m is the union of a number below `most` that one test takes and a number below `few` that the other takes
pub record Union (one other : ℕ → Bool) (most few m : ℕ) : Type 0 where
  pub f : ℕ
  pub g : ℕ
  pub f_in : Taken one most f
  pub g_in : Taken other few g
  pub is : m ≡ bit_or f g

-- below `most`, a test takes what another one took before, and all such unions
pub record Joined (was one other : ℕ → Bool) (most few : ℕ) (now : ℕ → Bool) : Type 0 where
  pub comes : (m : ℕ) → m < most → T (now m) → T (was m) ⊎ Union one other most few m
  pub keeps : (m : ℕ) → m < most → T (was m) → T (now m)
  pub gives : (m : ℕ) → m < most → Union one other most few m → T (now m)

-- a number has all unions of a place in one number and one of the first few places in another
abbrev pub Within : (few word other now : ℕ) → Type 0
Within few word other now = Joined (has 0) (has word) (has other) 64 few (has now)

-- families, or parts of them that are halved again and again: each has 2 ^ bits numbers
pub record Sizes (bits : ℕ) (one other out : List ℕ) : Type 0 where
  pub few : bits ≤ 8
  pub one_long : length one ≡ 2 ^ bits
  pub other_long : length other ≡ 2 ^ bits
  pub out_long : length out ≡ 2 ^ bits
