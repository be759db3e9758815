-- The moves with one more: its bit in the mask of its range. By the ranges of codes.
-- Assumes nothing.
use mathlib.Core.Path.{◌≡◌, refl, ap, ◌∙◌}
use mathlib.Core.Bool.{Bool, true, false, ◌||◌}
use mathlib.Core.List.{Memᴰ}
use Prim.Native.Nat.{ℕ, ◌+◌, ◌-◌, ◌^◌, ◌≤◌, ◌<◌}
use native.Mathlib.Omega.{arith}
use lib.Bits.{bit_or}
use lib.Dec.{T, eqb, eqb→eq, eqb_refl}
use borrow.Author.Tests.{ne_eqb}
use Rattle.model.specs.Contract.{has}
use Rattle.model.specs.Situation.{kind_of, codes}
use Rattle.model.proofs.Lists.{test-alike}
use Rattle.model.proofs.Masks.{has_more}
use Rattle.model.proofs.Situation.{code-elim, kind-straight, kind-client, kind-service}
use Rattle.moves.specs.declared.Present.{Present}
use Rattle.moves.specs.Present.{present_by}
use Rattle.edits_rows.specs.Rows.{WithCode}

-- ---- one bit more, in its range

or_swap : (a b : Bool) → (a || b) ≡ (b || a)
or_swap true true = refl
or_swap true false = refl
or_swap false true = refl
or_swap false false = refl

-- a code of a range that begins at low, and one of another range
in-range : (low mask i code : ℕ) {bit : ℕ} → bit ≡ 2 ^ i → code ≡ low + i → (j : ℕ)
    → has (bit_or mask bit) j ≡ (eqb (low + j) code || has mask j)
in-range low mask i code b e j =
    rw e
    (has_more mask i b j
    ∙ or_swap (has mask j) (eqb j i)
    ∙ ap (λ (t : Bool). t || has mask j) (test-alike (eqb j i) (eqb (low + j) (low + i)) there back))
  where
    there : T (eqb j i) → T (eqb (low + j) (low + i))
    there t = rw (eqb→eq j i t) (eqb_refl (low + i))

    back : T (eqb (low + j) (low + i)) → T (eqb j i)
    back t = let e : j ≡ i = omega (arith, eqb→eq (low + j) (low + i) t) in rw e (eqb_refl i)

apart : (c code : ℕ) (t : Bool) → (c ≡ code → ⊥) → t ≡ (eqb c code || t)
apart c code t n = rw (ne_eqb c code n) refl

-- ---- one move more

module _ (p : Present) (code : ℕ) {bit : ℕ} where
  pub with-straight : code < 14 → bit ≡ 2 ^ code
      → WithCode p code (record { straight = bit_or p.straight bit; client = p.client; service = p.service })
  unfolding present_by
  with-straight l e =
      record {
        each = code-elim
            (λ (c : ℕ). present_by (record { straight = bit_or p.straight bit; client = p.client; service = p.service }) (kind_of c)
            ≡ (eqb c code || present_by p (kind_of c)))
            (λ j h. rw (kind-straight j h) (has_more p.straight code e j ∙ or_swap (has p.straight j) (eqb j code)))
            (λ j h. rw (kind-client j h) (apart (16 + j) code (has p.client j) (λ d. omega arith)))
            (λ j h. rw (kind-service j h) (apart (32 + j) code (has p.service j) (λ d. omega arith)));
      }

  pub with-client : 16 ≤ code → code < 30 → bit ≡ 2 ^ (code - 16)
      → WithCode p code (record { straight = p.straight; client = bit_or p.client bit; service = p.service })
  unfolding present_by
  with-client l u e =
      record {
        each = code-elim
            (λ (c : ℕ). present_by (record { straight = p.straight; client = bit_or p.client bit; service = p.service }) (kind_of c)
            ≡ (eqb c code || present_by p (kind_of c)))
            (λ j h. rw (kind-straight j h) (apart j code (has p.straight j) (λ d. omega arith)))
            (λ j h. rw (kind-client j h) (in-range 16 p.client (code - 16) code e (omega arith) j))
            (λ j h. rw (kind-service j h) (apart (32 + j) code (has p.service j) (λ d. omega arith)));
      }

  pub with-service : 32 ≤ code → bit ≡ 2 ^ (code - 32)
      → WithCode p code (record { straight = p.straight; client = p.client; service = bit_or p.service bit })
  unfolding present_by
  with-service l e =
      record {
        each = code-elim
            (λ (c : ℕ). present_by (record { straight = p.straight; client = p.client; service = bit_or p.service bit }) (kind_of c)
            ≡ (eqb c code || present_by p (kind_of c)))
            (λ j h. rw (kind-straight j h) (apart j code (has p.straight j) (λ d. omega arith)))
            (λ j h. rw (kind-client j h) (apart (16 + j) code (has p.client j) (λ d. omega arith)))
            (λ j h. rw (kind-service j h) (in-range 32 p.service (code - 32) code e (omega arith) j));
      }

-- where the codes above a range begin
pub code-client-from : (code : ℕ) → Memᴰ code codes → 14 ≤ code → 16 ≤ code
code-client-from = code-elim (λ (c : ℕ). 14 ≤ c → 16 ≤ c) (λ j h l. omega arith) (λ j h l. omega arith) (λ j h l. omega arith)

pub code-service-from : (code : ℕ) → Memᴰ code codes → 30 ≤ code → (32 ≤ code) × (code ≤ 45)
code-service-from =
    code-elim (λ (c : ℕ). 30 ≤ c → (32 ≤ c) × (c ≤ 45)) (λ j h l. absurd (omega arith)) (λ j h l. absurd (omega arith))
    (λ j h l. (omega arith, omega arith))
