-- What a converter answers and leaves in the lent output, by what it read: a refusal leaves the output, bytes stand at its front where it has
-- room, and else 13 leaves it too.
-- Assumes nothing.
use mathlib.Core.Path.{◌≡◌, refl, subst⁻¹}
use mathlib.Core.Bool.{Bool, true, false, cond}
use mathlib.Core.Logic.{◌⊎◌, inl, inr}
use mathlib.Core.List.{List}
use Prim.Native.Nat.{ℕ, ◌<◌}
use lib.ListN.{length, take, drop}
use lib.Seq.{take-append_seam, drop-append_seam}
use lib.Dec.{leb}
use borrow.Author.Tests.{leb-false}
use Rattle.model.specs.Sheet.{Reading, good, refusal, Refusal}
use Rattle.model.proofs.Refusals.{OnlyRefused}
use Rattle.little_endian.specs.Front.{front}
use Rattle.nodes.specs.Answer.{Written, written}

-- with room, and without
module _ (bytes out : List ℕ) where
  whole : Written
  whole = record { number = 0; sheet = 0; state = 0; length = length bytes; output = front bytes out }

  short : Written
  short = record { number = 13; sheet = 0; state = 0; length = 0; output = out }

  -- what holds of both, the second if there is no room
  of-both : (P : Written → Type 0) → P whole → (length out < length bytes → P short) → P (written out (good bytes))
  unfolding written whole short
  of-both P w s = go (leb (length bytes) (length out)) refl
    where
      go : (t : Bool) → leb (length bytes) (length out) ≡ t → P (cond t whole short)
      go true e = w
      go false e = s (leb-false (length bytes) (length out) e)

  -- 0 and 13
  pub written-good : (P : List ℕ → Type 0) → P bytes
      → (((written out (good bytes)).number ≡ 0) × P (take (written out (good bytes)).length (written out (good bytes)).output))
      ⊎ (((written out (good bytes)).number ≡ 13) × (sheet : List ℕ) × P sheet × (length out < length sheet))
  unfolding whole short front
  written-good P p =
      of-both (λ (o : Written). ((o.number ≡ 0) × P (take o.length o.output))
      ⊎ ((o.number ≡ 13) × (sheet : List ℕ) × P sheet × (length out < length sheet)))
      (inl (refl, subst⁻¹ P (take-append_seam bytes (drop (length bytes) out)) p)) (λ h. inr (refl, bytes, p, h))

module _ (out : List ℕ) where
  -- a refusal leaves the output, and bytes that are written leave what lies beyond them
  pub written-beyond : (r : Reading Refusal (List ℕ)) → drop (written out r).length (written out r).output ≡ drop (written out r).length out
  unfolding written whole short front
  written-beyond (refusal e) = refl
  written-beyond (good bytes) =
      of-both bytes out (λ (o : Written). drop o.length o.output ≡ drop o.length out)
      (drop-append_seam bytes (drop (length bytes) out)) (λ h. refl)

  pub written-refused : (r : Reading Refusal (List ℕ)) → ((written out r).number ≡ 0 → ⊥)
      → ((written out r).length ≡ 0) × ((written out r).output ≡ out)
  unfolding written whole short
  written-refused (refusal e) = λ ne. (refl, refl)
  written-refused (good bytes) =
      of-both bytes out (λ (o : Written). (o.number ≡ 0 → ⊥) → (o.length ≡ 0) × (o.output ≡ out)) (λ ne. absurd (ne refl)) (λ h ne. (refl, refl))

  -- what holds of 0, of 13 and of every refusal, of its number, sheet and state
  pub written-only : (P : (number sheet state : ℕ) → Type 0) → P 0 0 0 → P 13 0 0 → (r : Reading Refusal (List ℕ))
      → OnlyRefused (λ (e : Refusal). P e.number e.sheet e.state) r
      → P (written out r).number (written out r).sheet (written out r).state
  unfolding written whole short
  written-only P w s (refusal e) p = p
  written-only P w s (good bytes) p = of-both bytes out (λ (o : Written). P o.number o.sheet o.state) w (λ h. s)
