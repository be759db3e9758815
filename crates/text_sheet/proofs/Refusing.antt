-- Refusals handed on, and answered; and the byte at fault that one names.
-- Assumes nothing.
use mathlib.Core.Path.{◌≡◌, subst, subst⁻¹}
use mathlib.Core.Logic.{◌⊎◌, inl, inr}
use mathlib.Core.List.{List}
use Prim.Native.Nat.{ℕ, ◌≤◌}
use Rattle.std.specs.Prelude.{Result, Ok, Err, MatchResult}
use Rattle.std.specs.Result.{IsErrAnd}
use Rattle.nodes.specs.Answer as N
use Rattle.nodes.specs.Answer.{Written, written_as, written_by, refused_as}
use Rattle.nodes.specs.declared.Refusal as states
use Rattle.nodes.specs.declared.SheetAnswer.{SheetAnswer}
use Rattle.text.specs.Convert.{place_of_byte, text_into, text_fault_of}
use Rattle.text_sheet.specs.declared.Refusal as code
use Rattle.text_sheet.specs.declared.Refusal.TheVariants.{TooLong, NoText, AtFault, NoSheet}
use Rattle.text_sheet.specs.Refusals.{refusal_of, fault_of, Refuses}

-- ---- handed on

-- by the reader
pub reading-refused : {A : Type 0} (P : A → Type 0) {s : List ℕ} {e : code.Refusal} (r : Result A code.Refusal) → IsErrAnd r (λ x. x ≡ e)
    → Refuses s e → MatchResult r P (Refuses s)
reading-refused P (Ok term) is refused = absurd is
reading-refused P {s = s} (Err x) is refused = subst⁻¹ (Refuses s) is refused

-- by the converter
pub text-refused : {s : List ℕ} {e : code.Refusal} (r : Result ℕ code.Refusal) → IsErrAnd r (λ x. x ≡ e) → Refuses s e → (out : List ℕ)
    → written_as refusal_of r out ≡ text_into s out
text-refused (Ok size) is refused out = absurd is
text-refused {s} (Err x) is refused out = (subst⁻¹ (Refuses s) is refused).says out

-- what the states decide
module _ (out : List ℕ) {w : Written} where
  pub states-refused : (why : states.Refusal) (r : Result ℕ code.Refusal) → IsErrAnd r (λ x. x ≡ NoSheet why)
      → written_as N.refusal_of (Err why) out ≡ w → written_as refusal_of r out ≡ w
  unfolding written_as refusal_of
  states-refused why (Ok size) is e = absurd is
  states-refused why (Err x) is e = rw is e

  pub states-written : (size : ℕ) → written_as N.refusal_of (Ok size) out ≡ w → written_as refusal_of (Ok size) out ≡ w
  unfolding written_as
  states-written size e = e

  -- ---- answered
  pub answered : (r : Result ℕ code.Refusal) (a : SheetAnswer)
      → MatchResult r (λ size. a ≡ record { number = 0; sheet = 0; state = 0; length = size }) (λ e. a ≡ refused_as (refusal_of e))
      → written_as refusal_of r out ≡ w → written_by a out ≡ w
  unfolding written_as written_by refused_as
  answered (Ok size) a is e = rw is e
  answered (Err x) a is e = rw is e

-- ---- the byte at fault

module _ {s : List ℕ} {e : code.Refusal} (refused : Refuses s e) where
  pub fault-there : {at : ℕ} → (e ≡ NoText at) ⊎ (e ≡ AtFault at) → (place_of_byte s at ≡ text_fault_of s) × (place_of_byte s at ≤ 256)
  unfolding fault_of
  fault-there {at} (inl is) = let r = subst (Refuses s) is refused in (r.fault, r.small)
  fault-there {at} (inr is) = let r = subst (Refuses s) is refused in (r.fault, r.small)

  pub fault-none : (e ≡ TooLong) ⊎ ((why : states.Refusal) × (e ≡ NoSheet why)) → 0 ≡ text_fault_of s
  unfolding fault_of
  fault-none (inl is) = (subst (Refuses s) is refused).fault
  fault-none (inr (why, is)) = (subst (Refuses s) is refused).fault
