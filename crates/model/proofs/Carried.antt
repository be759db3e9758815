-- What answers carry: a refusal of two sheets is that of one of them, with its state and offset, or has neither; connecting and the client
-- check hand it on, and all their other answers have neither.
-- Assumes nothing.
use mathlib.Core.Path.{◌≡◌, refl}
use mathlib.Core.Bool.{Bool, true, false, cond}
use mathlib.Core.Logic.{◌⊎◌, inl, inr, ⊎_elim}
use mathlib.Core.List.{List}
use Prim.Native.Nat.{ℕ, ◌<◌}
use native.Mathlib.Omega.{arith}
use lib.ListN.{length}
use lib.Dec.{eqb, leb}
use Rattle.model.specs.Contract.{Contract}
use Rattle.model.specs.Sheet.{Reading, good, refusal, Fault, Sheet, read_sheet, Refusal, in_place, plain, Both, read_both}
use Rattle.model.specs.Situation.{Situation}
use Rattle.model.specs.Test.{Mode, test}
use Rattle.model.specs.Connect.{refused, counted, connected, limit_of, ranked, outcome_of, connect_of}
use Rattle.model.specs.Client.{complies_in, complies_of}
use Rattle.model.specs.AtFault.{carried_fault, Carries, in_answer, in_checked, Carried}
use Rattle.model.proofs.Refusals.{OnlyRefused, only-check, only_then, only-elim, sheet-numbers}
use Rattle.model.proofs.Connect.{Shape, cut_off, removed, too_long, fits, shape}
use Rattle.model.proofs.AtFault.{byte-at-fault}

module _ (first second : List ℕ) where
  -- an answer that is no sheet's refusal
  pub plain-carries : (number sheet : ℕ) → (number ≡ 0) ⊎ (7 < number) → Carries first second (plain number sheet)
  unfolding plain
  plain-carries number sheet h =
      record {
        own = λ low high. absurd (⊎_elim (λ (e : number ≡ 0). omega arith) (λ (l : 7 < number). omega arith) h);
        others = λ _. (refl, refl);
      }

  -- the refusal of the sheet in a place
  pub in-place : (p : ℕ) (b : List ℕ)
      → ((r : Refusal) → r.sheet ≡ p → read_sheet b ≡ refusal (carried_fault r)
      → ((r.sheet ≡ 1) × (read_sheet first ≡ refusal (carried_fault r))) ⊎ ((r.sheet ≡ 2) × (read_sheet second ≡ refusal (carried_fault r))))
      → OnlyRefused (Carries first second) (in_place p (read_sheet b))
  unfolding in_place carried_fault
  in-place p b named = go (read_sheet b) refl
    where
      go : (read : Reading Fault Sheet) → read_sheet b ≡ read → OnlyRefused (Carries first second) (in_place p read)
      go (good s) is = tt
      go (refusal f) is =
          let numbers = only-elim _ (read_sheet b) f (sheet-numbers b) is in
          record {
            own = λ _ _. named _ refl is;
            others = λ h.
                ⊎_elim (λ (low : f.number < 4). (byte-at-fault b f is).whole low) (λ (high : 7 < f.number). absurd (omega (arith, numbers.1))) h;
          }

  -- two sheets
  pub both-carries : (role₁ role₂ : ℕ) → OnlyRefused (Carries first second) (read_both role₁ role₂ first second)
  unfolding read_both
  both-carries role₁ role₂ =
      let carries = Carries first second in
      only_then carries (in_place 1 (read_sheet first)) _ (in-place 1 first (λ r at is. inl (at, is)))
      (λ s₁.
      only_then carries (in_place 2 (read_sheet second)) _ (in-place 2 second (λ r at is. inr (at, is)))
      (λ s₂.
      only-check carries (eqb s₁.role role₁) _ _ (plain-carries 8 1 (inr (omega arith)))
      (only-check carries (eqb s₂.role role₂) _ _ (plain-carries 8 2 (inr (omega arith)))
      (only-check carries (eqb s₁.contract.n s₂.contract.n) _ _ (plain-carries 9 0 (inr (omega arith))) tt))))

  -- ---- connecting

  pub refused-carries : (r : Refusal) → Carries first second r → Carries first second (in_answer (refused r).answer)
  unfolding in_answer refused
  refused-carries r c = c

  counted-carries : (number situations states rounds : ℕ) (bytes : List ℕ) → (number ≡ 0) ⊎ (7 < number)
      → Carries first second (in_answer (counted number situations states rounds bytes).answer)
  unfolding in_answer counted plain
  counted-carries number situations states rounds bytes h = plain-carries number 0 h

  connected-carries : (passes : List ℕ → Situation → Bool) (k : ℕ) (σ τ : Contract) (limit room : ℕ)
      → Carries first second (in_answer (connected passes k σ τ limit room).answer)
  connected-carries passes k σ τ limit room = go (shape k σ τ limit passes room)
    where
      go : Shape k σ τ limit passes room → Carries first second (in_answer (connected passes k σ τ limit room).answer)
      go (cut_off n e) = rw e (refused-carries (plain 11 0) (plain-carries 11 0 (inr (omega arith))))
      go (removed w n e) = rw e (counted-carries 12 _ _ _ _ (inr (omega arith)))
      go (too_long w m l e) = rw e (counted-carries 13 _ _ _ _ (inr (omega arith)))
      go (fits w m l e) = rw e (counted-carries 0 _ _ _ _ (inl refl))

  ranked-carries : (mode : Mode) (k records room : ℕ) (r : Reading Refusal Both) → OnlyRefused (Carries first second) r
      → Carries first second (in_answer (ranked mode k records room r).answer)
  unfolding ranked
  ranked-carries mode k records room (refusal r) o = refused-carries r o
  ranked-carries mode k records room (good sheets) o = go (leb k 3)
    where
      go : (t : Bool)
          → Carries first second
          (in_answer
          (cond t (connected (test mode sheets.one sheets.two) k sheets.one sheets.two (limit_of records) room) (refused (plain 10 0))).answer)
      go true = connected-carries (test mode sheets.one sheets.two) k sheets.one sheets.two (limit_of records) room
      go false = refused-carries (plain 10 0) (plain-carries 10 0 (inr (omega arith)))

  -- ---- the client check

  checked-carries : (r : Reading Refusal Both) → OnlyRefused (Carries first second) r → Carries first second (in_checked (complies_in r))
  unfolding complies_in in_checked plain
  checked-carries (refusal r) o = o
  checked-carries (good sheets) o = plain-carries 0 0 (inl refl)

pub carried : Carried
unfolding connect_of outcome_of complies_of
carried =
    record {
      connects = λ R blank mode k old new work plan. ranked-carries old new mode k (length work) (length plan) (read_both 0 0 old new) (both-carries old new 0 0);
      complies = λ client service. checked-carries client service (read_both 1 0 client service) (both-carries client service 1 0);
    }
