-- Reading two sheets step by step, as the check does, and what its answers say.
-- Assumes nothing.
use mathlib.Core.Path.{◌≡◌, refl, sym, ap, ◌∙◌}
use mathlib.Core.List.{List}
use Rattle.std.specs.Prelude.{Result, Ok, Err}
use Prim.Native.Nat.{ℕ}
use lib.Dec.{eqb}
use borrow.Author.Tests.{eq-eqb, ne_eqb}
use Rattle.model.specs.Sheet.{Reading, good, refusal, check, then, Fault, Sheet, read_sheet, Refusal, in_place, plain, Both, read_both}
use Rattle.model.specs.Sheet.{sheet_of, contract_in, role_in}
use Rattle.model.specs.Contract.{Contract}
use Rattle.model.proofs.Sheet.{both-elim}
use Rattle.sheet.specs.Whole.{IsSheet}
use Rattle.sheet.specs.Answers.{reading_of, whole}
use Rattle.sheet.proofs.Answers.{was-refusal, answered-ok, answered-err}
use Rattle.pair.specs.Pairs.{refusal_of}
use Rattle.pair.specs.declared.Refusal as declared
use Rattle.pair.specs.declared.Refusal.TheVariants as R

-- ---- what a sheet that is read holds

contract-is : (b : List ℕ) (s : IsSheet b) → contract_in b ≡ s.0.contract
unfolding contract_in sheet_of
contract-is b s = ap (λ (r : Reading Fault Sheet). (sheet_of r).contract) s.1

role-is : (b : List ℕ) (s : IsSheet b) → role_in b ≡ s.0.role
unfolding role_in sheet_of
role-is b s = ap (λ (r : Reading Fault Sheet). (sheet_of r).role) s.1

names-are : (b : List ℕ) (s : IsSheet b) → (contract_in b).n ≡ s.0.contract.n
names-are b s = ap (λ (c : Contract). c.n) (contract-is b s)

-- ---- two sheets, by where the reading stops

module _ (role₁ role₂ : ℕ) (b₁ b₂ : List ℕ) where
  abbrev read : Reading Refusal (Unit {0})
  read = whole (read_both role₁ role₂ b₁ b₂)

  pub first-refused : (r : Refusal) → refusal r ≡ whole (in_place 1 (read_sheet b₁)) → refusal r ≡ read
  unfolding read_both then
  first-refused r h = rw (was-refusal (λ s. tt) (in_place 1 (read_sheet b₁)) r h) refl

  pub second-refused : IsSheet b₁ → (r : Refusal) → refusal r ≡ whole (in_place 2 (read_sheet b₂)) → refusal r ≡ read
  unfolding read_both in_place then
  second-refused s₁ r h = rw (s₁.1, was-refusal (λ s. tt) (in_place 2 (read_sheet b₂)) r h) refl

  module _ (s₁ : IsSheet b₁) (s₂ : IsSheet b₂) where
    abbrev places : Reading Refusal Both
    places =
        check (eqb s₁.0.role role₁) (plain 8 1)
        (check (eqb s₂.0.role role₂) (plain 8 2)
        (check (eqb s₁.0.contract.n s₂.0.contract.n) (plain 9 0)
        (good (record { one = s₁.0.contract; two = s₂.0.contract }))))

    at_places : read_both role₁ role₂ b₁ b₂ ≡ places
    unfolding read_both in_place then
    at_places = rw (s₁.1, s₂.1) refl

    pub first-role : (role_in b₁ ≡ role₁ → ⊥) → refusal (refusal_of (R.Role 1)) ≡ read
    unfolding check then plain
    first-role n = sym (ap whole at_places ∙ rw (ne_eqb s₁.0.role role₁ (λ e. n (role-is b₁ s₁ ∙ e))) refl)

    pub second-role : role_in b₁ ≡ role₁ → (role_in b₂ ≡ role₂ → ⊥) → refusal (refusal_of (R.Role 2)) ≡ read
    unfolding check then plain
    second-role p n =
        sym (ap whole at_places ∙ rw (
          eq-eqb s₁.0.role role₁ (sym (role-is b₁ s₁) ∙ p),
          ne_eqb s₂.0.role role₂
              (λ e. n (role-is b₂ s₂ ∙ e)),
        ) refl)

    module _ (p : role_in b₁ ≡ role₁) (q : role_in b₂ ≡ role₂) where
      pub other-names : ((contract_in b₁).n ≡ (contract_in b₂).n → ⊥) → refusal (refusal_of R.Names) ≡ read
      unfolding check then plain
      other-names n =
          sym (
          ap whole at_places
          ∙ rw (
            eq-eqb s₁.0.role role₁ (sym (role-is b₁ s₁) ∙ p),
            eq-eqb s₂.0.role role₂ (sym (role-is b₂ s₂) ∙ q),
            ne_eqb s₁.0.contract.n s₂.0.contract.n (λ e. n (names-are b₁ s₁ ∙ e ∙ sym (names-are b₂ s₂))),
          ) refl
          )

      pub good-pair : (contract_in b₁).n ≡ (contract_in b₂).n → good tt ≡ read
      unfolding check then plain
      good-pair e =
          sym (
          ap whole at_places
          ∙ rw (
            eq-eqb s₁.0.role role₁ (sym (role-is b₁ s₁) ∙ p),
            eq-eqb s₂.0.role role₂ (sym (role-is b₂ s₂) ∙ q),
            eq-eqb s₁.0.contract.n s₂.0.contract.n (sym (names-are b₁ s₁) ∙ e ∙ names-are b₂ s₂),
          ) refl
          )

  -- ---- what the answer says

  module _ {x : Result (Unit {0}) declared.Refusal} (h : reading_of refusal_of x ≡ whole (read_both role₁ role₂ b₁ b₂)) where
    pub refused-both : {e : declared.Refusal} → x ≡ Err e → read_both role₁ role₂ b₁ b₂ ≡ refusal (refusal_of e)
    refused-both w = answered-err refusal_of (λ s. tt) (read_both role₁ role₂ b₁ b₂) h w

    pub good-both : {u : Unit {0}} → x ≡ Ok u → read_both role₁ role₂ b₁ b₂ ≡ good (record { one = contract_in b₁; two = contract_in b₂ })
    good-both w =
        let s = answered-ok refusal_of (λ s. tt) (read_both role₁ role₂ b₁ b₂) h w in
        let b = both-elim role₁ role₂ b₁ b₂ s.0 s.1 in
        let one : s.0.one ≡ contract_in b₁ = b.is_one ∙ sym (contract-is b₁ (b.sheet₁, b.read₁)) in
        let two : s.0.two ≡ contract_in b₂ = b.is-two ∙ sym (contract-is b₂ (b.sheet₂, b.read₂)) in
        s.1 ∙ (λ i. good (record { one = one i; two = two i }))

  -- both are sheets
  pub both-sheets : (w : Both) → read_both role₁ role₂ b₁ b₂ ≡ good w → IsSheet b₁ × IsSheet b₂
  both-sheets w e = let b = both-elim role₁ role₂ b₁ b₂ w e in ((b.sheet₁, b.read₁), (b.sheet₂, b.read₂))
