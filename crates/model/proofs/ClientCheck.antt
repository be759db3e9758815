-- The client check over bytes: its yes means that both sheets are good in their places and that the client complies, by the theorems
-- that the check of two contracts is sound and complete.
-- Assumes nothing.
use mathlib.Core.Path.{◌≡◌, refl, sym, ap, subst, ◌∙◌}
use mathlib.Core.Bool.{true, false≢true}
use mathlib.Core.List.{List}
use Prim.Native.Nat.{ℕ}
use lib.Dec.{T}
use Rattle.model.specs.Contract.{Contract}
use Rattle.model.specs.Sheet.{Reading, good, refusal, Sheet, Refusal, Both, read_sheet, read_both, contract_in}
use Rattle.model.specs.Client.{Complies, complies, complies_in, complies_of}
use Rattle.model.specs.Demands.{ClientCheck}
use Rattle.model.proofs.Lists.{is_true}
use Rattle.model.proofs.Sheet.{both-elim, both-well-formed, both-contracts, good-injective}
use Rattle.model.proofs.Client.{complies-sound, complies-complete}

module _ (client service : List ℕ) where
  abbrev Says : Type 0
  Says = ((complies_of client service).number ≡ 0) × ((complies_of client service).yes ≡ true)

  abbrev Means : Type 0
  Means = (sheets : Both) × (read_both 1 0 client service ≡ good sheets) × Complies sheets.one sheets.two

  yes-sound : Says → Means
  unfolding complies_of complies_in
  yes-sound (n, y) = go (read_both 1 0 client service) refl y
    where
      go : (x : Reading Refusal Both) → read_both 1 0 client service ≡ x → (complies_in x).yes ≡ true → Means
      go (good w) e y =
          let formed = both-well-formed 1 0 client service w e in
          (w, e, complies-sound w.one w.two formed.0 formed.1 (subst T (sym y) tt))
      go (refusal f) e y = absurd (false≢true y)

  yes-complete : Means → Says
  unfolding complies_of complies_in
  yes-complete (w, e, c) =
      let formed = both-well-formed 1 0 client service w e in
      let holds : complies w.one w.two ≡ true = is_true _ (complies-complete w.one w.two formed.0 formed.1 c) in
      (ap (λ (x : Reading Refusal Both). (complies_in x).number) e, ap (λ (x : Reading Refusal Both). (complies_in x).yes) e ∙ holds)

pub client-check : ClientCheck
client-check client service = (yes-sound client service, yes-complete client service)

-- a client that is read, and of which the check says yes, complies with the contract of the service's bytes
pub yes-complies : (client service : List ℕ) (user : Sheet) → read_sheet client ≡ good user
    → ((complies_of client service).number ≡ 0) × ((complies_of client service).yes ≡ true) → Complies user.contract (contract_in service)
yes-complies client service user read says =
    let w = yes-sound client service says in
    let b = both-elim 1 0 client service w.0 w.1 in
    let one : w.0.one ≡ user.contract = b.is_one ∙ ap (λ (s : Sheet). s.contract) (good-injective (sym b.read₁ ∙ read)) in
    let two : w.0.two ≡ contract_in service = sym (both-contracts 1 0 client service w.0 w.1).1 in
    subst (λ (c : Contract). Complies c (contract_in service)) one (subst (λ (c : Contract). Complies w.0.one c) two w.2)
