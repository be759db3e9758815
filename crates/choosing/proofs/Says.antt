-- What each number of converting says, over bytes: what is read is of the right form, and what has that form is read; then circles, numbers
-- of states and ready sets, and the lent output, in that order.
-- Assumes nothing.
use mathlib.Core.Path.{◌≡◌, refl, sym, ap, subst⁻¹, ◌∙◌}
use mathlib.Core.Bool.{Bool, not}
use mathlib.Core.Logic.{inl, inr, ⊎_elim}
use mathlib.Core.List.{List}
use Prim.Native.Nat.{ℕ, ◌<◌}
use lib.Dec.{T, eqb, not_T}
use Rattle.model.specs.Bytes.{byte}
use Rattle.model.specs.Contract.{Contract}
use Rattle.model.specs.Sheet.{Reading, good, refusal, check, then, Refusal, plain}
use Rattle.model.proofs.Lists.{is_true, dec-T}
use Rattle.model.proofs.Rounds.{same_number}
use Rattle.model.proofs.Sheet.{never-good}
use Rattle.model.proofs.Refusals.{OnlyRefused, only-check, only_then}
use Rattle.nodes.specs.Nodes.{contract_with, contract_of, Says}
use Rattle.nodes.specs.SheetBytes.{sheet_bytes}
use Rattle.nodes.specs.Answer.{written}
use Rattle.nodes.proofs.Nodes.{contract-nodes}
use Rattle.nodes.proofs.Refused.{made-says, contract-only}
use Rattle.nodes.proofs.Made.{made_in}
use Rattle.nodes.proofs.Outcome.{written-good, written-beyond, written-refused, written-only}
use Rattle.choosing.specs.Rows.{Choosing}
use Rattle.nodes.specs.Transitions.{SameBehind}
use Rattle.choosing.specs.Transitions.{Hides, Does, Circle}
use Rattle.choosing.specs.Read.{read_choosing}
use Rattle.choosing.specs.Convert.{circle, ready_sets, next_rows, convert_of, convert_sheet, convert_into}
use Rattle.choosing.specs.Promises.{IsChoosing, Converted, IsCalm, NumberSays, Converting}
use Rattle.choosing.proofs.Leads.{circle-found, circle-real}
use Rattle.choosing.proofs.Lawful.{sets-lawful}
use Rattle.choosing.proofs.Words.{states-are-sets, ready-are-sets, same-behind, made-sheet}
use Rattle.choosing.proofs.Read.{read-formed, read-refused}
use Rattle.choosing.proofs.Written.{choosing-read-back}
use Rattle.choosing.proofs.Only.{only-bytes}

-- ---- a choosing sheet that is read

module _ (b : List ℕ) (small : (i : ℕ) → byte b i < 256) (c : Choosing) (is : read_choosing b ≡ good c) where
  is_choosing : IsChoosing b c
  is_choosing = record { formed = read-formed b small c is; bytes = only-bytes b small c is }

  module _ (calm : Circle c → ⊥) where
    abbrev calm-sheet : IsCalm b
    calm-sheet =
        let formed = read-formed b small c is in
        record { from = c; is_choosing = is_choosing; no_circle = calm; sets = states-are-sets c formed; ready = ready-are-sets c formed }

    -- the sheet of the contract that is made of its sets
    sheet-converted : (made : Contract) → contract_of eqb (next_rows c) (ready_sets c) c.n 1 ≡ good made
        → Converted b (sheet_bytes c.n 0 made.states)
    unfolding contract_with
    sheet-converted made is_made =
        let formed = read-formed b small c is in
        let back = made-sheet c formed calm made is_made in
        let whole = made_in eqb same_number (next_rows c) (ready_sets c) 1 c.n (sets-lawful c formed calm) formed.few_names made is_made in
        let nodes = contract-nodes eqb same_number (next_rows c) (ready_sets c) 1 c.n made is_made in
        let says : Says (next_rows c) (ready_sets c) 1 (good made) =
        made-says eqb same_number (next_rows c) (ready_sets c) 1 c.n (good made) is_made in
        record {
          calm = calm-sheet;
          is_sheet = back ∙ ap (λ (d : Contract). good (record { contract = d; role = 0 })) (sym whole);
          names = ap (λ (d : Contract). d.n) (whole ∙ nodes.0);
          same = λ word. subst⁻¹ (λ (d : Contract). SameBehind (Hides c) (Does c) 0 d word) whole (same-behind c formed calm made is_made word);
          numbered = whole ∙ nodes.0;
          few_states = says.0;
          few_ready = says.1;
        }

-- ---- numbers

module _ (b out : List ℕ) where
  refused-number : (e : Refusal) → convert_sheet b ≡ refusal e → (convert_into b out).number ≡ e.number
  unfolding convert_into written
  refused-number e is = ap (λ (r : Reading Refusal (List ℕ)). (written out r).number) is

  -- 17
  says_other : read_choosing b ≡ refusal (plain 17 0) → NumberSays b out (convert_into b out)
  unfolding convert_sheet then plain
  says_other is =
      let number = refused-number (plain 17 0) (rw is refl) in
      inr (inr (inl (number, λ c w. never-good (sym is ∙ ap read_choosing w.bytes ∙ choosing-read-back c w.formed))))

  module _ (small : (i : ℕ) → byte b i < 256) (c : Choosing) (is : read_choosing b ≡ good c) where
    -- 18
    says-circle : T (circle c) → NumberSays b out (convert_into b out)
    unfolding convert_sheet convert_of then check plain
    says-circle t =
        let number = refused-number (plain 18 0) (rw (is, is_true (circle c) t) refl) in
        inr (inr (inr (inl (number, c, is_choosing b small c is, circle-real c t))))

    module _ (calm : Circle c → ⊥) where
      -- what follows is decided by the sets of rows
      sets-decide : convert_sheet b
          ≡ then (contract_of eqb (next_rows c) (ready_sets c) c.n 1) (λ made. good (sheet_bytes c.n 0 made.states))
      unfolding convert_sheet convert_of then check
      sets-decide =
          let sets : Reading Refusal Contract = contract_of eqb (next_rows c) (ready_sets c) c.n 1 in
          rw is
          (ap (λ (t : Bool). then (check t (plain 18 0) sets) (λ made. good (sheet_bytes c.n 0 made.states)))
          (is_true (not (circle c)) (not_T (circle c) (λ t. calm (circle-real c t)))))

      -- 19 and 20
      says-refused : (e : Refusal) → contract_of eqb (next_rows c) (ready_sets c) c.n 1 ≡ refusal e → NumberSays b out (convert_into b out)
      unfolding then plain
      says-refused e made =
          let number = refused-number e (sets-decide ∙ rw made refl) in
          let sheet = calm-sheet b small c is calm in
          let says : Says (next_rows c) (ready_sets c) 1 (refusal e) =
          made-says eqb same_number (next_rows c) (ready_sets c) 1 c.n (refusal e) made in
          inr (inr (inr (inr (⊎_elim
          (λ w. inl (number ∙ ap (λ (r : Refusal). r.number) w.0, sheet, w.1))
          (λ w. inr (number ∙ ap (λ (r : Refusal). r.number) w.0, sheet, w.1, w.2))
          says))))

      -- 0 and 13
      says-made : (made : Contract) → contract_of eqb (next_rows c) (ready_sets c) c.n 1 ≡ good made → NumberSays b out (convert_into b out)
      unfolding convert_into then
      says-made made is_made =
          let bytes = sheet_bytes c.n 0 made.states in
          let is-good : convert_sheet b ≡ good bytes = sets-decide ∙ rw is_made refl in
          subst⁻¹ (λ (r : Reading Refusal (List ℕ)). NumberSays b out (written out r)) is-good
          (⊎_elim inl (λ w. inr (inl w)) (written-good bytes out (Converted b) (sheet-converted b small c is calm made is_made)))

      says-sets : NumberSays b out (convert_into b out)
      says-sets = go (contract_of eqb (next_rows c) (ready_sets c) c.n 1) refl
        where
          go : (r : Reading Refusal Contract) → contract_of eqb (next_rows c) (ready_sets c) c.n 1 ≡ r
              → NumberSays b out (convert_into b out)
          go (good made) e = says-made made e
          go (refusal f) e = says-refused f e

  number_says : ((i : ℕ) → byte b i < 256) → NumberSays b out (convert_into b out)
  number_says small = go (read_choosing b) refl
    where
      go : (r : Reading Refusal Choosing) → read_choosing b ≡ r → NumberSays b out (convert_into b out)
      go (good c) e =
          ⊎_elim (λ t. says-circle small c e t) (λ f. says-sets small c e (λ w. f (circle-found c w))) (dec-T (circle c))
      go (refusal f) e = says_other (e ∙ ap refusal (read-refused b f e))

-- ---- the lent output

-- the refusals of converting carry no sheet and no state
abbrev Plain : Refusal → Type 0
Plain e = (e.sheet ≡ 0) × (e.state ≡ 0)

sheet-plain : (b : List ℕ) → OnlyRefused Plain (convert_sheet b)
unfolding convert_sheet convert_of plain
sheet-plain b =
    only_then Plain (read_choosing b) _ (read_plain (read_choosing b) (read-refused b))
    (λ c.
    only_then Plain (convert_of c) _
    (only-check Plain (not (circle c)) (plain 18 0) _ (refl, refl)
    (contract-only eqb same_number (next_rows c) (ready_sets c) 1 Plain c.n (refl, refl) (refl, refl)))
    (λ made. tt))
  where
    read_plain : (r : Reading Refusal Choosing) → ((e : Refusal) → r ≡ refusal e → e ≡ plain 17 0) → OnlyRefused Plain r
    read_plain (good c) f = tt
    read_plain (refusal e) f = subst⁻¹ Plain (f e refl) (refl, refl)

-- the theorem of request 1/13
pub converting : Converting
unfolding convert_into
converting b out small =
    let carries =
    written-only out (λ (number sheet state : ℕ). (sheet ≡ 0) × (state ≡ 0)) (refl, refl) (refl, refl) (convert_sheet b) (sheet-plain b) in
    record {
      number_says = number_says b out small;
      no_sheet = carries.0;
      no_state = carries.1;
      untouched = written-refused out (convert_sheet b);
      beyond = written-beyond out (convert_sheet b);
    }
