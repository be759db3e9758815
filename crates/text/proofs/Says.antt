-- What each number of converting a text says, for all bytes: the length, the grammar and the variables by what reading comes to; then the
-- numbers of states and of ready sets, and the lent output, in that order.
-- Assumes nothing.
use mathlib.Core.Path.{◌≡◌, refl, sym, ap, subst⁻¹, ◌∙◌}
use mathlib.Core.Logic.{inl, inr, ⊎_elim}
use mathlib.Core.List.{List, []}
use Prim.Native.Nat.{ℕ, ◌^◌}
use native.Mathlib.Omega.{arith}
use lib.Dec.{eqb}
use Rattle.model.specs.Contract.{Contract}
use Rattle.model.specs.Sheet.{Reading, good, refusal, then, Refusal, plain}
use Rattle.model.proofs.Rounds.{same_number}
use Rattle.model.proofs.Refusals.{OnlyRefused, only_then}
use Rattle.nodes.specs.Nodes.{contract_with, Says}
use Rattle.nodes.specs.SheetBytes.{sheet_bytes}
use Rattle.nodes.specs.Answer.{written}
use Rattle.nodes.specs.Transitions.{SameBehind}
use Rattle.nodes.proofs.Nodes.{contract-nodes}
use Rattle.nodes.proofs.Refused.{made-says, contract-only}
use Rattle.nodes.proofs.Made.{made_in}
use Rattle.nodes.proofs.Outcome.{written-good, written-beyond, written-refused, written-only}
use Rattle.text.specs.Grammar.{Tree}
use Rattle.text.specs.Terms.{Term, Faulty, term_of, Wrong}
use Rattle.text.specs.Transitions.{Hides, Does}
use Rattle.text.specs.Parser.{parsed, failed, parse_of}
use Rattle.text.specs.Places.{places_of, first_place, ready_sets, next_places, contract_of_term}
use Rattle.text.specs.Convert.{dropped, TextFault, read_text, without_byte, text_of, text_sheet, text_into}
use Rattle.text.specs.Promises.{IsText, IsSound, Typed, NumberSays, Typing}
use Rattle.text.proofs.Substitution.{closed}
use Rattle.text.proofs.Parse.{parse-complete}
use Rattle.text.proofs.Variables.{wrong-found}
use Rattle.text.proofs.Stands.{ActionsBelow}
use Rattle.text.proofs.Lawful.{places-lawful}
use Rattle.text.proofs.Words.{states-are-sets, ready-are-sets, same-behind, made-sheet}
use Rattle.text.proofs.Read.{Outcome, too_long, stopped, at_fault, right, outcome}
use Rattle.text.proofs.Derived.{actions-below}

-- ---- what the sets of places decide

module _ (t : Term) where
  pub contract-answers : (r : Reading Refusal Contract) → contract_of_term t ≡ r
      → Says (next_places (places_of t)) (ready_sets (places_of t)) (2 ^ first_place t) r
  unfolding contract_of_term
  contract-answers = made-says eqb same_number (next_places (places_of t)) (ready_sets (places_of t)) (2 ^ first_place t) 7

  pub contract-refuses : (P : Refusal → Type 0) → P (plain 19 0) → P (plain 20 0) → OnlyRefused P (contract_of_term t)
  unfolding contract_of_term
  contract-refuses P = contract-only eqb same_number (next_places (places_of t)) (ready_sets (places_of t)) (2 ^ first_place t) P 7

-- ---- a text without a variable at fault

module _ (s : List ℕ) (t : Tree) (is_text : IsText s t) (no-fault : Wrong (term_of t) → ⊥) where
  shut : closed (term_of t)
  shut v f = no-fault (inl (v, f))

  guarded : Faulty (term_of t) → ⊥
  guarded y = no-fault (inr y)

  below : ActionsBelow (term_of t)
  below = actions-below is_text.derived

  abbrev sound-text : IsSound s
  sound-text =
      record {
        tree = t;
        is_text = is_text;
        right = no-fault;
        sets = states-are-sets (term_of t) shut guarded below;
        ready = ready-are-sets (term_of t) shut guarded below;
      }

  -- the sheet of the contract that is made of its sets
  sheet-typed : (made : Contract) → contract_of_term (term_of t) ≡ good made → Typed s (sheet_bytes 7 0 made.states)
  unfolding contract_of_term contract_with
  sheet-typed made is_made =
      let u = term_of t in
      let senses = places_of u in
      let back = made-sheet u shut guarded below made is_made in
      let lawful = places-lawful u shut guarded below in
      let whole =
      made_in eqb same_number (next_places senses) (ready_sets senses) (2 ^ first_place u) 7 lawful (omega arith) made is_made in
      let nodes = contract-nodes eqb same_number (next_places senses) (ready_sets senses) (2 ^ first_place u) 7 made is_made in
      let says : Says (next_places senses) (ready_sets senses) (2 ^ first_place u) (good made) = contract-answers u (good made) is_made in
      record {
        sound = sound-text;
        is_sheet = back ∙ ap (λ (d : Contract). good (record { contract = d; role = 0 })) (sym whole);
        names = ap (λ (d : Contract). d.n) (whole ∙ nodes.0);
        same = λ word. subst⁻¹ (λ (d : Contract). SameBehind Hides Does u d word) whole (same-behind u shut guarded below made is_made word);
        numbered = whole ∙ nodes.0;
        few_states = says.0;
        few_ready = says.1;
      }

-- ---- numbers

-- a refusal of reading is one of converting, and behind a tree its contract decides
module _ (s : List ℕ) where
  pub text-refused : (f : TextFault) → read_text s ≡ refusal f → text_sheet s ≡ refusal f.refused
  unfolding text_sheet text_of without_byte then
  text-refused f e = rw e

  pub text-good : (t : Tree) → read_text s ≡ good t
      → text_sheet s ≡ then (contract_of_term (term_of t)) (λ made. good (sheet_bytes 7 0 made.states))
  unfolding text_sheet text_of without_byte then
  text-good t e = rw e

module _ (s out : List ℕ) where
  pub refused-number : (e : Refusal) → text_sheet s ≡ refusal e → (text_into s out).number ≡ e.number
  unfolding text_into written
  refused-number e is = ap (λ (r : Reading Refusal (List ℕ)). (written out r).number) is

  module _ (t : Tree) (is_text : IsText s t) (no-fault : Wrong (term_of t) → ⊥) (is : read_text s ≡ good t) where
    -- 19 and 20
    says-refused : (e : Refusal) → contract_of_term (term_of t) ≡ refusal e → NumberSays s out (text_into s out)
    unfolding then plain
    says-refused e made =
        let number = refused-number e (text-good s t is ∙ rw made) in
        let sound = sound-text s t is_text no-fault in
        inr (inr (inr (inr (inr (⊎_elim
        (λ w. inl (number ∙ ap (λ (r : Refusal). r.number) w.0, sound, w.1))
        (λ w. inr (number ∙ ap (λ (r : Refusal). r.number) w.0, sound, w.1, w.2))
        (contract-answers (term_of t) (refusal e) made))))))

    -- 0 and 13
    says-made : (made : Contract) → contract_of_term (term_of t) ≡ good made → NumberSays s out (text_into s out)
    unfolding text_into then
    says-made made is_made =
        let bytes = sheet_bytes 7 0 made.states in
        let is-good : text_sheet s ≡ good bytes = text-good s t is ∙ rw is_made in
        subst⁻¹ (λ (r : Reading Refusal (List ℕ)). NumberSays s out (written out r)) is-good
        (⊎_elim inl (λ w. inr (inl w)) (written-good bytes out (Typed s) (sheet-typed s t is_text no-fault made is_made)))

    says-sets : (r : Reading Refusal Contract) → contract_of_term (term_of t) ≡ r → NumberSays s out (text_into s out)
    says-sets (good made) e = says-made made e
    says-sets (refusal f) e = says-refused f e

  -- a text of a tree is read, so none has one where reading stopped
  none-derived : (r : List ℕ) → parse_of 16 (dropped s) ≡ failed r → (t : Tree) → IsText s t → ⊥
  none-derived r e t h = never-parsed (sym e ∙ parse-complete 16 (dropped s) t h.derived h.shallow)
    where
      never-parsed : failed r ≡ parsed t [] → ⊥
      never-parsed p = let z : ◌≡◌ {A = ℕ} 0 1 = cc in omega arith

  number_says : Outcome s → NumberSays s out (text_into s out)
  unfolding plain
  number_says (too_long h e) = inr (inr (inl (refused-number (plain 1 1) (text-refused s _ e), h)))
  number_says (stopped r h p e) = inr (inr (inr (inl (refused-number (plain 22 0) (text-refused s _ e), h, none-derived r p))))
  number_says (at_fault t i h w e) =
      inr (inr (inr (inr (inl (refused-number (plain 23 0) (text-refused s _ e), t, h, wrong-found t i w)))))
  number_says (right t h f e) = says-sets t h f e (contract_of_term (term_of t)) refl

-- ---- sheets and states

-- 1 carries sheet 1, no other carries one, and none a state
abbrev Carries : (number sheet state : ℕ) → Type 0
Carries number sheet state = (number ≡ 1 → sheet ≡ 1) × ((number ≡ 1 → ⊥) → sheet ≡ 0) × (state ≡ 0)

abbrev Carried : Refusal → Type 0
Carried e = Carries e.number e.sheet e.state

-- another than 1
carries-none : (number : ℕ) → (number ≡ 1 → ⊥) → Carries number 0 0
carries-none number ne = ((λ e. absurd (ne e)), (λ d. refl), refl)

text-carries : (s : List ℕ) → Outcome s → OnlyRefused Carried (text_of s)
unfolding text_of without_byte plain
text-carries s (too_long h e) = rw e ((λ d. refl), (λ ne. absurd (ne refl)), refl)
text-carries s (stopped r h p e) = rw e (carries-none 22 (λ d. omega arith))
text-carries s (at_fault t i h w e) = rw e (carries-none 23 (λ d. omega arith))
text-carries s (right t h f e) = rw e tt

sheet-carries : (s : List ℕ) → OnlyRefused Carried (text_sheet s)
unfolding text_sheet plain
sheet-carries s =
    only_then Carried (text_of s) _ (text-carries s (outcome s))
    (λ t.
    only_then Carried (contract_of_term (term_of t)) _
    (contract-refuses (term_of t) Carried (carries-none 19 (λ d. omega arith)) (carries-none 20 (λ d. omega arith))) (λ made. tt))

-- the theorem of request 7/13
pub typing : Typing
unfolding text_into
typing s out =
    let carries =
    written-only out Carries (carries-none 0 (λ d. omega arith)) (carries-none 13 (λ d. omega arith)) (text_sheet s) (sheet-carries s) in
    record {
      number_says = number_says s out (outcome s);
      long_sheet = carries.0;
      no_sheet = carries.1;
      no_state = carries.2;
      untouched = written-refused out (text_sheet s);
      beyond = written-beyond out (text_sheet s);
    }
