-- From what the reader found to the answer: too long, no text, a variable at fault, or what the states of the term give; and the byte at
-- fault.
-- Assumes nothing.
use mathlib.Core.Path.{◌≡◌, refl, sym, ap, subst, subst⁻¹, ◌∙◌}
use mathlib.Core.Bool.{Bool, true, false, not, true≢false}
use mathlib.Core.Logic.{inl, inr}
use mathlib.Core.List.{List, [], ◌∷◌, map}
use mathlib.Core.Option.{none, some, Option-elim}
use Prim.Native.Nat.{ℕ, ◌+◌, ◌-◌, ◌^◌, ◌≤◌, ◌<◌}
use native.Mathlib.Omega.{arith}
use lib.ListN.{length, get_or, take}
use lib.Dec.{ltb}
use borrow.Author.Tests.{le-leb, lt-leb, ltb-true, ltb-false}
use Rattle.model.specs.Sheet.{check, then, plain}
use Rattle.model.proofs.Lists.{keep-length}
use Rattle.nodes.specs.Answer.{written, written_as}
use Rattle.nodes.specs.Filled.{found_into}
use Rattle.text.specs.Grammar.{Tree, whole, Text}
use Rattle.text.specs.Terms.{term_of, Faulty}
use Rattle.text.specs.Parser.{Parse, failed, parsed, parse_of}
use Rattle.text.specs.Places.{size_of, places_of, first_place, ready_sets, next_places, contract_of_term}
use Rattle.text.specs.Convert.{is_blank, dropped, place_of_byte, wrong_at, most_deep, bound_tree, tree_read, read_text, without_byte, byte_at_fault, text_of, text_sheet, text_into, text_fault_of}
use Rattle.text.specs.Cells.{packed, cells_in, recs_of, link_to, no_owners, cell_numbers, body_links, place_of, Ends, Explained}
use Rattle.text_reading.specs.Reading.{Standing, WholeRead, TextRead}
use Rattle.text_sheet.specs.Refusals.{refusal_of, fault_of, Refuses, TermRead}
use Rattle.text_sheet.specs.declared.Refusal.TheVariants.{TooLong, NoText, AtFault}
use Rattle.text.proofs.Parse.{sound, read}
use Rattle.text.proofs.Variables.{none-wrong}
use Rattle.text.proofs.Blanks.{place_inside, place-beyond}
use Rattle.text.proofs.Widths.{few_places}
use Rattle.text.proofs.Derived.{names-below, actions-below, few_recs}
use Rattle.text.proofs.Substitution.{closed}
use Rattle.text_places.proofs.Wanting.{to_inside}
use Rattle.text.proofs.Explained.{explained, first-link, first_ends}

-- a place in the text is not behind its end
place-most : (s : List ℕ) (i : ℕ) → place_of_byte s i ≤ length s
place-most s i = go (ltb i (length (dropped s))) refl
  where
    go : (b : Bool) → ltb i (length (dropped s)) ≡ b → place_of_byte s i ≤ length s
    go true e = omega (arith, place_inside s i (ltb-true i (length (dropped s)) e))
    go false e = omega (arith, place-beyond s i (ltb-false i (length (dropped s)) e))

-- ---- what is answered, and which byte is at fault

-- 1, with sheet 1
pub long-refused : (s : List ℕ) → 256 < length s → Refuses s TooLong
unfolding refusal_of fault_of written_as text_into text_sheet text_of text_fault_of read_text without_byte byte_at_fault written then check plain
long-refused s h = record {
  says = λ out. rw (lt-leb (length s) 256 h) refl;
  fault = rw (lt-leb (length s) 256 h) refl;
  small = omega arith;
}

module _ (s : List ℕ) (short : length s ≤ 256) where
  -- 22
  pub stopped-refused : {x : List ℕ} → parse_of 16 (dropped s) ≡ failed x → {at : ℕ} → at ≡ length (dropped s) - length x → Refuses s (NoText at)
  unfolding refusal_of fault_of written_as text_into text_sheet text_of text_fault_of read_text tree_read most_deep without_byte byte_at_fault written then check plain
  stopped-refused is {at} e = record {
    says = λ out. rw (le-leb (length s) 256 short, is) refl;
    fault = rw (le-leb (length s) 256 short, is) (ap (place_of_byte s) e);
    small = omega (arith, place-most s at);
  }

  module _ {t : Tree} {x : List ℕ} (is : parse_of 16 (dropped s) ≡ parsed t x) where
    -- 23
    pub wrong-refused : {i : ℕ} → wrong_at [] [] 0 t ≡ some i → Refuses s (AtFault i)
    unfolding refusal_of fault_of written_as text_into text_sheet text_of text_fault_of read_text tree_read bound_tree most_deep without_byte byte_at_fault written then check plain Option-elim
    wrong-refused {i} w = record {
      says = λ out. rw (le-leb (length s) 256 short, is, w) refl;
      fault = rw (le-leb (length s) 256 short, is, w) refl;
      small = omega (arith, place-most s i);
    }

    -- the states of the term decide
    pub right_answer : wrong_at [] [] 0 t ≡ none → (out : List ℕ)
        → found_into (next_places (places_of (term_of t))) (ready_sets (places_of (term_of t))) (2 ^ first_place (term_of t)) 7 out ≡ text_into s out
    unfolding found_into contract_of_term text_into text_sheet text_of read_text tree_read bound_tree most_deep without_byte written then check Option-elim
    right_answer w out = rw (le-leb (length s) 256 short, is, w) refl

    pub right-fault : wrong_at [] [] 0 t ≡ none → 0 ≡ text_fault_of s
    unfolding text_fault_of read_text tree_read bound_tree most_deep byte_at_fault check Option-elim
    right-fault w = rw (le-leb (length s) 256 short, is, w) refl

-- ---- the cells of a text with no variable at fault

-- a tree that was read is derived, within the depth
read-derived : (s : List ℕ) {t : Tree} {x : List ℕ} → parse_of 16 (dropped s) ≡ parsed t x → Text t (dropped s)
read-derived s {t} {x} is = (sound 16 (dropped s) t (read 16 (dropped s) x t is)).0

-- blanks dropped, a text is not longer
pub dropped-short : (s : List ℕ) → length s ≤ 256 → length (dropped s) ≤ 256
unfolding dropped
dropped-short s h = omega (arith, h, keep-length (λ b. not (is_blank b)) s)

-- no variable is free, and each has a prefix within its rec
right-sound : (t : Tree) → wrong_at [] [] 0 t ≡ none → closed (term_of t) × (Faulty (term_of t) → ⊥)
right-sound t w = ((λ v f. none-wrong t w (inl (v, f))), (λ y. none-wrong t w (inr y)))

module _ (s : List ℕ) (short : length s ≤ 256) {t : Tree} {x : List ℕ} (is : parse_of 16 (dropped s) ≡ parsed t x)
    (right : wrong_at [] [] 0 t ≡ none) where
  pub few-cells : size_of (term_of t) ≤ 255
  few-cells = few_places whole t (dropped s) (read-derived s is) (dropped-short s short)

  pub few-bodies : recs_of (term_of t) ≤ 51
  few-bodies = few_recs (read-derived s is) (dropped-short s short)

  pub cells-explained : Explained (cell_numbers (term_of t)) (body_links (term_of t)) (places_of (term_of t))
  cells-explained =
      let w = right-sound t right in
      explained (term_of t) w.0 w.1 (actions-below (read-derived s is)) (names-below (read-derived s is)) few-cells few-bodies

  pub first-is : place_of (cell_numbers (term_of t)) (body_links (term_of t)) (link_to no_owners 0 0 (term_of t)) ≡ first_place (term_of t)
  first-is =
      let w = right-sound t right in
      first-link (term_of t) w.0 w.1 (actions-below (read-derived s is)) (names-below (read-derived s is)) few-cells few-bodies

  pub first-followed : Ends (cell_numbers (term_of t)) (body_links (term_of t)) (length (body_links (term_of t))) (link_to no_owners 0 0 (term_of t))
  first-followed =
      let w = right-sound t right in
      first_ends (term_of t) w.0 w.1 (actions-below (read-derived s is)) (names-below (read-derived s is)) few-cells few-bodies

-- ---- what the reader's answer says

-- Of a text with no variable at fault: the cells that were read, what leads to the first place, and what the states decide.
pub record RightCells (s : List ℕ) (to : Standing) (cells bodies : List ℕ) (t : Tree) : Type 0 where
  pub fits : (to.places ≤ 255) × (to.recs ≤ 51)
  pub explained-by : Explained (take (1 + to.places) cells) (take to.recs bodies) (places_of (term_of t))
  pub first-place : place_of [] (take to.recs bodies) to.link ≡ first_place (term_of t)
  pub first-ends-at : Ends (take (1 + to.places) cells) (take to.recs bodies) (length (take to.recs bodies)) to.link
  pub right_is : (out : List ℕ)
      → found_into (next_places (places_of (term_of t))) (ready_sets (places_of (term_of t))) (2 ^ first_place (term_of t)) 7 out ≡ text_into s out
  pub no_fault : 0 ≡ text_fault_of s

module _ (s : List ℕ) (short : length s ≤ 256) {cells : List ℕ} {to : Standing} {cells' bodies' : List ℕ}
    (was : TextRead (dropped s) cells to cells' bodies') where
  -- no text
  pub read-stopped : to.ok ≡ false → Refuses s (NoText to.at)
  unfolding most_deep
  read-stopped not_ok = go (parse_of 16 (dropped s)) refl
    where
      go : (p : Parse) → parse_of 16 (dropped s) ≡ p → Refuses s (NoText to.at)
      go (failed x) e = stopped-refused s short e (was.unread x e).1
      go (parsed t x) e = absurd (true≢false (sym (was.read t x e).is_ok ∙ not_ok))

  -- a text
  read_whole : to.ok ≡ true → (t : Tree) × (x : List ℕ) × (parse_of 16 (dropped s) ≡ parsed t x) × WholeRead cells t x to cells' bodies'
  unfolding most_deep
  read_whole is = go (parse_of 16 (dropped s)) refl
    where
      go : (p : Parse) → parse_of 16 (dropped s) ≡ p
          → (t : Tree) × (x : List ℕ) × (parse_of 16 (dropped s) ≡ parsed t x) × WholeRead cells t x to cells' bodies'
      go (failed x) e = absurd (true≢false (sym is ∙ (was.unread x e).0))
      go (parsed t x) e = (t, x, e, was.read t x e)

  -- a variable at fault
  pub read-wrong : to.ok ≡ true → {i : ℕ} → to.wrong ≡ some i → Refuses s (AtFault i)
  read-wrong is_ok wrong = let w = read_whole is_ok in wrong-refused s short w.2 (sym w.3.wrong_is ∙ wrong)

  -- none
  pub right-cells : to.ok ≡ true → to.wrong ≡ none → get_or cells 0 0 ≡ 0 → (t : Tree) × RightCells s to cells' bodies' t
  unfolding cell_numbers place_of
  right-cells is_ok right zero-first =
      let w = read_whole is_ok in
      let k = w.3 in
      let none-at : wrong_at [] [] 0 w.0 ≡ none = sym k.wrong_is ∙ right in
      let cells_same : take (1 + to.places) cells' ≡ cell_numbers (term_of w.0) =
      k.cells_are ∙ ap (λ (x : ℕ). x ∷ map packed (cells_in no_owners 0 0 (term_of w.0))) zero-first in (
        w.0,
        record {
          fits = (
            subst⁻¹ (λ (n : ℕ). n ≤ 255) k.places_are (few-cells s short w.2 none-at),
            subst⁻¹ (λ (n : ℕ). n ≤ 51) k.recs_are (few-bodies s short w.2 none-at),
          );
          explained-by =
              subst⁻¹ (λ (c : List ℕ). Explained c (take to.recs bodies') (places_of (term_of w.0))) cells_same
              (subst⁻¹ (λ (b : List ℕ). Explained (cell_numbers (term_of w.0)) b (places_of (term_of w.0))) k.bodies_are
              (cells-explained s short w.2 none-at));
          first-place =
              subst⁻¹ (λ (b : List ℕ). place_of [] b to.link ≡ first_place (term_of w.0)) k.bodies_are
              (subst⁻¹ (λ (l : ℕ). place_of [] (body_links (term_of w.0)) l ≡ first_place (term_of w.0)) k.link_is
              (first-is s short w.2 none-at));
          first-ends-at =
              subst⁻¹ (λ (c : List ℕ). Ends c (take to.recs bodies') (length (take to.recs bodies')) to.link) cells_same
              (subst⁻¹ (λ (b : List ℕ). Ends (cell_numbers (term_of w.0)) b (length b) to.link) k.bodies_are
              (subst⁻¹ (λ (l : ℕ). Ends (cell_numbers (term_of w.0)) (body_links (term_of w.0)) (length (body_links (term_of w.0))) l)
              k.link_is (first-followed s short w.2 none-at)));
          right_is = right_answer s short w.2 none-at;
          no_fault = right-fault s short w.2 none-at;
        },
      )

-- a term as the code keeps it
pub term-read : {s : List ℕ} {to : Standing} {cells bodies : List ℕ} {t : Tree} → RightCells s to cells bodies t → {first : ℕ}
    → first ≡ place_of [] (take to.recs bodies) to.link
    → TermRead s (record { cells = cells; bodies = bodies; places = to.places; recs = to.recs; first = first })
unfolding place_of places_of
term-read {s} {to} {cells} {bodies} {t} right {first} is-first =
    record {
      senses = places_of (term_of t);
      few_places = right.fits.0;
      few_recs = omega (arith, right.fits.1);
      explained = right.explained-by;
      inside =
          subst⁻¹ (λ (p : ℕ). p < length (take (1 + to.places) cells)) is-first
          (to_inside (take (1 + to.places) cells) (take to.recs bodies) to.link right.first-ends-at
          (subst (λ (n : ℕ). 0 < n) right.explained-by.as_many (omega arith)));
      decided = λ out.
          ap (λ (p : ℕ). found_into (next_places (places_of (term_of t))) (ready_sets (places_of (term_of t))) (2 ^ p) 7 out)
          (is-first ∙ right.first-place)
          ∙ right.right_is out;
      no_fault = right.no_fault;
    }

-- what is left for a text is left for an equal one
pub text-read-is : {x y cells : List ℕ} {to : Standing} {cells' bodies' : List ℕ} → x ≡ y → TextRead x cells to cells' bodies'
    → TextRead y cells to cells' bodies'
text-read-is {cells = cells} {to = to} {cells' = cells'} {bodies' = bodies'} e was = subst (λ (z : List ℕ). TextRead z cells to cells' bodies') e was
