-- What is left for a whole text, from what is left for a part that begins where it does.
-- Assumes nothing.
use mathlib.Core.Path.{◌≡◌, refl, ap, subst, ◌∙◌}
use mathlib.Core.Bool.{true, false}
use mathlib.Core.Option.{none}
use mathlib.Core.List.{List, [], ◌∷◌, ◌++◌, map}
use Prim.Native.Nat.{ℕ, ◌-◌, ◌≤◌, ◌<◌}
use native.Mathlib.Omega.{arith}
use lib.ListN.{length, get_or, take, drop, length-drop, drop_of_length-le}
use lib.Seq.{take-suc, drop-cons}
use Rattle.model.specs.Lists.{keep}
use Rattle.model.specs.Contract.{has}
use Rattle.text.specs.Grammar.{Tree}
use Rattle.text.specs.Terms.{term_of}
use Rattle.text.specs.Parser.{Parse, failed, parsed, whole_of, tight_at, ended, parse_of}
use Rattle.text.specs.Convert.{or_else, most_deep}
use Rattle.text.specs.Cells.{packed, cells_in, no_owners, body_links}
use Rattle.text_reading.specs.declared.Scope.{Scope}
use Rattle.text_reading.specs.Reading.{Standing, listed, PartRead, ReadAs, WholeRead, TextRead}
use Rattle.text_reading.proofs.Outcome.{failing, reading}

-- where reading begins
abbrev pub first : Standing
first = record { ok = true; at = 0; link = 0; places = 0; recs = 0; wrong = none }

-- with no variable
abbrev pub nothing : Scope
nothing = record { recs = 0; prefixed = 0; owners = 0 ∷ 0 ∷ 0 ∷ [] }

-- ---- answers

failed-is : {a : Parse} {r s : List ℕ} → a ≡ failed r → a ≡ failed s → r ≡ s
failed-is e f = cc

parsed-is : {a : Parse} {t u : Tree} {r s : List ℕ} → a ≡ parsed t r → a ≡ parsed u s → t ≡ u
parsed-is e f = cc

rest-is : {a : Parse} {t u : Tree} {r s : List ℕ} → a ≡ parsed t r → a ≡ parsed u s → r ≡ s
rest-is e f = cc

not-both : {a : Parse} {t : Tree} {r s : List ℕ} → a ≡ failed r → a ≡ parsed t s → ⊥
not-both e f = let z : ◌≡◌ {A = ℕ} 0 1 = cc in omega arith

-- no derivation can go on
unread-so : {text cells : List ℕ} {r : List ℕ} {to : Standing} {cells' bodies' : List ℕ} → parse_of most_deep text ≡ failed r → to.ok ≡ false
    → to.at ≡ length text - length r → TextRead text cells to cells' bodies'
unread-so {text} e bad at_is =
    record {
      unread = λ s f. (bad, at_is ∙ ap (λ (l : List ℕ). length text - length l) (failed-is e f));
      read = λ t s f. absurd (not-both e f);
    }

-- all was read
whole-read : {text cells bodies : List ℕ} {t : Tree} {r : List ℕ} {part : Standing} {cells' bodies' : List ℕ}
    → PartRead text first nothing cells bodies t r part cells' bodies' → length cells ≡ 257 → WholeRead cells t [] part cells' bodies'
unfolding no_owners body_links or_else listed keep has
whole-read {cells = cells} {t} part room =
    let front : take 1 cells ≡ get_or cells 0 0 ∷ [] = take-suc cells 0 0 (omega arith) in
    record {
      is_ok = part.is_ok;
      nothing_left = refl;
      link_is = part.link_is;
      places_are = omega (arith, part.places_are);
      recs_are = omega (arith, part.recs_are);
      cells_are = part.cells_are ∙ ap (λ l. l ++ map packed (cells_in no_owners 0 0 (term_of t))) front;
      bodies_are = part.bodies_are;
      wrong_is = part.wrong_is;
    }

-- the same of what the tables hold in the end
pub kept : {text cells : List ℕ} {to : Standing} {cells' bodies' x y : List ℕ} → TextRead text cells to cells' bodies' → x ≡ cells'
    → y ≡ bodies' → TextRead text cells to x y
kept h e f = rw (e, f) h

module _ {text cells bodies : List ℕ} {part : Standing} {cells' bodies' : List ℕ}
    (h : ReadAs text first nothing cells bodies (whole_of (length text) (tight_at (length text) 16) (drop 0 text)) part cells' bodies') where
  pub text-fails : part.ok ≡ false → TextRead text cells part cells' bodies'
  unfolding parse_of most_deep ended
  text-fails bad =
      let w = failing h bad in
      unread-so (ap ended w.1) bad (omega (arith, w.2.inside, ap length w.2.left, length-drop part.at text))

  module _ (fine : part.ok ≡ true) where
    pub text-goes-on : part.at < length text → {to : Standing} → (to.ok ≡ false) × (to.at ≡ part.at) → TextRead text cells to cells' bodies'
    unfolding parse_of most_deep ended
    text-goes-on less k =
        let w = reading h fine in
        let rest = w.3.left ∙ drop-cons text part.at 0 less in
        unread-so (ap ended (w.2 ∙ ap (parsed w.0) rest)) k.0
        (omega (arith, k.1, w.3.inside, ap length w.3.left, ap length rest, length-drop part.at text))

    pub text-ends : length text ≤ part.at → length cells ≡ 257 → TextRead text cells part cells' bodies'
    unfolding parse_of most_deep ended
    text-ends end room =
        let w = reading h fine in
        let all : parse_of most_deep text ≡ parsed w.0 [] =
        ap ended (w.2 ∙ ap (parsed w.0) (w.3.left ∙ drop_of_length-le text end))
        in
        record {
          unread = λ s f. absurd (not-both f all);
          read = λ t s f.
              subst (λ (t : Tree). WholeRead cells t s part cells' bodies') (parsed-is all f)
              (subst (λ (s : List ℕ). WholeRead cells w.0 s part cells' bodies') (rest-is all f) (whole-read w.3 room));
        }
