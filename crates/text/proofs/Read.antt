-- What reading a text comes to: it is too long; or it stops where no derivation goes on; or a variable is at fault; or it has a tree without
-- one. By cases of the length, of what the reader found, and of the search for a variable at fault.
-- Assumes nothing.
use mathlib.Core.Path.{◌≡◌, refl, ◌∙◌}
use mathlib.Core.Bool.{Bool, true, false}
use mathlib.Core.Option.{Option, none, some, Option-elim}
use mathlib.Core.List.{List, []}
use Prim.Native.Nat.{ℕ, ◌-◌, ◌≤◌, ◌<◌}
use lib.ListN.{length}
use lib.Dec.{leb}
use borrow.Author.Tests.{leb-true, leb-false}
use Rattle.model.specs.Sheet.{good, refusal, check, plain}
use Rattle.text.specs.Grammar.{Tree}
use Rattle.text.specs.Terms.{term_of, Wrong}
use Rattle.text.specs.Parser.{Parse, failed, parsed, parse_of}
use Rattle.text.specs.Convert.{dropped, place_of_byte, wrong_at, most_deep, bound_tree, tree_read, read_text}
use Rattle.text.specs.Promises.{IsText}
use Rattle.text.proofs.Parse.{sound, read}
use Rattle.text.proofs.Variables.{none-wrong}

-- what reading comes to, and what it answers
pub data Outcome (s : List ℕ) : Type 0 where
  too_long : 256 < length s → read_text s ≡ refusal (record { refused = plain 1 1; byte = 0 }) → Outcome s
  stopped : (r : List ℕ) → length s ≤ 256 → parse_of 16 (dropped s) ≡ failed r
      → read_text s ≡ refusal (record { refused = plain 22 0; byte = place_of_byte s (length (dropped s) - length r) }) → Outcome s
  at_fault : (t : Tree) (i : ℕ) → IsText s t → wrong_at [] [] 0 t ≡ some i
      → read_text s ≡ refusal (record { refused = plain 23 0; byte = place_of_byte s i }) → Outcome s
  right : (t : Tree) → IsText s t → (Wrong (term_of t) → ⊥) → read_text s ≡ good t → Outcome s

-- a tree that was read is one of the text
read-text : (s r : List ℕ) (t : Tree) → length s ≤ 256 → parse_of 16 (dropped s) ≡ parsed t r → IsText s t
read-text s r t h e =
    let w = sound 16 (dropped s) t (read 16 (dropped s) r t e) in
    record { short = h; derived = w.0; shallow = w.1 }

pub outcome : (s : List ℕ) → Outcome s
unfolding read_text tree_read bound_tree most_deep check Option-elim
outcome s = at_length (leb (length s) 256) refl
  where
    at_variable : (t : Tree) → IsText s t → read_text s ≡ bound_tree s t → (o : Option ℕ) → wrong_at [] [] 0 t ≡ o → Outcome s
    at_variable t h a none e = right t h (none-wrong t e) (a ∙ rw e)
    at_variable t h a (some i) e = at_fault t i h e (a ∙ rw e)

    at-parse : length s ≤ 256 → (p : Parse) → parse_of 16 (dropped s) ≡ p → read_text s ≡ tree_read s p → Outcome s
    at-parse h (failed r) e a = stopped r h e a
    at-parse h (parsed t r) e a = at_variable t (read-text s r t h e) a (wrong_at [] [] 0 t) refl

    at_length : (b : Bool) → leb (length s) 256 ≡ b → Outcome s
    at_length true e = at-parse (leb-true (length s) 256 e) (parse_of 16 (dropped s)) refl (rw e)
    at_length false e = too_long (leb-false (length s) 256 e) (rw e)
