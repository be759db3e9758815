-- The ordinary sheet that a text is converted to, or why there is none, and where. Request 7/13.
-- Assumes nothing.
use Rattle.std.specs.Prelude.{Bool, not, cond, List, [], ◌∷◌, ℕ, zero, suc, ◌+◌, ◌-◌, length, eqb, ltb, leb}
use Rattle.std.proofs.Math.Option.{Option, none, some, Option-elim}
use Rattle.model.specs.Lists.{any, keep}
use Rattle.model.specs.Sheet.{Reading, good, refusal, check, then, Refusal, plain}
use Rattle.nodes.specs.SheetBytes.{sheet_bytes}
use Rattle.nodes.specs.Answer.{Written, written}
use Rattle.text.specs.Grammar.{Tree, nought, bare, dotted, summed, chosen, bound, variable, bracket}
use Rattle.text.specs.Terms.{term_of}
use Rattle.text.specs.Parser.{Parse, failed, parsed, parse_of}
use Rattle.text.specs.Places.{contract_of_term}

-- a blank
unfoldable pub is_blank : ℕ → Bool
is_blank b = eqb b 32

-- "blanks (20 hex) dropped wherever they are before reading"
unfoldable pub dropped : List ℕ → List ℕ
dropped s = keep (λ b. not (is_blank b)) s

-- where the byte with a number among those that are no blanks stands; the length if there is none
unfoldable pub place_of_byte : List ℕ → ℕ → ℕ
place_of_byte [] i = 0
place_of_byte (b ∷ s) zero = cond (is_blank b) (suc (place_of_byte s zero)) 0
place_of_byte (b ∷ s) (suc i) = cond (is_blank b) (suc (place_of_byte s (suc i))) (suc (place_of_byte s i))

-- ---- 23

-- the bytes of an action: a letter, with ! before it where it sends
unfoldable pub action_width : ℕ → ℕ
action_width j = cond (ltb j 7) 1 2

-- the bytes of a tree's text
unfoldable pub width_of : Tree → ℕ
width_of nought = 1
width_of (bare j) = action_width j
width_of (dotted j t) = action_width j + suc (width_of t)
width_of (summed t u) = width_of t + suc (width_of u)
width_of (chosen t u) = width_of t + (3 + width_of u)
width_of (bound v t) = 5 + width_of t
width_of (variable v) = 1
width_of (bracket t) = suc (width_of t + 1)

-- the first of two
unfoldable pub or_else : Option ℕ → Option ℕ → Option ℕ
or_else (some i) other = some i
or_else none other = other

-- The first variable at fault in a tree whose text begins at i: one that is not among those with a prefix between their nearest rec and
-- here. `recs` are the variables with a rec so far, all of which have a prefix behind the next one.
unfoldable pub wrong_at : (recs prefixed : List ℕ) (i : ℕ) → Tree → Option ℕ
wrong_at recs prefixed i nought = none
wrong_at recs prefixed i (bare j) = none
wrong_at recs prefixed i (dotted j t) = wrong_at recs recs (i + suc (action_width j)) t
wrong_at recs prefixed i (summed t u) = or_else (wrong_at recs prefixed i t) (wrong_at recs prefixed (i + suc (width_of t)) u)
wrong_at recs prefixed i (chosen t u) = or_else (wrong_at recs prefixed i t) (wrong_at recs prefixed (i + (3 + width_of t)) u)
wrong_at recs prefixed i (bound v t) = wrong_at (v ∷ recs) (keep (λ w. not (eqb v w)) prefixed) (i + 5) t
wrong_at recs prefixed i (variable v) = cond (any (eqb v) prefixed) none (some i)
wrong_at recs prefixed i (bracket t) = wrong_at recs prefixed (suc i) t

-- ---- what a text is, or why it is refused, and where

-- a refusal with the byte at fault: "the byte of the text (blanks counted) at which no derivation can go on, or the variable at fault"
pub record TextFault : Type 0 where
  pub refused : Refusal
  pub byte : ℕ

-- "each bracket, prefix and rec ... at most 16 deep"
unfoldable pub most_deep : ℕ
most_deep = 16

-- a tree, unless a variable is at fault
unfoldable pub bound_tree : List ℕ → Tree → Reading TextFault Tree
bound_tree s t = Option-elim (wrong_at [] [] 0 t) (good t) (λ (i : ℕ). refusal (record { refused = plain 23 0; byte = place_of_byte s i }))

-- what was read, or where reading stopped
unfoldable pub tree_read : List ℕ → Parse → Reading TextFault Tree
tree_read s (failed r) = refusal (record { refused = plain 22 0; byte = place_of_byte s (length (dropped s) - length r) })
tree_read s (parsed t r) = bound_tree s t

-- "1 above 256 bytes, blanks counted, with sheet 1, 22 text outside the grammar or too deep, 23 a variable unbound or under no prefix
-- within its rec"
unfoldable pub read_text : List ℕ → Reading TextFault Tree
read_text s =
    check (leb (length s) 256) (record { refused = plain 1 1; byte = 0 }) (tree_read s (parse_of most_deep (dropped s)))

-- the refusal without the byte
unfoldable pub without_byte : Reading TextFault Tree → Reading Refusal Tree
without_byte (good t) = good t
without_byte (refusal f) = refusal f.refused

-- the byte at fault, 0 if none is
unfoldable pub byte_at_fault : Reading TextFault Tree → ℕ
byte_at_fault (good t) = 0
byte_at_fault (refusal f) = f.byte

-- the tree of a text, or 1, 22, 23
unfoldable pub text_of : List ℕ → Reading Refusal Tree
text_of s = without_byte (read_text s)

-- "then 19, 20 and 13 as for choosing sheets": the sheet that a text is converted to
unfoldable pub text_sheet : List ℕ → Reading Refusal (List ℕ)
text_sheet s = then (text_of s) (λ t. then (contract_of_term (term_of t)) (λ made. good (sheet_bytes 7 0 made.states)))

-- the whole outcome of converting: the answer, and the lent output afterwards
unfoldable pub text_into : (s out : List ℕ) → Written
text_into s out = written out (text_sheet s)

-- for 22 and 23 the byte at fault, 0 else
unfoldable pub text_fault_of : List ℕ → ℕ
text_fault_of s = byte_at_fault (read_text s)
