-- Where a text is at fault: for 22 the byte at which no derivation goes on, for 23 the first variable at fault, each found again among the bytes with
-- blanks. By what reading comes to; behind a tree nothing is answered as 22 or 23.
-- Assumes nothing.
use mathlib.Core.Path.{◌≡◌, refl, ap, subst⁻¹, ◌∙◌}
use mathlib.Core.Option.{some}
use mathlib.Core.Logic.{inl, inr}
use mathlib.Core.List.{List, [], ◌∷◌, ◌++◌, append-nil}
use Prim.Native.Nat.{ℕ, ◌-◌, ◌≤◌, ◌<◌}
use native.Mathlib.Omega.{arith}
use lib.ListN.{length, get_or, take, length-append}
use lib.Seq.{take-append_seam, get_or-append_seam, length-take-le}
use Rattle.model.specs.Bytes.{byte}
use Rattle.model.specs.Sheet.{Refusal, good, refusal, plain}
use Rattle.model.proofs.Refusals.{OnlyRefused, only_then}
use Rattle.nodes.proofs.Outcome.{written-only}
use Rattle.text.specs.Grammar.{Tree, whole, Text, depth_of}
use Rattle.text.specs.Terms.{term_of}
use Rattle.text.specs.Parser.{failed, parse_of}
use Rattle.text.specs.Places.{contract_of_term}
use Rattle.text.specs.Convert.{dropped, place_of_byte, wrong_at, TextFault, read_text, byte_at_fault, text_sheet, text_into, text_fault_of}
use Rattle.text.specs.Promises.{IsText, StopsAt, VariableAt, FaultSays}
use Rattle.text.specs.Uses.{FirstFault}
use Rattle.text.proofs.Stops.{stops}
use Rattle.text.proofs.Uses.{first-fault, letter}
use Rattle.text.proofs.Blanks.{place_inside, place_byte, place-front, place-beyond}
use Rattle.text.proofs.Read.{Outcome, too_long, stopped, at_fault, right, outcome}
use Rattle.text.proofs.Says.{contract-refuses, text-refused, text-good, refused-number}

-- ---- where

-- the first byte that is left, where it stood among the blanks
byte_left : (s x : List ℕ) (b : ℕ) (r : List ℕ) → dropped s ≡ x ++ (b ∷ r)
    → (place_of_byte s (length x) < length s) × (byte s (place_of_byte s (length x)) ≡ b) × (dropped (take (place_of_byte s (length x)) s) ≡ x)
byte_left s x b r e =
    let i = length x in
    let h : i < length (dropped s) = omega (arith, ap length e, length-append x (b ∷ r)) in (
      place_inside s i h,
      place_byte s i h ∙ ap (λ (d : List ℕ). get_or d i 0) e ∙ get_or-append_seam x b r 0,
      place-front s i h ∙ ap (take i) e ∙ take-append_seam x (b ∷ r),
    )

-- behind the bytes x something is left, or nothing
stopped-at : (s x r : List ℕ) → dropped s ≡ x ++ r → ((y : List ℕ) × (t : Tree) × Text t (x ++ y) × (depth_of t ≤ 16))
    → ((b : ℕ) (r' : List ℕ) → r ≡ b ∷ r' → (y : List ℕ) (t : Tree) → Text t (x ++ (b ∷ y)) → depth_of t ≤ 16 → ⊥)
    → StopsAt s (place_of_byte s (length x))
stopped-at s x [] e begun none =
    let all = e ∙ append-nil x in (x, begun, inr (all, place-beyond s (length x) (omega (arith, ap length all))))
stopped-at s x (b ∷ r) e begun none = let w = byte_left s x b r e in (x, begun, inl (b, r, e, none b r refl, w.0, w.1, w.2))

stops_at : (s r : List ℕ) → parse_of 16 (dropped s) ≡ failed r → StopsAt s (place_of_byte s (length (dropped s) - length r))
stops_at s r p =
    let w = stops 16 (dropped s) r p in
    let behind : length (dropped s) - length r ≡ length w.0 = omega (arith, ap length w.1, length-append w.0 r) in
    subst⁻¹ (λ (i : ℕ). StopsAt s (place_of_byte s i)) behind (stopped-at s w.0 r w.1 w.2 w.3)

-- the first variable at fault, where it stood among the blanks
variable-at : (s : List ℕ) (t : Tree) (i : ℕ) → IsText s t → wrong_at [] [] 0 t ≡ some i → VariableAt s (place_of_byte s i)
variable-at s t i h e =
    let f = first-fault t i e in
    let w = letter whole t (dropped s) f.0 i h.derived f.1.here in
    let before : length (dropped (take (place_of_byte s i) s)) ≡ i =
    ap length (place-front s i w.0) ∙ length-take-le i (dropped s) (omega (arith, w.0)) in
    record {
      tree = t;
      is_text = h;
      variable = f.0;
      first = subst⁻¹ (FirstFault t f.0) before f.1;
      within = place_inside s i w.0;
      letter = place_byte s i w.0 ∙ w.1;
    }

-- ---- the byte that is answered

module _ (s : List ℕ) where
  fault-byte : (f : TextFault) → read_text s ≡ refusal f → text_fault_of s ≡ f.byte
  unfolding text_fault_of byte_at_fault
  fault-byte f e = rw e

  no-fault : (t : Tree) → read_text s ≡ good t → text_fault_of s ≡ 0
  unfolding text_fault_of byte_at_fault
  no-fault t e = rw e

-- neither 22 nor 23
abbrev Other : (number sheet state : ℕ) → Type 0
Other number sheet state = (number ≡ 22 → ⊥) × (number ≡ 23 → ⊥)

-- behind a tree there are 0, 13, 19 and 20
tree-other : (s out : List ℕ) (t : Tree) → read_text s ≡ good t → Other (text_into s out).number (text_into s out).sheet (text_into s out).state
unfolding text_into plain
tree-other s out t e =
    let other : Refusal → Type 0 = λ r. Other r.number r.sheet r.state in
    written-only out Other (omega arith) (omega arith) (text_sheet s)
    (subst⁻¹ (OnlyRefused other) (text-good s t e)
    (only_then other (contract_of_term (term_of t)) _ (contract-refuses (term_of t) other (omega arith) (omega arith)) (λ made. tt)))

fault-of : (s out : List ℕ) → Outcome s
    → ((text_into s out).number ≡ 22 → StopsAt s (text_fault_of s))
    × ((text_into s out).number ≡ 23 → VariableAt s (text_fault_of s))
    × (((text_into s out).number ≡ 22 → ⊥) → ((text_into s out).number ≡ 23 → ⊥) → text_fault_of s ≡ 0)
unfolding plain
fault-of s out (too_long h e) =
    let n = refused-number s out (plain 1 1) (text-refused s _ e) in
    ((λ d. absurd (omega (arith, n, d))), (λ d. absurd (omega (arith, n, d))), (λ a b. fault-byte s _ e))
fault-of s out (stopped r h p e) =
    let n = refused-number s out (plain 22 0) (text-refused s _ e) in
    ((λ d. subst⁻¹ (StopsAt s) (fault-byte s _ e) (stops_at s r p)), (λ d. absurd (omega (arith, n, d))), (λ a b. absurd (a n)))
fault-of s out (at_fault t i h w e) =
    let n = refused-number s out (plain 23 0) (text-refused s _ e) in
    ((λ d. absurd (omega (arith, n, d))), (λ d. subst⁻¹ (VariableAt s) (fault-byte s _ e) (variable-at s t i h w)), (λ a b. absurd (b n)))
fault-of s out (right t h f e) =
    let o = tree-other s out t e in ((λ d. absurd (o.0 d)), (λ d. absurd (o.1 d)), (λ a b. no-fault s t e))

-- for 22 where no derivation goes on, for 23 the first variable at fault, 0 else
pub fault-says : FaultSays
fault-says s out = fault-of s out (outcome s)
