-- A list of attempts, five bytes each: made one after the other they lead a run where the model's list does. By what is left of the bytes.
-- Assumes nothing.
use mathlib.Core.Path.{◌≡◌, refl, sym, ap, ap₂, ◌∙◌}
use mathlib.Core.List.{List, ◌∷◌, ◌++◌}
use Prim.Native.Nat.{ℕ, zero, suc, ◌+◌, ◌*◌, ◌/◌, ◌<◌}
use native.Mathlib.Omega.{arith}
use lib.ListN.{length, get_or, get_or-append, length-append}
use Rattle.std.proofs.lemmas.List.{get_or-append_right}
use Rattle.model.specs.Bytes.{byte, word}
use Rattle.model.specs.Contract.{Contract}
use Rattle.model.specs.Plan.{Move}
use Rattle.model.specs.Run.{Run, Attempt, attempted, run_from}
use Rattle.runs.specs.Runs.{attempt_of, attempts_from, attempts_in}

-- ---- the first attempt stands in five bytes, and the others in those behind them

module _ (first left : List ℕ) (five : length first ≡ 5) where
  front-byte : (i : ℕ) → i < 5 → byte (first ++ left) i ≡ byte first i
  unfolding byte
  front-byte i h = get_or-append first left 0 i (omega arith)

  front-word : (i : ℕ) → i < 4 → word (first ++ left) i ≡ word first i
  unfolding word
  front-word i h = ap₂ (λ (l h : ℕ). l + 256 * h) (front-byte i (omega arith)) (front-byte (i + 1) (omega arith))

  behind-byte : (i k : ℕ) → k ≡ i + 5 → byte (first ++ left) k ≡ byte left i
  unfolding byte
  behind-byte i k e = get_or-append_right first left 5 k 0 five (omega arith) ∙ ap (λ (j : ℕ). get_or left j 0) (omega arith)

  behind-word : (i k : ℕ) → k ≡ i + 5 → word (first ++ left) k ≡ word left i
  unfolding word
  behind-word i k e = ap₂ (λ (l h : ℕ). l + 256 * h) (behind-byte i k e) (behind-byte (i + 1) (k + 1) (omega arith))

  behind : (many at k : ℕ) → k ≡ at + 5 → attempts_from (first ++ left) k many ≡ attempts_from left at many
  unfolding attempts_from
  behind zero at k e = refl
  behind (suc many) at k e =
      rw (behind-word at k e, behind-word (at + 2) (k + 2) (omega arith), behind-byte (at + 4) (k + 4) (omega arith))
      (ap (λ (others : List Attempt). record { R = word left at; S = word left (at + 2); code = byte left (at + 4) } ∷ others)
      (behind many (at + 5) (k + 5) (omega arith)))

  pub attempts-cut : attempts_in (first ++ left) ≡ attempt_of first ∷ attempts_in left
  unfolding attempts_in attempts_from attempt_of
  attempts-cut =
      let one : length (first ++ left) / 5 ≡ suc (length left / 5) = omega (arith, length-append first left) in
      rw (one, front-word 0 (omega arith), front-word 2 (omega arith), front-byte 4 (omega arith))
      (ap (λ (others : List Attempt). record { R = word first 0; S = word first 2; code = byte first 4 } ∷ others)
      (behind (length left / 5) 0 5 (omega arith)))

-- ---- following

module _ (user new : Contract) (rows : List (List Move)) (b : List ℕ) (start : Run) where
  -- the attempts in the bytes that are left lead the run where all of them lead the start
  pub record Followed (run : Run) (left : List ℕ) : Type 0 where
    pub leads : run_from user new rows run (attempts_in left) ≡ run_from user new rows start (attempts_in b)

  pub followed-begin : {left : List ℕ} → left ≡ b → Followed start left
  followed-begin e = record { leads = ap (λ (l : List ℕ). run_from user new rows start (attempts_in l)) e }

  pub followed-more : {run after : Run} {rest left : List ℕ} (first : List ℕ) → Followed run rest → rest ≡ first ++ left → length first ≡ 5
      → after ≡ attempted user new rows run (attempt_of first) → Followed after left
  unfolding run_from
  followed-more {run} {rest = rest} {left = left} first known cut five e =
      let attempts = ap (λ (b : List ℕ). attempts_in b) cut ∙ attempts-cut first left five in
      record { leads = rw e (sym (ap (λ (l : List Attempt). run_from user new rows run l) attempts) ∙ known.leads) }

  pub followed-end : {run : Run} {left : List ℕ} → Followed run left → length left < 5 → run ≡ run_from user new rows start (attempts_in b)
  unfolding run_from attempts_in attempts_from
  followed-end {run} {left} known h =
      let nothing : length left / 5 ≡ 0 = omega arith in
      rw nothing at known.leads
