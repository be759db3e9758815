-- What the answer of a reading function says, by whether it could go on.
-- Assumes nothing.
use mathlib.Core.Path.{◌≡◌, refl, sym, ap, subst, subst⁻¹, ◌∙◌}
use mathlib.Core.Bool.{Bool, true, false}
use mathlib.Core.List.{List}
use Prim.Native.Nat.{ℕ, ◌+◌, ◌≤◌}
use native.Mathlib.Omega.{arith}
use lib.ListN.{length, drop}
use Rattle.text.specs.Grammar.{Tree}
use Rattle.text.specs.Convert.{action_width}
use Rattle.text.specs.Parser.{Parse, failed, parsed}
use Rattle.std.specs.Borrow.{Bor}
use Rattle.text_reading.specs.declared.Reader.{Reader}
use Rattle.text_reading.specs.declared.Scope.{Scope}
use Rattle.text_reading.specs.Reader.{standing, before, SameTables}
use Rattle.text_reading.specs.Reading.{Standing, Ready, Stopped, PartRead, ReadAs, fails, reads}

not-both : {b : Bool} → b ≡ true → b ≡ false → ⊥
not-both h k =
    let no : true ≡ false = sym h ∙ k in
    let z : ◌≡◌ {A = ℕ} 0 1 = cc in
    omega arith

module _ {text : List ℕ} {from : Standing} {scope : Scope} {cells bodies : List ℕ} {p : Parse} {to : Standing} {cells' bodies' : List ℕ} where
  pub cells_stay : ReadAs text from scope cells bodies p to cells' bodies' → length cells' ≡ 257
  cells_stay (fails r e s c b) = c
  cells_stay (reads t r e s) = s.cells_room

  pub bodies_stay : ReadAs text from scope cells bodies p to cells' bodies' → length bodies' ≡ 64
  bodies_stay (fails r e s c b) = b
  bodies_stay (reads t r e s) = s.bodies_room

  -- it could not
  pub failing : ReadAs text from scope cells bodies p to cells' bodies' → to.ok ≡ false → (r : List ℕ) × (p ≡ failed r) × Stopped text r to
  failing (fails r e s c b) h = (r, e, s)
  failing (reads t r e s) h = absurd (not-both s.is_ok h)

  -- it could
  pub reading : ReadAs text from scope cells bodies p to cells' bodies' → to.ok ≡ true
      → (t : Tree) × (r : List ℕ) × (p ≡ parsed t r) × PartRead text from scope cells bodies t r to cells' bodies'
  reading (fails r e s c b) h = absurd (not-both h s.not_ok)
  reading (reads t r e s) h = (t, r, e, s)

  -- the same for what is the same
  pub read-so : {q : Parse} → q ≡ p → ReadAs text from scope cells bodies p to cells' bodies'
      → ReadAs text from scope cells bodies q to cells' bodies'
  read-so e h = subst (λ (p : Parse). ReadAs text from scope cells bodies p to cells' bodies') (sym e) h

-- reading stopped at a byte
pub stopped-at : {text : List ℕ} {to : Standing} (at : ℕ) → (to.ok ≡ false) × (to.at ≡ at) → at ≤ length text → Stopped text (drop at text) to
stopped-at {text} {to} at h k =
    record { not_ok = h.0; inside = omega (arith, h.1); left = subst (λ (i : ℕ). drop at text ≡ drop i text) (sym h.1) refl }

-- the same tables over two steps
pub same_on : (a b c : Reader) → SameTables a b → SameTables b c → SameTables a c
same_on a b c h k = (k.0 ∙ h.0, k.1 ∙ h.1, k.2 ∙ h.2)

-- and the same text
pub same_text : (a b : Reader) → SameTables a b → b.text.now ≡ a.text.now
same_text a b h = ap (λ (s : Bor (List ℕ)). s.now) h.0

-- where an action began
pub began : (reader : Reader) (j at : ℕ) → reader.at ≡ at + action_width j → before j reader ≡ standing (record reader { at = at }) 0
began reader j at e = ap (λ (k : ℕ). standing (record reader { at = k }) 0) (omega arith)

module _ {f g : Standing} (e : f ≡ g) {text : List ℕ} {scope : Scope} {cells bodies : List ℕ} where
  pub ready-from : Ready text g scope cells bodies → Ready text f scope cells bodies
  ready-from h = subst⁻¹ (λ (f : Standing). Ready text f scope cells bodies) e h

  pub read-from : {p : Parse} {to : Standing} {cells' bodies' : List ℕ} → ReadAs text f scope cells bodies p to cells' bodies'
      → ReadAs text g scope cells bodies p to cells' bodies'
  read-from {p} {to} {cells'} {bodies'} h = subst (λ (f : Standing). ReadAs text f scope cells bodies p to cells' bodies') e h
