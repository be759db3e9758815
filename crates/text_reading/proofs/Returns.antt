-- What the functions of the reader leave, from what those that they call leave.
-- Assumes nothing.
use mathlib.Core.Path.{◌≡◌, refl, subst, subst⁻¹, ◌∙◌}
use mathlib.Core.Bool.{true, false}
use mathlib.Core.List.{List, [], ◌∷◌}
use Prim.Native.Nat.{ℕ, ◌+◌, ◌≤◌, ◌<◌}
use native.Mathlib.Omega.{arith}
use lib.ListN.{length, set, drop}
use borrow.Author.Tests.{lt-ltb, le-ltb}
use Rattle.std.specs.Prelude.{slice_get, Some}
use Rattle.text.specs.Grammar.{Tree, bare, dotted, bound, bracket}
use Rattle.text.specs.Parser.{Parse, and_then, expects, acted, bracketed, looped}
use Rattle.text.specs.Convert.{action_width}
use Rattle.text_reading.specs.declared.Scope.{Scope}
use Rattle.text_reading.specs.Reading.{Standing, onward, with_rec, prefixed_scope, InRec, CellPut, Ready, ReadAs, fails, reads}
use Rattle.text_reading.specs.Reader.{RecRead, RecStops}
use Rattle.text_reading.proofs.Bytes.{here}
use Rattle.text_reading.proofs.Steps.{acted-bare, acted-dot, bracket-fails, bracket-stops, bracket-ends, then-fails, then-goes}
use Rattle.text_reading.proofs.Parts.{part-bare, dotted-room, part-dotted, part-bracket, part-bound}
use Rattle.text_reading.proofs.Parts.{ready-prefixed}
use Rattle.text_reading.proofs.Outcome.{cells_stay, bodies_stay, failing, reading, stopped-at}

-- the first part fails
pub first-fails : {text : List ℕ} {from : Standing} {scope : Scope} {cells bodies : List ℕ} {a : Parse} {part : Standing}
    {cells' bodies' : List ℕ}
    (f : Tree → List ℕ → Parse) → ReadAs text from scope cells bodies a part cells' bodies' → part.ok ≡ false
    → ReadAs text from scope cells bodies (and_then a f) part cells' bodies'
first-fails f h bad = let w = failing h bad in fails w.0 (then-fails f w.1) w.2 (cells_stay h) (bodies_stay h)

-- ---- the bytes of an action

pub taken-width : (j : ℕ) → j ≤ 6 → action_width j ≡ 1
unfolding action_width
taken-width j h = rw (lt-ltb j 7 (omega arith)) refl

pub sent-width : (j : ℕ) → action_width (7 + j) ≡ 2
unfolding action_width
sent-width j = rw (le-ltb (7 + j) 7 (omega arith)) refl

module _ {text : List ℕ} {from : Standing} {scope : Scope} {cells bodies : List ℕ} (ready : Ready text from scope cells bodies)
    (p q : List ℕ → Parse) where
  -- ---- behind an action

  module _ (at j : ℕ) (behind : at ≡ from.at + action_width j) (small : at ≤ length text) where
    pub behind-bare : (slice_get text at ≡ Some 46 → ⊥) → {to : Standing} {cells' : List ℕ} → CellPut cells (onward from at 0) j 0 0 to cells'
        → ReadAs text from scope cells bodies (acted p q j (drop at text)) to cells' bodies
    behind-bare n put = reads (bare j) (drop at text) (acted-bare text at p q j n) (part-bare ready at j behind small put)

    module _ (dot : slice_get text at ≡ Some 46) {inner : Scope} (i : inner ≡ prefixed_scope scope) where
      pub behind-ready : Ready text (onward from (at + 1) 0) inner cells bodies
      behind-ready =
          let h = here text at dot in
          subst⁻¹ (λ (s : Scope). Ready text (onward from (at + 1) 0) s cells bodies) i
          (ready-prefixed ready (at + 1) (omega arith) (omega arith))

      module _ {part : Standing} {cells' bodies' : List ℕ}
          (h : ReadAs text (onward from (at + 1) 0) inner cells bodies (p (drop (at + 1) text)) part cells' bodies') where
        behind-part : ReadAs text (onward from (at + 1) 0) (prefixed_scope scope) cells bodies (p (drop (at + 1) text)) part cells' bodies'
        behind-part =
            subst (λ (s : Scope). ReadAs text (onward from (at + 1) 0) s cells bodies (p (drop (at + 1) text)) part cells' bodies') i h

        pub behind-fails : part.ok ≡ false → ReadAs text from scope cells bodies (acted p q j (drop at text)) part cells' bodies'
        behind-fails bad =
            let w = failing behind-part bad in
            fails w.0 (acted-dot text at p q j dot ∙ then-fails _ w.1) w.2 (cells_stay h) (bodies_stay h)

        module _ (ok : part.ok ≡ true) where
          pub behind-room : part.places < 256
          behind-room = let w = reading behind-part ok in dotted-room ready at j behind small w.3

          pub behind-reads : {to : Standing} {cells'' : List ℕ} → CellPut cells' part j part.link 0 to cells''
              → ReadAs text from scope cells bodies (acted p q j (drop at text)) to cells'' bodies'
          behind-reads put =
              let w = reading behind-part ok in
              reads (dotted j w.0) w.1 (acted-dot text at p q j dot ∙ then-goes _ w.2) (part-dotted ready at j behind small w.3 put)

  -- ---- in brackets

  module _ {part : Standing} {cells' bodies' : List ℕ}
      (h : ReadAs text (onward from (from.at + 1) 0) scope cells bodies (q (drop (from.at + 1) text)) part cells' bodies') where
    pub bracket-none : part.ok ≡ false → ReadAs text from scope cells bodies (bracketed p q (drop (from.at + 1) text)) part cells' bodies'
    bracket-none bad =
        let w = failing h bad in
        fails w.0 (bracket-fails p q (drop (from.at + 1) text) w.1) w.2 (cells_stay h) (bodies_stay h)

    module _ (ok : part.ok ≡ true) where
      pub bracket-inside : part.at ≤ length text
      bracket-inside = let w = reading h ok in w.3.inside

      pub bracket-open : (slice_get text part.at ≡ Some 41 → ⊥) → {to : Standing} → (to.ok ≡ false) × (to.at ≡ part.at)
          → ReadAs text from scope cells bodies (bracketed p q (drop (from.at + 1) text)) to cells' bodies'
      bracket-open n k =
          let w = reading h ok in
          fails (drop part.at text) (bracket-stops p q (drop (from.at + 1) text) w.2 text part.at w.3.left n)
          (stopped-at part.at k w.3.inside) (cells_stay h) (bodies_stay h)

      pub bracket-closed : slice_get text part.at ≡ Some 41
          → ReadAs text from scope cells bodies (bracketed p q (drop (from.at + 1) text)) (onward part (part.at + 1) part.link) cells' bodies'
      bracket-closed is =
          let w = reading h ok in
          reads (bracket w.0) (drop (part.at + 1) text) (bracket-ends p q (drop (from.at + 1) text) w.2 text part.at w.3.left is)
          (part-bracket ready w.3 (here text part.at is))

  -- ---- in a rec

  pub rec-stops : {stop : ℕ} → RecStops text from.at stop → {to : Standing} → (to.ok ≡ false) × (to.at ≡ stop)
      → ReadAs text from scope cells bodies (expects (101 ∷ 99 ∷ []) (looped p q) (drop (from.at + 1) text)) to cells bodies
  rec-stops {stop} h k = fails (drop stop text) (h.stops p q) (stopped-at stop k h.inside) ready.cells_room ready.bodies_room

  module _ {v : ℕ} (head : RecRead text from.at v) {inner : Scope} (known : InRec scope v from.recs inner)
      {part : Standing} {cells' bodies' : List ℕ}
      (h : ReadAs text (with_rec from (from.at + 5)) inner cells bodies (p (drop (from.at + 5) text)) part cells' bodies') where
    pub rec-fails : part.ok ≡ false
        → ReadAs text from scope cells bodies (expects (101 ∷ 99 ∷ []) (looped p q) (drop (from.at + 1) text)) part cells' bodies'
    rec-fails bad =
        let w = failing h bad in
        fails w.0 (head.goes p q ∙ then-fails _ w.1) w.2 (cells_stay h) (bodies_stay h)

    pub rec-reads : part.ok ≡ true
        → ReadAs text from scope cells bodies (expects (101 ∷ 99 ∷ []) (looped p q) (drop (from.at + 1) text)) part cells'
        (set bodies' from.recs part.link)
    rec-reads ok =
        let w = reading h ok in
        reads (bound v w.0) w.1 (head.goes p q ∙ then-goes _ w.2) (part-bound ready v known w.3)
