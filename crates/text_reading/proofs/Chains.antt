-- Chains of + and of (+): what was read so far, and what the definition gives from there on.
-- Assumes nothing.
use mathlib.Core.Path.{◌≡◌, refl, ap, ◌∙◌}
use mathlib.Core.Option.{none, some}
use mathlib.Core.List.{List, [], ◌∷◌}
use Prim.Native.Nat.{ℕ, zero, suc, ◌+◌, ◌-◌, ◌≤◌, ◌<◌}
use native.Mathlib.Omega.{arith}
use lib.ListN.{length, drop}
use Rattle.std.specs.Prelude.{slice_get, Some}
use Rattle.text.specs.Grammar.{Tree}
use Rattle.text.specs.Parser.{Parse, failed, parsed, and_then, choose, after, expects, chain}
use Rattle.text_reading.specs.declared.Scope.{Scope}
use Rattle.text_reading.specs.Reading.{Standing, onward, CellPut, Ready, Stopped, PartRead, ReadAs, fails, reads}
use Rattle.text_reading.proofs.Bytes.{here, after_is, after-not}
use Rattle.text_reading.proofs.Steps.{then-fails, then-goes}
use Rattle.text_reading.proofs.Parts.{Choice, part-joined, joined-room, ready_on}

-- A part was read that can go on: the definition gives what the rest of the chain gives behind it, with enough items left for all bytes.
pub record Chained (first : ℕ) (more : List ℕ) (item : List ℕ → Parse) (join : Tree → Tree → Tree) (text : List ℕ) (from : Standing)
    (scope : Scope) (cells bodies : List ℕ) (all : Parse) (part : Standing) (cells' bodies' : List ℕ) : Type 0 where
  pub tree : Tree
  pub rest : List ℕ
  pub fuel : ℕ
  pub enough : length text ≤ fuel + part.at
  pub all-is : all ≡ chain first more item join fuel tree rest
  pub read : PartRead text from scope cells bodies tree rest part cells' bodies'
  pub ready : Ready text from scope cells bodies

module _ (first : ℕ) (more : List ℕ) (item : List ℕ → Parse) (join : Tree → Tree → Tree) where
  chain-end : (n : ℕ) (t : Tree) (s : List ℕ) → after first s ≡ none → chain first more item join n t s ≡ parsed t s
  unfolding chain choose
  chain-end zero t s e = refl
  chain-end (suc n) t s e = rw e refl

  chain-on : (n : ℕ) (t : Tree) (s r : List ℕ) → after first s ≡ some r → 1 ≤ n
      → chain first more item join n t s ≡ expects more (λ r. and_then (item r) (λ u r. chain first more item join (n - 1) (join t u) r)) r
  unfolding chain choose
  chain-on zero t s r e h = absurd (omega arith)
  chain-on (suc n) t s r e h = let same : suc n - 1 ≡ n = omega arith in rw (e, same) refl

  module _ {text : List ℕ} {from : Standing} {scope : Scope} {cells bodies : List ℕ} where
    -- the first item
    pub chain-begins : Ready text from scope cells bodies → {a : Parse} {t : Tree} {r : List ℕ} → a ≡ parsed t r
        → {part : Standing} {cells' bodies' : List ℕ} → PartRead text from scope cells bodies t r part cells' bodies'
        → Chained first more item join text from scope cells bodies
        (and_then a (chain first more item join (length text))) part cells' bodies'
    chain-begins ready {a} {t} {r} e part =
        record {
          tree = t;
          rest = r;
          fuel = length text;
          enough = omega arith;
          all-is = then-goes (chain first more item join (length text)) e;
          read = part;
          ready = ready;
        }

    module _ {all : Parse} {part : Standing} {cells' bodies' : List ℕ}
        (so : Chained first more item join text from scope cells bodies all part cells' bodies') where
      -- no further item
      pub chain-ends : (slice_get text part.at ≡ Some first → ⊥) → ReadAs text from scope cells bodies all part cells' bodies'
      chain-ends n =
          reads so.tree so.rest
          (so.all-is
          ∙ chain-end so.fuel so.tree so.rest (ap (after first) so.read.left ∙ after-not text part.at n))
          so.read

      -- the sign's first byte comes
      chain-sign : slice_get text part.at ≡ Some first
          → all ≡ expects more (λ r. and_then (item r) (λ u r. chain first more item join (so.fuel - 1) (join so.tree u) r))
          (drop (part.at + 1) text)
      chain-sign is =
          let h : part.at < length text = here text part.at is in
          so.all-is
          ∙ chain-on so.fuel so.tree so.rest (drop (part.at + 1) text)
          (ap (after first) so.read.left ∙ after_is text part.at is) (omega (arith, so.enough))

      -- where the next item begins
      pub chain-ready : (gap : ℕ) → part.at + gap ≤ length text → Ready text (onward part (part.at + gap) 0) scope cells' bodies'
      chain-ready gap h = ready_on so.ready so.read gap h

      module _ {gap : ℕ} (some-gap : 1 ≤ gap)
          (goes : all ≡ and_then (item (drop (part.at + gap) text))
          (λ u r. chain first more item join (so.fuel - 1) (join so.tree u) r)) where
        -- it cannot be read
        pub chain-fails : {r : List ℕ} → item (drop (part.at + gap) text) ≡ failed r → {next : Standing} → Stopped text r next
            → {cells'' bodies'' : List ℕ} → length cells'' ≡ 257 → length bodies'' ≡ 64
            → ReadAs text from scope cells bodies all next cells'' bodies''
        chain-fails {r} e stop c b = fails r (goes ∙ then-fails _ e) stop c b

        module _ {kind : ℕ} (choice : Choice join kind gap) {u : Tree} {s : List ℕ} (e : item (drop (part.at + gap) text) ≡ parsed u s)
            {next : Standing} {cells'' bodies'' : List ℕ}
            (second : PartRead text (onward part (part.at + gap) 0) scope cells' bodies' u s next cells'' bodies'') where
          pub chain_room : next.places < 256
          chain_room = joined-room choice so.ready so.read second some-gap

          module _ {to : Standing} {cells''' : List ℕ} (put : CellPut cells'' next kind part.link next.link to cells''') where
            -- it was read and joined
            pub chain-goes : Chained first more item join text from scope cells bodies all to cells''' bodies''
            chain-goes =
                let joined = part-joined choice so.ready so.read second some-gap put in
                record {
                  tree = join so.tree u;
                  rest = s;
                  fuel = so.fuel - 1;
                  enough = omega (arith, so.enough, so.read.at_is, joined.at_is, choice.width_is so.tree u);
                  all-is = goes ∙ then-goes _ e;
                  read = joined;
                  ready = so.ready;
                }

            pub chain-further : (part.at < to.at) × (to.at ≤ length text)
            chain-further =
                let joined = part-joined choice so.ready so.read second some-gap put in
                omega (arith, so.read.at_is, joined.at_is, choice.width_is so.tree u, joined.inside)

-- ---- +

module _ (item : List ℕ → Parse) (join : Tree → Tree → Tree) {text : List ℕ} {from : Standing} {scope : Scope} {cells bodies : List ℕ}
    {all : Parse} {part : Standing}
    {cells' bodies' : List ℕ} (so : Chained 43 [] item join text from scope cells bodies all part cells' bodies')
    (is : slice_get text part.at ≡ Some 43) where
  pub sum_goes : all ≡ and_then (item (drop (part.at + 1) text)) (λ u r. chain 43 [] item join (so.fuel - 1) (join so.tree u) r)
  unfolding expects
  sum_goes = chain-sign 43 [] item join so is

-- ---- (+)

module _ (item : List ℕ → Parse) (join : Tree → Tree → Tree) {text : List ℕ} {from : Standing} {scope : Scope} {cells bodies : List ℕ}
    {all : Parse} {part : Standing}
    {cells' bodies' : List ℕ} (so : Chained 40 (43 ∷ 41 ∷ []) item join text from scope cells bodies all part cells' bodies')
    (is : slice_get text part.at ≡ Some 40) where
  pub sign-one : (slice_get text (part.at + 1) ≡ Some 43 → ⊥) → all ≡ failed (drop (part.at + 1) text)
  unfolding expects choose
  sign-one n = chain-sign 40 (43 ∷ 41 ∷ []) item join so is ∙ rw (after-not text (part.at + 1) n) refl

  module _ (is1 : slice_get text (part.at + 1) ≡ Some 43) where
    pub sign-two : (slice_get text (part.at + 2) ≡ Some 41 → ⊥) → all ≡ failed (drop (part.at + 2) text)
    unfolding expects choose
    sign-two n =
        let same : part.at + 1 + 1 ≡ part.at + 2 = omega arith in
        chain-sign 40 (43 ∷ 41 ∷ []) item join so is
        ∙ rw (after_is text (part.at + 1) is1, same, after-not text (part.at + 2) n) refl

    pub choice-goes : slice_get text (part.at + 2) ≡ Some 41
        → all
        ≡ and_then (item (drop (part.at + 3) text)) (λ u r. chain 40 (43 ∷ 41 ∷ []) item join (so.fuel - 1) (join so.tree u) r)
    unfolding expects choose
    choice-goes is2 =
        let same : part.at + 1 + 1 ≡ part.at + 2 = omega arith in
        let same2 : part.at + 2 + 1 ≡ part.at + 3 = omega arith in
        chain-sign 40 (43 ∷ 41 ∷ []) item join so is
        ∙ rw (after_is text (part.at + 1) is1, same, after_is text (part.at + 2) is2, same2) refl
