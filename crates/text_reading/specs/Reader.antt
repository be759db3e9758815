-- A reader, and what its functions leave in it.
-- Assumes nothing.
use Rattle.std.specs.Prelude.{◌≡◌, true, false, List, [], ◌∷◌, ℕ, ◌+◌, ◌-◌, ◌≤◌, ◌<◌, length, drop, slice_get, Some, Result, Ok, Err, MatchResult}
use Rattle.std.proofs.Math.Option.{none}
use Rattle.text.specs.Grammar.{bound}
use Rattle.text.specs.Parser.{Parse, failed, parsed, and_then, expects, looped}
use Rattle.text.specs.Convert.{action_width}
use Rattle.text_reading.specs.declared.Reader.{Reader}
use Rattle.text_reading.specs.declared.Scope.{Scope}
use Rattle.text_reading.specs.declared.Stopped as S
use Rattle.text_reading.specs.Reading.{Standing, fault_in, CellPut, Ready, ReadAs}

-- ---- where reading stands

-- with a link to what was read
abbrev pub standing : Reader → ℕ → Standing
standing reader link =
    record {
      ok = true;
      at = reader.at;
      link = link;
      places = reader.places;
      recs = reader.recs;
      wrong = fault_in reader.wrong;
    }

-- where it stood before an action that ends here
abbrev pub before : ℕ → Reader → Standing
before action reader =
    record {
      ok = true;
      at = reader.at - action_width action;
      link = 0;
      places = reader.places;
      recs = reader.recs;
      wrong = fault_in reader.wrong;
    }

-- where it stands by an answer
abbrev pub left_in : Reader → Result ℕ S.Stopped → Standing
left_in reader (Ok link) = standing reader link
left_in reader (Err stopped) = record { ok = false; at = stopped.at; link = 0; places = 0; recs = 0; wrong = none }

-- in the text, which is short
abbrev pub InText : Reader → Type 0
InText reader = (reader.at ≤ length reader.text.now) × (length reader.text.now ≤ 256)

-- ---- single steps

-- One of the bytes from `low` to `high`, the one with number n among them.
pub record ByteIn (text : List ℕ) (at low high n : ℕ) : Type 0 where
  pub is : slice_get text at ≡ Some (low + n)
  pub within : low + n ≤ high

-- No byte from `low` to `high` stands there.
abbrev pub NoneIn : (text : List ℕ) (at low high : ℕ) → Type 0
NoneIn text at low high = (b : ℕ) → slice_get text at ≡ Some b → low ≤ b → b ≤ high → ⊥

-- Behind the r of a rec come ec, a variable and a dot.
pub record RecRead (text : List ℕ) (at v : ℕ) : Type 0 where
  pub small : v < 3
  pub inside : at + 5 ≤ length text
  pub goes : (p q : List ℕ → Parse) → expects (101 ∷ 99 ∷ []) (looped p q) (drop (at + 1) text)
      ≡ and_then (p (drop (at + 5) text)) (λ t s. parsed (bound v t) s)

-- They do not: no derivation can go on at one of these bytes.
pub record RecStops (text : List ℕ) (at stop : ℕ) : Type 0 where
  pub inside : stop ≤ length text
  pub stops : (p q : List ℕ → Parse) → expects (101 ∷ 99 ∷ []) (looped p q) (drop (at + 1) text) ≡ failed (drop stop text)

-- What comes behind the r of a rec, by an answer.
abbrev pub RecHead : (text : List ℕ) → ℕ → Result ℕ S.Stopped → Type 0
RecHead text at answer = MatchResult answer (RecRead text at) (λ stopped. RecStops text at stopped.at)

-- ---- parts

-- The text and the tables are those that the reader had.
abbrev pub SameTables : Reader → Reader → Type 0
SameTables old new =
    (new.text ≡ old.text) × (new.cells.ghost_name ≡ old.cells.ghost_name) × (new.bodies.ghost_name ≡ old.bodies.ghost_name)

-- A cell was put behind the others, with nothing else changed.
pub record Put (old : Reader) (kind left right link : ℕ) (new : Reader) : Type 0 where
  pub same : SameTables old new
  pub bodies_stay : new.bodies.now ≡ old.bodies.now
  pub put : (last : ℕ) → CellPut old.cells.now (standing old last) kind left right (standing new link) new.cells.now

-- What holds where reading begins.
abbrev pub IsReady : Reader → Standing → Scope → Type 0
IsReady reader from scope = Ready reader.text.now from scope reader.cells.now reader.bodies.now

-- What the reader leaves for what one of its definitions gives.
pub record Leaves (old : Reader) (from : Standing) (scope : Scope) (p : Parse) (answer : Result ℕ S.Stopped) (new : Reader) : Type 0 where
  pub same : SameTables old new
  pub left : ReadAs old.text.now from scope old.cells.now old.bodies.now p (left_in new answer) new.cells.now new.bodies.now
