-- Bytes written piece by piece into what is lent: what is done and what is left are together the whole, so there is room for the next
-- piece, and with nothing left the whole stands at the front.
-- Assumes nothing.
use mathlib.Core.Path.{◌≡◌, refl, sym, ap, subst, subst⁻¹, ◌∙◌}
use mathlib.Core.Bool.{Bool, true, false, cond}
use mathlib.Core.List.{List, [], ◌∷◌, ◌++◌, append_assoc, append-nil}
use Prim.Native.Nat.{ℕ, ◌+◌, ◌≤◌}
use native.Mathlib.Omega.{arith}
use lib.ListN.{length, length-append}
use Rattle.model.specs.Bytes.{le16}
use Rattle.model.proofs.PlanBytes.{length-16}
use Rattle.walks.proofs.Rest.{rest_of, with_rest}
use Rattle.little_endian.specs.Front.{front, Wrote}
use Rattle.little_endian.proofs.Writing.{wrote_none, wrote-length, wrote_then, rest-length}

-- ---- a piece

-- a 16-bit number is written
pub wrote-word : (x : ℕ) {ys zs : List ℕ} → zs ≡ front (le16 x) ys → Wrote (le16 x) 2 ys zs
wrote-word x e = record { size_is = sym (length-16 x); in_front = e }

-- a byte that is wanted is written; one that is not makes no piece
module _ (x : ℕ) {t : Bool} where
  pub wanted_room : {n : ℕ} → t ≡ true → length (cond t (x ∷ []) []) ≤ n → 1 ≤ n
  wanted_room {n} e h = subst (λ (t : Bool). length (cond t (x ∷ []) []) ≤ n) e h

  pub wrote-wanted : {ys zs : List ℕ} → t ≡ true → zs ≡ front (x ∷ []) ys → Wrote (cond t (x ∷ []) []) 1 ys zs
  wrote-wanted {ys} {zs} e f = subst⁻¹ (λ (t : Bool). Wrote (cond t (x ∷ []) []) 1 ys zs) e (record { size_is = refl; in_front = f })

  pub wrote-unwanted : (ys : List ℕ) → t ≡ false → Wrote (cond t (x ∷ []) []) 0 ys ys
  wrote-unwanted ys e = subst⁻¹ (λ (t : Bool). Wrote (cond t (x ∷ []) []) 0 ys ys) e (wrote_none ys)

-- ---- piece by piece

-- of the whole, all but the rest is written, up to the place `at`; `first` is what was lent, with room for the whole
pub record Writing (whole rest : List ℕ) (at : ℕ) (first out : List ℕ) : Type 0 where
  pub done : List ℕ
  pub all : done ++ rest ≡ whole
  pub wrote : Wrote done at first out
  pub fits : length whole ≤ length first

-- what is left is a piece, and what is left behind it
pub record Next (rest piece later : List ℕ) : Type 0 where
  pub is : rest ≡ piece ++ later

-- nothing is written yet
pub writing-begun : {whole rest first : List ℕ} → rest ≡ whole → length whole ≤ length first → Writing whole rest 0 first first
writing-begun {first = first} e h = record { done = []; all = e; wrote = wrote_none first; fits = h }

module _ {whole rest : List ℕ} {at : ℕ} {first out : List ℕ} (on : Writing whole rest at first out) where
  -- where the next piece is put
  writing-place : at + length rest ≡ length whole
  writing-place = omega (arith, on.wrote.size_is, ap length on.all, length-append on.done rest)

  -- as much is lent as ever
  pub writing-length : length out ≡ length first
  writing-length = wrote-length on.wrote (omega (arith, writing-place, on.wrote.size_is, on.fits))

  -- there is room for what is left
  pub writing-room : at + length rest ≤ length out
  writing-room = omega (arith, writing-place, writing-length, on.fits)

  -- nothing is left
  pub writing-ends : rest ≡ [] → Wrote whole at first out
  writing-ends e =
      let done : on.done ≡ whole = sym (append-nil on.done) ∙ ap (λ (r : List ℕ). on.done ++ r) (sym e) ∙ on.all in
      record {
        size_is = on.wrote.size_is ∙ ap length done;
        in_front = on.wrote.in_front ∙ ap (λ (b : List ℕ). front b first) done;
      }

  -- the place, said in another way
  pub writing-at : {at' : ℕ} → at ≡ at' → Writing whole rest at' first out
  writing-at e = subst (λ (a : ℕ). Writing whole rest a first out) e on

  module _ {piece later : List ℕ} (next : Next rest piece later) where
    -- there is room for the next piece in what was lent
    pub piece-fits : at + length piece ≤ length first
    piece-fits = omega (arith, writing-place, on.fits, ap length next.is, length-append piece later)

    -- and in the rest of it
    pub piece-room : length piece ≤ length (rest_of at out)
    piece-room = omega (arith, piece-fits, writing-length, rest-length out at)

    -- the next piece is written
    pub writing_more : {r : ℕ} {zs : List ℕ} → Wrote piece r (rest_of at out) zs → Writing whole later (at + r) first (with_rest at out zs)
    writing_more w =
        record {
          done = on.done ++ piece;
          all = append_assoc on.done piece later ∙ ap (λ (r : List ℕ). on.done ++ r) (sym next.is) ∙ on.all;
          wrote = wrote_then on.wrote w refl piece-fits;
          fits = on.fits;
        }
