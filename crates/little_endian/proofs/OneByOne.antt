-- The numbers of a list written one behind the other at the front of what is lent, all of them or some at most.
-- Assumes nothing.
use mathlib.Core.Path.{◌≡◌, refl, sym, ap, ◌∙◌}
use mathlib.Core.List.{List, [], ◌∷◌, ◌++◌, append-nil}
use Prim.Native.Nat.{ℕ, suc, ◌+◌, ◌-◌, ◌≤◌, ◌<◌, min}
use native.Mathlib.Omega.{arith}
use lib.ListN.{length, get_or, take, drop, set, length-append, length-take, length-drop}
use lib.Seq.{drop-cons, append_snoc, set-append_seam, take_at, take_all}
use borrow.Rule.Slice.PartMut.{mid_of}
use Rattle.little_endian.specs.Front.{front}
use Rattle.little_endian.proofs.Front.{length_front}

-- one number more behind those at the front
front-more : (w xs : List ℕ) (m : ℕ) → length w < length xs → set (front w xs) (length w) m ≡ front (w ++ m ∷ []) xs
unfolding front
front-more w xs m h =
    let longer : length (w ++ m ∷ []) ≡ suc (length w) = omega (arith, length-append w (m ∷ [])) in
    ap (λ (k : List ℕ). set (w ++ k) (length w) m) (drop-cons xs (length w) 0 h)
    ∙ set-append_seam w (get_or xs (length w) 0) (drop (suc (length w)) xs) m
    ∙ rw (longer, append_snoc)

-- the first n of some numbers stand at the front of what was lent, and the others are left
pub record Writing (numbers lent out : List ℕ) (n : ℕ) (left : List ℕ) : Type 0 where
  pub done : List ℕ
  pub whole : numbers ≡ done ++ left
  pub many : length done ≡ n
  pub written : out ≡ front done lent

-- `most` of some numbers stand there, or all if they are fewer; r says how many there are, up to one more
abbrev pub Most : (most : ℕ) (numbers lent out : List ℕ) (r : ℕ) → Type 0
Most most numbers lent out r = (r ≡ min (most + 1) (length numbers)) × (out ≡ front (take most numbers) lent)

pub most-length : (most : ℕ) (numbers lent : List ℕ) {out : List ℕ} {r : ℕ} → Most most numbers lent out r → most ≤ length lent
    → length out ≡ length lent
most-length most numbers lent is h =
    ap length is.1 ∙ length_front (take most numbers) lent (omega (arith, length-take most numbers))

pub writing-none : (numbers lent : List ℕ) {left : List ℕ} → left ≡ numbers → Writing numbers lent lent 0 left
unfolding front
writing-none numbers lent e = record { done = []; whole = sym e; many = refl; written = refl }

module _ {numbers lent out : List ℕ} {n : ℕ} {left : List ℕ} (is : Writing numbers lent out n left) where
  pub writing-length : n ≤ length lent → length out ≡ length lent
  writing-length h = ap length is.written ∙ length_front is.done lent (omega (arith, is.many))

  -- what is lent on from place n on
  pub rest-room : (room : ℕ) → n + room ≤ length lent → room ≤ length (mid_of n (length out - n) out)
  rest-room room h = let long = writing-length (omega arith) in simp (length-take, length-drop) (omega arith)

  pub writing-many : length numbers ≡ n + length left
  writing-many = omega (arith, ap length is.whole, length-append is.done left, is.many)

  -- nothing more was written
  pub writing-same : {out' : List ℕ} {n' : ℕ} {others : List ℕ} → out' ≡ out → n' ≡ n → left ≡ others → Writing numbers lent out' n' others
  writing-same o k e = record {
    done = is.done;
    whole = is.whole ∙ ap (λ (l : List ℕ). is.done ++ l) e;
    many = is.many ∙ sym k;
    written = o ∙ is.written;
  }

  -- the first that was left
  pub writing_more : n < length lent → {out' : List ℕ} {n' m : ℕ} {others : List ℕ} → out' ≡ set out n m → n' ≡ n + 1 → left ≡ m ∷ others
      → Writing numbers lent out' n' others
  writing_more h {m = m} {others = others} o k e = record {
    done = is.done ++ m ∷ [];
    whole = is.whole ∙ ap (λ (l : List ℕ). is.done ++ l) e ∙ sym (append_snoc is.done m others);
    many = omega (arith, length-append is.done (m ∷ []), is.many);
    written = o ∙ rw (is.written, ← is.many) (front-more is.done lent m (omega (arith, is.many)));
  }

  -- none is left
  module _ (e : left ≡ []) where
    done_all : is.done ≡ numbers
    done_all = sym (is.whole ∙ ap (λ (l : List ℕ). is.done ++ l) e ∙ append-nil is.done)

    pub writing-all : take n out ≡ numbers
    unfolding front
    writing-all = ap (take n) is.written ∙ take_at is.done _ n is.many ∙ done_all

    -- and they are not too many
    pub writing-end : (most : ℕ) → n ≤ most → Most most numbers lent out n
    writing-end most h =
        let long = writing-many in
        let few : length numbers ≤ most = omega (arith, ap length e) in (
          omega (arith, ap length e),
          is.written ∙ ap (λ (w : List ℕ). front w lent) (done_all ∙ sym (take_all most numbers few)),
        )

  -- one more is left, and no room
  pub writing-over : (most r : ℕ) {m : ℕ} {others : List ℕ} → n ≡ most → r ≡ most + 1 → left ≡ m ∷ others → Most most numbers lent out r
  writing-over most r h k e = (
    omega (arith, k, writing-many, ap length e),
    is.written ∙ ap (λ (w : List ℕ). front w lent) (sym (ap (take most) is.whole ∙ take_at is.done left most (is.many ∙ h))),
  )
