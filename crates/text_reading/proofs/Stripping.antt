-- Dropping the blanks of a text byte by byte, and finding where a byte stood.
-- Assumes nothing.
use mathlib.Core.Path.{◌≡◌, refl, sym, ap, ◌∙◌}
use mathlib.Core.Bool.{Bool, true, false, not, cond}
use mathlib.Core.List.{List, [], ◌∷◌, ◌++◌, append-nil}
use Prim.Native.Nat.{ℕ, zero, suc, ◌+◌, ◌-◌, ◌≤◌, ◌<◌}
use native.Mathlib.Omega.{arith}
use native.Mathlib.Numerals.{add-one}
use lib.ListN.{length, get_or, set, take, drop, length-append, drop_of_length-le}
use lib.Seq.{take-suc, take-suc-set, take_all, drop-cons}
use borrow.Author.Tests.{eq-eqb, ne_eqb}
use Rattle.model.specs.Lists.{keep}
use Rattle.text.specs.Convert.{is_blank, dropped, place_of_byte}

-- ---- dropping

one-blank : (b : ℕ) → b ≡ 32 → dropped (b ∷ []) ≡ []
unfolding dropped keep is_blank
one-blank b e = rw (eq-eqb b 32 e) refl

one_byte : (b : ℕ) → (b ≡ 32 → ⊥) → dropped (b ∷ []) ≡ b ∷ []
unfolding dropped keep is_blank
one_byte b n = rw (ne_eqb b 32 n) refl

keep_append : (f : ℕ → Bool) (s t : List ℕ) → keep f (s ++ t) ≡ keep f s ++ keep f t
unfolding keep
keep_append f [] t = refl
keep_append f (x ∷ s) t = go (f x) (keep_append f s t)
  where
    go : (b : Bool) → keep f (s ++ t) ≡ keep f s ++ keep f t
        → cond b (x ∷ keep f (s ++ t)) (keep f (s ++ t)) ≡ cond b (x ∷ keep f s) (keep f s) ++ keep f t
    go true e = ap (λ l. x ∷ l) e
    go false e = e

dropped-more : (text : List ℕ) (i : ℕ) → i < length text
    → dropped (take (i + 1) text) ≡ dropped (take i text) ++ dropped (get_or text i 0 ∷ [])
unfolding dropped
dropped-more text i h =
    ap (λ (k : ℕ). dropped (take k text)) (add-one i) ∙ ap dropped (take-suc text i 0 h)
    ∙ keep_append (λ b. not (is_blank b)) (take i text) (get_or text i 0 ∷ [])

-- a byte is put behind the others, unless it is a blank
pub blank-left : (out : List ℕ) (n b : ℕ) → b ≡ 32
    → (take n out ≡ take n out ++ dropped (b ∷ [])) × (n ≡ n + length (dropped (b ∷ [])))
blank-left out n b e =
    let d = one-blank b e in
    (sym (ap (λ l. take n out ++ l) d ∙ append-nil (take n out)), omega (arith, ap length d))

pub byte-kept : (out : List ℕ) (n b : ℕ) → n < length out → (b ≡ 32 → ⊥)
    → (take (n + 1) (set out n b) ≡ take n out ++ dropped (b ∷ [])) × (n + 1 ≡ n + length (dropped (b ∷ [])))
byte-kept out n b h k =
    let d = one_byte b k in (
      ap (λ (m : ℕ). take m (set out n b)) (add-one n) ∙ take-suc-set out n b h ∙ ap (λ l. take n out ++ l) (sym d),
      omega (arith, ap length d),
    )

-- The first i bytes are dropped to the first `count` of `out`.
pub record Stripped (text out : List ℕ) (count i : ℕ) : Type 0 where
  pub inside : i ≤ length text
  pub few : count ≤ i
  pub room : length out ≡ 256
  pub so_far : take count out ≡ dropped (take i text)
  pub many : count ≡ length (dropped (take i text))

pub none-stripped : (text out : List ℕ) → length out ≡ 256 → Stripped text out 0 0
unfolding dropped keep
none-stripped text out h = record { inside = omega arith; few = omega arith; room = h; so_far = refl; many = refl }

one_at_most : (b : ℕ) → length (dropped (b ∷ [])) ≤ 1
unfolding dropped keep
one_at_most b = go (not (is_blank b))
  where
    go : (t : Bool) → length (cond t (b ∷ []) []) ≤ 1
    go true = omega arith
    go false = omega arith

pub more-stripped : {text out out' : List ℕ} {count i r : ℕ} → Stripped text out count i → i < length text → length out' ≡ length out
    → (take r out' ≡ take count out ++ dropped (get_or text i 0 ∷ [])) × (r ≡ count + length (dropped (get_or text i 0 ∷ [])))
    → Stripped text out' r (i + 1)
more-stripped {text} {out} {out'} {count} {i} {r} s h same put =
    let d = dropped-more text i h in
    record {
      inside = omega arith;
      few = omega (arith, s.few, put.1, one_at_most (get_or text i 0));
      room = same ∙ s.room;
      so_far = put.0 ∙ ap (λ l. l ++ dropped (get_or text i 0 ∷ [])) s.so_far ∙ sym d;
      many = omega (arith, s.many, put.1, ap length d, length-append (dropped (take i text)) (dropped (get_or text i 0 ∷ [])));
    }

pub all-stripped : {text out : List ℕ} {count i : ℕ} → Stripped text out count i → length text ≤ i
    → (take count out ≡ dropped text) × (count ≡ length (dropped text))
all-stripped {text} {i = i} s h =
    let whole = take_all i text h in
    (s.so_far ∙ ap dropped whole, s.many ∙ ap (λ l. length (dropped l)) whole)

-- ---- where a byte stood

place-blank : (b : ℕ) (s : List ℕ) (i : ℕ) → b ≡ 32 → place_of_byte (b ∷ s) i ≡ suc (place_of_byte s i)
unfolding place_of_byte is_blank
place-blank b s zero e = rw (eq-eqb b 32 e) refl
place-blank b s (suc i) e = rw (eq-eqb b 32 e) refl

place_here : (b : ℕ) (s : List ℕ) (i : ℕ) → (b ≡ 32 → ⊥) → i ≡ 0 → place_of_byte (b ∷ s) i ≡ 0
unfolding place_of_byte is_blank
place_here b s zero n e = rw (ne_eqb b 32 n) refl
place_here b s (suc i) n e = absurd (omega arith)

place-later : (b : ℕ) (s : List ℕ) (i : ℕ) → (b ≡ 32 → ⊥) → (i ≡ 0 → ⊥) → place_of_byte (b ∷ s) i ≡ suc (place_of_byte s (i - 1))
unfolding place_of_byte is_blank
place-later b s zero n e = absurd (e refl)
place-later b s (suc i) n e = let same : suc i - 1 ≡ i = omega arith in rw (ne_eqb b 32 n, same) refl

-- The byte stands so many further on.
pub record Seeking (text : List ℕ) (i left at : ℕ) : Type 0 where
  pub inside : at ≤ length text
  pub same : place_of_byte text i ≡ at + place_of_byte (drop at text) left

pub seeking-begins : (text : List ℕ) (i : ℕ) → Seeking text i i 0
seeking-begins text i = record { inside = omega arith; same = omega arith }

pub seeking-ends : {text : List ℕ} {i left at : ℕ} → Seeking text i left at → length text ≤ at → at ≡ place_of_byte text i
unfolding place_of_byte
seeking-ends {text} {i} {left} {at} s h =
    let e : place_of_byte (drop at text) left ≡ 0 = ap (λ l. place_of_byte l left) (drop_of_length-le text h) in
    omega (arith, s.same, e)

module _ {text : List ℕ} {i left at : ℕ} (s : Seeking text i left at) (h : at < length text) where
  next_one : place_of_byte (drop at text) left ≡ place_of_byte (get_or text at 0 ∷ drop (at + 1) text) left
  next_one =
      ap (λ l. place_of_byte l left) (drop-cons text at 0 h)
      ∙ ap (λ (k : ℕ). place_of_byte (get_or text at 0 ∷ drop k text) left) (sym (add-one at))

  pub seeking-blank : get_or text at 0 ≡ 32 → Seeking text i left (at + 1)
  seeking-blank e =
      let n = next_one ∙ place-blank (get_or text at 0) (drop (at + 1) text) left e in
      record { inside = omega arith; same = omega (arith, s.same, n) }

  pub seeking-found : (get_or text at 0 ≡ 32 → ⊥) → left ≡ 0 → at ≡ place_of_byte text i
  seeking-found k e = let n = next_one ∙ place_here (get_or text at 0) (drop (at + 1) text) left k e in omega (arith, s.same, n)

  pub seeking-on : (get_or text at 0 ≡ 32 → ⊥) → (left ≡ 0 → ⊥) → Seeking text i (left - 1) (at + 1)
  seeking-on k e =
      let n = next_one ∙ place-later (get_or text at 0) (drop (at + 1) text) left k e in
      record { inside = omega arith; same = omega (arith, s.same, n) }
