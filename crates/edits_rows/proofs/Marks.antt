-- The codes of a row gathered in masks, one after the other: a code of the row is marked, or it stands further on. At the end the marked
-- codes are those of the row, as both ascend.
-- Assumes nothing.
use mathlib.Core.Path.{◌≡◌, refl, sym, ap, subst, ◌∙◌}
use mathlib.Core.Bool.{Bool, true, false, ◌||◌}
use mathlib.Core.List.{List, ◌∷◌, Memᴰ}
use Prim.Native.Nat.{ℕ, suc, ◌+◌, ◌≤◌, ◌<◌}
use native.Mathlib.Omega.{arith}
use native.Mathlib.Numerals.{add-one}
use lib.Dec.{T, eqb}
use lib.ListN.{length, get_or, drop, drop_of_length-le}
use lib.Seq.{drop-cons}
use Rattle.model.specs.Lists.{any, keep, Ascending}
use Rattle.model.specs.Situation.{Kind, straight, client, service, stray, kind_of, codes}
use Rattle.model.specs.Test.{listed}
use Rattle.model.proofs.Lists.{keep-intro, keep-elim}
use Rattle.model.proofs.Masks.{has-none}
use Rattle.model.proofs.Ordered.{Within, codes-ascend, keep-ascends, ascending-same}
use Rattle.model.proofs.Test.{listed-intro, listed-elim}
use Rattle.moves.specs.declared.Present.{Present}
use Rattle.moves.specs.Present.{present_by, codes_of}
use Rattle.edits_rows.specs.Rows.{WithCode}

-- the list has so many elements, and a code of it is marked or stands from place i on
pub record Marked (A : List ℕ) (count : ℕ) (present : Present) (i : ℕ) : Type 0 where
  pub number : count ≡ length A
  pub each : (c : ℕ) → Memᴰ c codes → listed A c ≡ (listed (drop i A) c || present_by present (kind_of c))

none-marked : (kind : Kind) → present_by (record { straight = 0; client = 0; service = 0 }) kind ≡ false
unfolding present_by
none-marked (straight j) = has-none j
none-marked (client j) = has-none j
none-marked (service j) = has-none j
none-marked stray = refl

pub marked-begin : {A : List ℕ} {count : ℕ} → count ≡ length A → Marked A count (record { straight = 0; client = 0; service = 0 }) 0
marked-begin {A} e = record { number = e; each = λ c m. rw (none-marked (kind_of c)) (or-none (listed A c)) }
  where
    or-none : (t : Bool) → t ≡ (t || false)
    or-none true = refl
    or-none false = refl

swap : (a l p : Bool) → ((a || l) || p) ≡ (l || (a || p))
swap true true p = refl
swap true false p = refl
swap false l p = refl

module _ {A : List ℕ} {count : ℕ} {present : Present} {i : ℕ} (v : Marked A count present i) where
  -- the code at place i is marked too
  pub marked_more : {code : ℕ} {next : Present} → i < count → code ≡ get_or A i 0 → WithCode present code next → Marked A count next (i + 1)
  unfolding listed any
  marked_more {code} {next} h at w = rw (add-one i) (record { number = v.number; each = each })
    where
      here : drop i A ≡ code ∷ drop (suc i) A
      here = drop-cons A i 0 (omega (arith, v.number)) ∙ ap (λ (c : ℕ). c ∷ drop (suc i) A) (sym at)

      each : (c : ℕ) → Memᴰ c codes → listed A c ≡ (listed (drop (suc i) A) c || present_by next (kind_of c))
      each c m =
          v.each c m
          ∙ ap (λ (l : List ℕ). listed l c || present_by present (kind_of c)) here
          ∙ swap (eqb c code) (listed (drop (suc i) A) c) (present_by present (kind_of c))
          ∙ ap (λ (t : Bool). listed (drop (suc i) A) c || t) (sym (w.each c m))

  -- past the last place
  all-marked : count ≤ i → (c : ℕ) → Memᴰ c codes → listed A c ≡ present_by present (kind_of c)
  unfolding listed any
  all-marked h c m =
      let past : length A ≤ i = omega (arith, v.number) in
      v.each c m ∙ ap (λ (l : List ℕ). listed l c || present_by present (kind_of c)) (drop_of_length-le A past)

  pub marked-ended : count ≤ i → Ascending 0 A → Within A codes → codes_of present ≡ A
  unfolding codes_of
  marked-ended h rises among =
      ascending-same 0 0 (keep marked codes) A (keep-ascends marked 0 codes codes-ascend) rises
      (λ z m. let w = keep-elim marked z codes m in listed-elim A z (subst T (sym (all-marked h z w.0)) w.1))
      (λ z m. keep-intro marked (among z m) (subst T (all-marked h z (among z m)) (listed-intro m)))
    where
      marked : ℕ → Bool
      marked code = present_by present (kind_of code)
