-- The answers on rows under one count, case by case: a law for each way in which they are found or not. Each unfolds one step of the
-- definitions.
-- Assumes nothing.
use mathlib.Core.Path.{◌≡◌, refl, ap, ◌∙◌}
use mathlib.Core.List.{List, ◌∷◌}
use mathlib.Core.Option.{Option, none, some, map}
use Prim.Native.Nat.{ℕ, zero, suc, ◌+◌, ◌-◌, ◌^◌, ◌<◌, ◌≤◌}
use native.Mathlib.Omega.{arith}
use native.Mathlib.Numerals.{add-one, sub-one}
use lib.ListN.{length, get_or, take, drop, length-take, length-drop}
use lib.Seq.{get_or-take, get_or-drop}
use lib.Bits.{bit_or}
use borrow.Author.Tests.{lt-ltb, le-ltb, le-leb, lt-leb}
use Rattle.std.specs.Prelude.{Some, None}
use Rattle.model.specs.Bytes.{byte}
use Rattle.model.specs.Sheet.{Trailer}
use Rattle.choosing.specs.Read.{Part, targets_from, group_at}
use Rattle.nodes.specs.Sets.{unite_from, set_of}
use Rattle.choosing_rows.specs.Answers.{set_in, group_in}

-- one row more under a count
set-cons : (set behind x : ℕ) (o : Option (List ℕ))
    → set_in set behind (map (λ (l : List ℕ). x ∷ l) o) ≡ set_in (bit_or set (2 ^ x)) behind o
unfolding set_in unite_from
set-cons set behind x none = refl
set-cons set behind x (some l) = refl

-- the rows under a count as a whole
set-group : (behind : ℕ) (o : Option (List ℕ))
    → set_in 0 behind o ≡ group_in (map {B = Part (List ℕ)} (λ (l : List ℕ). record { value = l; behind = behind }) o)
unfolding set_in group_in set_of
set-group behind none = refl
set-group behind (some l) = refl

module _ (b : List ℕ) (t : Trailer) where
  -- ---- rows under one count
  module _ (set behind low i : ℕ) where
    pub targets-none : (left : ℕ) → left ≤ 0 → set_in set behind (targets_from b t left low i) ≡ Some (set, behind)
    unfolding targets_from set_in unite_from
    targets-none zero h = refl
    targets-none (suc left) h = absurd (omega arith)

    pub targets-low : (left : ℕ) → 0 < left → byte b i < low → set_in set behind (targets_from b t left low i) ≡ None
    unfolding targets_from set_in
    targets-low zero h l = absurd (omega arith)
    targets-low (suc left) h l = simp (lt-leb low (byte b i) l)

    pub targets-past : (left : ℕ) → 0 < left → low ≤ byte b i → t.count ≤ byte b i
        → set_in set behind (targets_from b t left low i) ≡ None
    unfolding targets_from set_in
    targets-past zero h l m = absurd (omega arith)
    targets-past (suc left) h l m = simp (le-leb low (byte b i) l, le-ltb (byte b i) t.count m)

    pub targets-more : (left : ℕ) → 0 < left → low ≤ byte b i → byte b i < t.count → {bit : ℕ} → bit ≡ 2 ^ byte b i
        → set_in set behind (targets_from b t left low i) ≡ set_in (bit_or set bit) behind (targets_from b t (left - 1) (byte b i + 1) (i + 1))
    unfolding targets_from
    targets-more zero h l m e = absurd (omega arith)
    targets-more (suc left) h l m e =
        rw (e, add-one (byte b i), sub-one (suc left))
        (simp (le-leb low (byte b i) l, lt-ltb (byte b i) t.count m)
        (set-cons set behind (byte b i) (targets_from b t left (suc (byte b i)) (i + 1))))

  -- row i of `count`, as it is lent from an offset on
  pub lent-row : (count at i : ℕ) → at + count ≤ length b → i < length (take (at + count - at) (drop at b))
      → (get_or (take (at + count - at) (drop at b)) i 0 ≡ byte b (at + i)) × (i < count)
  unfolding byte
  lent-row count at i fits h =
      let low : i < at + count - at = omega (arith, length-take (at + count - at) (drop at b)) in
      (get_or-take (at + count - at) (drop at b) i 0 low ∙ get_or-drop at b i 0, omega arith)

  pub lent-all : (count at i : ℕ) → at + count ≤ length b → length (take (at + count - at) (drop at b)) ≤ i → count - i ≤ 0
  lent-all count at i fits h = omega (arith, length-take (at + count - at) (drop at b), length-drop at b)

  pub targets-next : (set behind low count at i : ℕ) → i < count → (row : ℕ) → row ≡ byte b (at + i) → low ≤ row → row < t.count
      → {bit : ℕ} → bit ≡ 2 ^ row
      → set_in set behind (targets_from b t (count - i) low (at + i))
      ≡ set_in (bit_or set bit) behind (targets_from b t (count - (i + 1)) (row + 1) (at + (i + 1)))
  targets-next set behind low count at i h row is above below {bit} one =
      let left : count - i - 1 ≡ count - (i + 1) = omega arith in
      let next : at + i + 1 ≡ at + (i + 1) = omega arith in
      targets-more set behind low (at + i) (count - i) (omega arith) (omega (arith, is)) (omega (arith, is)) (one ∙ ap (λ (r : ℕ). 2 ^ r) is)
      ∙ rw (left, next, is) refl

  -- ---- a count with its rows
  module _ (i : ℕ) where
    abbrev end : ℕ
    end = i + 1 + byte b i

    pub group-none : t.index ≤ i → None ≡ group_in (group_at b t i)
    unfolding group_at group_in
    group-none h = simp (le-ltb i t.index h)

    module _ (h : i < t.index) where
      pub group-few : byte b i < 1 → None ≡ group_in (group_at b t i)
      unfolding group_at group_in
      group-few l = simp (lt-ltb i t.index h, lt-leb 1 (byte b i) l)

      module _ (l : 1 ≤ byte b i) where
        pub group-many : 8 < byte b i → None ≡ group_in (group_at b t i)
        unfolding group_at group_in
        group-many m = simp (lt-ltb i t.index h, le-leb 1 (byte b i) l, lt-leb (byte b i) 8 m)

        module _ (m : byte b i ≤ 8) where
          pub group-cut : t.index < end → None ≡ group_in (group_at b t i)
          unfolding group_at group_in
          group-cut c = simp (lt-ltb i t.index h, le-leb 1 (byte b i) l, le-leb (byte b i) 8 m, lt-leb end t.index c)

          pub group-rows : end ≤ t.index → set_in 0 end (targets_from b t (byte b i) 0 (i + 1)) ≡ group_in (group_at b t i)
          unfolding group_at
          group-rows c =
              simp (lt-ltb i t.index h, le-leb 1 (byte b i) l, le-leb (byte b i) 8 m, le-leb end t.index c)
              (set-group end (targets_from b t (byte b i) 0 (i + 1)))
