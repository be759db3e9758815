-- What is kept of the places of a set, written place by place: a place that is written leaves what stands for those before it.
-- Assumes nothing.
use mathlib.Core.Path.{◌≡◌, sym, ap, subst, subst⁻¹, ◌∙◌}
use mathlib.Core.Bool.{false}
use mathlib.Core.Logic.{inl, inr, ⊎_elim}
use mathlib.Core.List.{List}
use Prim.Native.Nat.{ℕ, ◌+◌, ◌-◌, ◌*◌, ◌≤◌, ◌<◌, min}
use native.Mathlib.Omega.{arith}
use native.Mathlib.Nat.{eq-or-lt_of_le}
use lib.ListN.{length, get_or, take, drop, set}
use lib.Seq.{take-take, get_or-set_same, get_or-set_other}
use lib.Dec.{T}
use borrow.Rule.Slice.PartMut.{put_mid, mid_of}
use Rattle.model.specs.Contract.{has}
use Rattle.little_endian.specs.Front.{front}
use Rattle.nodes.specs.Sets.{sorted}
use Rattle.place_sets.specs.PlaceSets.{number_of}
use Rattle.text.specs.Places.{Sense, sense_at}
use Rattle.text.specs.Cells.{Explained}
use Rattle.text.specs.Steps.{PrefixesOf}
use Rattle.text.specs.Tables.{IsWanted, PlaceTables}
use Rattle.text_ready.proofs.Slots.{put-below}
use Rattle.text_places.specs.Wanted.{Wanting}
use Rattle.text_places.specs.Filled.{Rooms, Kept, FilledPlace, Filling}
use Rattle.place_sets.proofs.Listed.{put-here, put_other}
use Rattle.text_places.proofs.Lent.{masks-here, sets-empty}

module _ (cells bodies : List ℕ) where
  -- ---- one place written

  -- what is told of its ready sets
  abbrev pub ReadyPut : (p many : ℕ) → List ℕ → List ℕ → Type 0
  ReadyPut p many masks zs = (senses : List Sense) → Explained cells bodies senses
      → (many ≡ min 9 (length (sorted (sense_at senses p).ready)))
      × (zs ≡ front (take 8 (sorted (sense_at senses p).ready)) (mid_of (8 * p) (length masks - 8 * p) masks))

  -- and of its prefixes
  abbrev pub PrefixesPut : ℕ → List ℕ → Type 0
  PrefixesPut p ys =
      (length ys ≡ 4) × ((senses : List Sense) → Explained cells bodies senses → PrefixesOf cells bodies senses p (number_of ys))

  module _ (p many : ℕ) (sizes masks prefixes zs ys : List ℕ) (small : p < 256) (rooms : Rooms sizes masks prefixes)
      (ready : ReadyPut p many masks zs) (told : PrefixesPut p ys) where
    abbrev sizes' : List ℕ
    sizes' = set sizes p many

    abbrev masks' : List ℕ
    masks' = put_mid (8 * p) (length masks - 8 * p) masks zs

    abbrev prefixes' : List ℕ
    prefixes' = put_mid (4 * p) (4 * p + 4 - 4 * p) prefixes ys

    masks-fit : 8 * p ≤ length masks
    masks-fit = omega (arith, rooms.masks_room)

    prefixes-fit : 4 * p + 4 ≤ length prefixes
    prefixes-fit = omega (arith, rooms.prefixes_room)

    written : Kept cells bodies p sizes' masks' prefixes'
    written = record {
      size_is = λ senses x. get_or-set_same sizes p many 0 (omega (arith, rooms.sizes_room)) ∙ (ready senses x).0;
      masks_are = λ senses x few. masks-here p masks zs (sorted (sense_at senses p).ready) masks-fit (ready senses x).1 few;
      prefixes_are = λ senses x.
          subst⁻¹ (PrefixesOf cells bodies senses p) (put-here prefixes ys p prefixes-fit told.0) (told.1 senses x);
    }

    pub filled : Rooms sizes' masks' prefixes' → FilledPlace cells bodies p sizes masks prefixes sizes' masks' prefixes'
    filled rooms' = record {
      rooms = rooms';
      kept = written;
      left = record {
        size_left = λ k h. get_or-set_other sizes p k many 0 (λ same. omega arith);
        masks_left = λ k h. put-below (8 * p) (length masks - 8 * p) masks zs masks-fit (8 * k) 8 (omega arith);
        prefixes_below = λ k h. put_other prefixes ys p prefixes-fit told.0 k (λ same. omega arith);
        prefixes_above = λ k h. put_other prefixes ys p prefixes-fit told.0 k (λ same. omega arith);
      };
    }

  -- ---- place by place

  -- no place is written yet
  pub filling-none : (wanted : List ℕ) {sizes masks prefixes : List ℕ} → Rooms sizes masks prefixes → ((i : ℕ) → get_or prefixes i 0 ≡ 0)
      → Filling cells bodies wanted 0 sizes masks prefixes
  filling-none wanted {prefixes = prefixes} rooms none = record {
    rooms = rooms;
    done = λ p h t. absurd (omega arith);
    clear = λ p h. sets-empty prefixes none p;
  }

  module _ {wanted : List ℕ} {p : ℕ} {sizes masks prefixes : List ℕ} (is : Filling cells bodies wanted p sizes masks prefixes) where
    -- place p is written
    pub filling-more : {sizes' masks' prefixes' : List ℕ} → FilledPlace cells bodies p sizes masks prefixes sizes' masks' prefixes'
        → Filling cells bodies wanted (p + 1) sizes' masks' prefixes'
    filling-more {sizes'} {masks'} {prefixes'} w = record {
      rooms = w.rooms;
      done = λ q h t.
          ⊎_elim (λ (e : q ≡ p). subst⁻¹ (λ (k : ℕ). Kept cells bodies k sizes' masks' prefixes') e w.kept)
          (λ less. still q less (is.done q less t))
          (eq-or-lt_of_le (omega arith));
      clear = λ q h. w.left.prefixes_above q (omega arith) ∙ is.clear q (omega arith);
    }
      where
        still : (q : ℕ) → q < p → Kept cells bodies q sizes masks prefixes → Kept cells bodies q sizes' masks' prefixes'
        still q less k = record {
          size_is = λ senses x. w.left.size_left q less ∙ k.size_is senses x;
          masks_are = λ senses x few.
              let n = length (sorted (sense_at senses q).ready) in
              sym (take-take n 8 (drop (8 * q) masks') few)
              ∙ ap (take n) (w.left.masks_left q less)
              ∙ take-take n 8 (drop (8 * q) masks) few
              ∙ k.masks_are senses x few;
          prefixes_are = λ senses x.
              subst⁻¹ (PrefixesOf cells bodies senses q) (w.left.prefixes_below q less) (k.prefixes_are senses x);
        }

    -- the set has no place p
    pub filling_skip : has (number_of wanted) p ≡ false → Filling cells bodies wanted (p + 1) sizes masks prefixes
    filling_skip none = record {
      rooms = is.rooms;
      done = λ q h t.
          ⊎_elim (λ (e : q ≡ p). absurd (subst T none (subst (λ (k : ℕ). T (has (number_of wanted) k)) e t)))
          (λ less. is.done q less t)
          (eq-or-lt_of_le (omega arith));
      clear = λ q h. is.clear q (omega arith);
    }

  -- ---- all places

  module _ (first : ℕ) {wanted : List ℕ} (all : Wanting cells bodies first (length cells) wanted) where
    -- the set has every place that can be in a state
    is-in : (p : ℕ) → IsWanted cells bodies first p → T (has (number_of wanted) p)
    is-in p (inl e) = subst⁻¹ (λ (k : ℕ). T (has (number_of wanted) k)) e all.has_first
    is-in p (inr (i, prefix, e)) =
        subst⁻¹ (λ (k : ℕ). T (has (number_of wanted) k)) e (all.has_behind i prefix.inside prefix)

    pub tables : {sizes masks prefixes : List ℕ} → Filling cells bodies wanted (length cells) sizes masks prefixes
        → PlaceTables cells bodies first sizes masks prefixes
    tables {sizes} {masks} {prefixes} is = record {
      sizes_room = is.rooms.sizes_room;
      masks_room = is.rooms.masks_room;
      prefixes_room = is.rooms.prefixes_room;
      sizes_are = λ senses x p w. (kept p w).size_is senses x;
      masks_are = λ senses x p w. (kept p w).masks_are senses x;
      prefixes_are = λ senses x p w. (kept p w).prefixes_are senses x;
    }
      where
        kept : (p : ℕ) → IsWanted cells bodies first p → Kept cells bodies p sizes masks prefixes
        kept p w = let t = is-in p w in is.done p (all.inside p t) t
