-- The answers on a row, case by case: a law for each way in which a row is found or not. Each unfolds one step of the definitions.
-- Assumes nothing.
use mathlib.Core.Path.{◌≡◌, refl, sym, ap, ◌∙◌}
use mathlib.Core.Bool.{true, false}
use mathlib.Core.List.{List, []}
use mathlib.Core.Option.{Option, none, some, map, some-injective, none-ne-some}
use Prim.Native.Nat.{ℕ, ◌+◌, ◌*◌, ◌<◌, ◌≤◌}
use native.Mathlib.Omega.{arith}
use lib.ListN.{length, set}
use borrow.Author.Tests.{lt-ltb, le-ltb, le-leb, lt-leb, eq-eqb, ne_eqb}
use Rattle.std.specs.Prelude as C
use Rattle.std.specs.Prelude.{Some, None}
use Rattle.model.specs.Lists.{keep}
use Rattle.model.specs.Bytes.{byte, word}
use Rattle.model.specs.Contract.{actions, has}
use Rattle.model.specs.Sheet.{Trailer, stray_bit}
use Rattle.choosing.specs.Rows.{ChoosingRow, hides, opens, hidden_of, targets_of}
use Rattle.choosing.specs.Read.{Part, group_at, groups_from, hiding_at, open_at, choosing_row_at}
use Rattle.nodes.specs.Sets.{unite_from, set_of}
use Rattle.choosing.specs.Tables.{mask_number}
use Rattle.choosing_rows.specs.Answers.{ReadInto}
use Rattle.choosing_rows.specs.Holding.{BlankFrom, TargetsPut, RowPut}
use Rattle.choosing_rows.proofs.Reading.{part, read_none, read_some, read_is, read-map}

module _ (b : List ℕ) (t : Trailer) (i : ℕ) where
  -- ---- a hiding row
  pub hiding-bad : {Put : ChoosingRow → Type 0} → group_at b t (i + 1) ≡ none → ReadInto (hiding_at b t i) None Put
  unfolding hiding_at
  hiding-bad g = read_none (rw g refl)

  pub hiding-rows : (hidden masks : List ℕ) (r : ℕ) {s behind : ℕ} {l : List ℕ} → group_at b t (i + 1) ≡ some (part l behind) → s ≡ set_of l
      → ReadInto (hiding_at b t i) (Some behind)
      (λ (x : ChoosingRow). (set hidden r s ≡ set hidden r (set_of (hidden_of x))) × (set masks r 16384 ≡ set masks r (mask_number x)))
  unfolding hiding_at hidden_of mask_number
  hiding-rows hidden masks r {l = l} g d = read_some {a = hides l} (rw g refl) (ap (set hidden r) d, refl)

  -- it has no action
  hiding-targets : (p : Part ChoosingRow) → hiding_at b t i ≡ some p → (j : ℕ) → targets_of p.value j ≡ []
  unfolding hiding_at targets_of
  hiding-targets p e j = go (group_at b t (i + 1)) e
    where
      go : (o : Option (Part (List ℕ)))
          → map {B = Part ChoosingRow} (λ (g : Part (List ℕ)). record { value = hides g.value; behind = g.behind }) o ≡ some p
          → targets_of p.value j ≡ []
      go none d = absurd (none-ne-some p d)
      go (some g) d =
          let same = some-injective (part (hides g.value) g.behind) p d in
          ap (λ (x : Part ChoosingRow). targets_of x.value j) (sym same)

  -- ---- an open row
  pub open-cut : {Put : ChoosingRow → Type 0} → t.index < i + 3 → ReadInto (open_at b t i) None Put
  unfolding open_at
  open-cut h = read_none (simp (lt-leb (i + 3) t.index h))

  module _ (h : i + 3 ≤ t.index) (mask : ℕ) (w : mask ≡ word b (i + 1)) where
    pub open-stray : {Put : ChoosingRow → Type 0} → stray_bit t.n 0 mask ≡ true → ReadInto (open_at b t i) None Put
    unfolding open_at
    open-stray s = read_none (simp (le-leb (i + 3) t.index h, rw w at s))

    pub open-groups : stray_bit t.n 0 mask ≡ false → {answer : C.Option ℕ} {r : ℕ} {hidden masks targets targets' : List ℕ}
        → ReadInto (groups_from b t (length (keep (has mask) actions)) (i + 3)) answer
        (λ (l : List (List ℕ)). TargetsPut (opens mask l) (14 * r) targets targets')
        → ReadInto (open_at b t i) answer (λ (x : ChoosingRow). RowPut x r hidden masks targets (set hidden r 0) (set masks r mask) targets')
    unfolding open_at hidden_of mask_number set_of unite_from
    open-groups s read =
        read_is
        (read-map (opens mask) _ (λ l put. record { hidden_put = refl; mask_put = refl; targets_put = put }) read)
        (simp (le-leb (i + 3) t.index h, rw w at s) (rw w refl))

  -- ---- a row
  pub row-none : {Put : ChoosingRow → Type 0} → t.index ≤ i → ReadInto (choosing_row_at b t i) None Put
  unfolding choosing_row_at
  row-none h = read_none (simp (le-ltb i t.index h))

  module _ (h : i < t.index) where
    pub row_other : {Put : ChoosingRow → Type 0} → (byte b i ≡ 0 → ⊥) → (byte b i ≡ 1 → ⊥) → ReadInto (choosing_row_at b t i) None Put
    unfolding choosing_row_at
    row_other n m = read_none (simp (lt-ltb i t.index h, ne_eqb (byte b i) 0 n, ne_eqb (byte b i) 1 m))

    pub row-hides : byte b i ≡ 0 → {answer : C.Option ℕ} {r : ℕ} {hidden masks hidden' masks' targets : List ℕ} → BlankFrom (14 * r) targets
        → ReadInto (hiding_at b t i) answer
        (λ (x : ChoosingRow). (hidden' ≡ set hidden r (set_of (hidden_of x))) × (masks' ≡ set masks r (mask_number x)))
        → ReadInto (choosing_row_at b t i) answer (λ (x : ChoosingRow). RowPut x r hidden masks targets hidden' masks' targets)
    unfolding choosing_row_at set_of unite_from
    row-hides e {r = r} {targets = targets} blank read =
        read_is
        (record {
          answer_is = read.answer_is;
          put = λ p d.
              record {
                hidden_put = (read.put p d).0;
                mask_put = (read.put p d).1;
                targets_put =
                    record {
                      here = λ j l. blank (14 * r + j) (omega arith) ∙ ap set_of (sym (hiding-targets p d j));
                      before = λ q l. refl;
                      blank = λ q l. blank q (omega arith);
                    };
              };
        })
        (simp (lt-ltb i t.index h, eq-eqb (byte b i) 0 e))

    pub row_opens : (byte b i ≡ 0 → ⊥) → byte b i ≡ 1 → open_at b t i ≡ choosing_row_at b t i
    unfolding choosing_row_at
    row_opens n e = simp (lt-ltb i t.index h, ne_eqb (byte b i) 0 n, eq-eqb (byte b i) 1 e)
