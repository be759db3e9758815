-- What is read of the rows of a choosing sheet has the right form, and stands in the bytes as it is written. Each test that reading makes
-- gives a fact, from the rows under one count up to all rows; each part begins behind the bytes of the one before.
-- Assumes nothing.
use mathlib.Core.Path.{◌≡◌, refl, sym, subst, subst⁻¹}
use mathlib.Core.Bool.{Bool, true, false, not, cond, ◌&&◌, ◌||◌}
use mathlib.Core.Option.{none, some, map-eq-some_iff, bind-eq-some_iff, some-injective}
use mathlib.Core.List.{List, [], ◌++◌}
use Prim.Native.Nat.{ℕ, zero, suc, ◌+◌, ◌*◌, ◌/◌, ◌%◌, ◌^◌, ◌<◌}
use native.Mathlib.Omega.{arith}
use lib.ListN.{length, length-append}
use lib.Dec.{T, eqb, ltb, leb, ltb→lt, leb→le, eqb→eq, eqb_refl, nleb→lt, T_not, not_T}
use borrow.Author.Tests.{eqb-true}
use Rattle.model.specs.Lists.{any, keep, Ascending}
use Rattle.model.specs.Bytes.{byte, word, le16}
use Rattle.model.specs.Contract.{actions, has, name}
use Rattle.model.specs.Sheet.{Trailer, stray_bit}
use Rattle.model.proofs.Lists.{and_both, and-of, or_left, or_right, cond-some}
use Rattle.model.proofs.Sheet.{Each, each_none, each-one-more, mask-named}
use Rattle.nodes.specs.SheetBytes.{layout_rows, layout_index}
use Rattle.nodes.proofs.Bytes.{At, at-cast, length-16}
use Rattle.choosing.specs.Rows.{ChoosingRow, GroupFormed, RowFormed}
use Rattle.choosing.specs.Bytes.{group_bytes, groups_bytes, choosing_row_bytes}
use Rattle.choosing.specs.Read.{Part, targets_from, group_at, groups_from, hiding_at, open_at, choosing_row_at, rows_from}
use Rattle.nodes.proofs.Standing.{at_none, at-cons, at-append, at-16}

-- ---- masks

has-bit : (mask j : ℕ) → mask / 2 ^ j % 2 ≡ 1 → T (has mask j)
unfolding has
has-bit mask j e = subst⁻¹ (λ (x : ℕ). T (eqb x 1)) e (eqb_refl 1)

-- a 16-bit mask with no stray bit in role 0 has neither bit 15 nor bit 14
mask_low : (n mask : ℕ) → mask < 65536 → T (not (stray_bit n 0 mask)) → mask < 16384
unfolding stray_bit
mask_low n mask small clean =
    let nameless : Bool = any (λ j. has mask j && leb n (name j)) actions in
    let mark : Bool = has mask 14 && eqb 0 0 in
    let low : mask < 32768 =
    nleb→lt 32768 mask
    (not_T (leb 32768 mask)
    (λ u.
    let h : T (has mask 15) = has-bit mask 15 (omega (arith, leb→le 32768 mask u)) in
    T_not (stray_bit n 0 mask) clean (or_left (nameless || has mask 15) mark (or_right nameless (has mask 15) h)))) in
    nleb→lt 16384 mask
    (not_T (leb 16384 mask)
    (λ u.
    let h : T (has mask 14) = has-bit mask 14 (omega (arith, leb→le 16384 mask u)) in
    T_not (stray_bit n 0 mask) clean (or_right (nameless || has mask 15) mark (and-of (has mask 14) (eqb 0 0) h (eqb_refl 0)))))

-- ---- rows

-- a part read at i: its form, its bytes, and that the next begins behind them
record PartRead {A : Type 0} (Form : A → Type 0) (bytes_of : A → List ℕ) (b : List ℕ) (i : ℕ) (p : Part A) : Type 0 where
  formed : Form p.value
  stands : At b i (bytes_of p.value)
  next : p.behind ≡ i + length (bytes_of p.value)

-- `left` rows from the q-th on, the first of them at i: their form, their bytes, and their places in the index
pub record RowsStand (b : List ℕ) (t : Trailer) (left q i : ℕ) (l : List ChoosingRow) : Type 0 where
  pub each : Each (RowFormed t.n t.count) left l
  pub rows : At b i (layout_rows choosing_row_bytes l)
  pub index : At b (t.index + 2 * q) (layout_index choosing_row_bytes i l)
  pub ends : i + length (layout_rows choosing_row_bytes l) ≡ t.index

module _ (b : List ℕ) (t : Trailer) where
  targets-read : (left low i : ℕ) (l : List ℕ) → targets_from b t left low i ≡ some l
      → Each (λ r. r < t.count) left l × Ascending low l × At b i l
  unfolding targets_from
  targets-read zero low i l e =
      let is : [] ≡ l = some-injective [] l e in
      (each_none (λ r. r < t.count) is, subst (Ascending low) is tt, subst (At b i) is (at_none b i))
  targets-read (suc left) low i l e =
      let row : ℕ = byte b i in
      let o = cond-some (leb low row && ltb row t.count) _ l e in
      let w = and_both (leb low row) (ltb row t.count) o.0 in
      let m = (map-eq-some_iff _ (targets_from b t left (suc row) (i + 1))).0 o.1 in
      let r = targets-read left (suc row) (i + 1) m.0 m.1 in (
        each-one-more (λ r. r < t.count) (ltb→lt row t.count w.1) r.0 m.2,
        subst (Ascending low) m.2 (leb→le low row w.0, r.1),
        subst (At b i) m.2 (at-cons b i row m.0 refl r.2),
      )

  -- a count and its rows
  abbrev GroupRead : ℕ → Part (List ℕ) → Type 0
  GroupRead = PartRead (GroupFormed t.count) group_bytes b

  group-read : (i : ℕ) (p : Part (List ℕ)) → group_at b t i ≡ some p → GroupRead i p
  unfolding group_at group_bytes
  group-read i p e =
      let count : ℕ = byte b i in
      let within : Bool = leb (i + 1 + count) t.index in
      let o = cond-some (ltb i t.index && (leb 1 count && (leb count 8 && within))) _ p e in
      let u = and_both (ltb i t.index) (leb 1 count && (leb count 8 && within)) o.0 in
      let v = and_both (leb 1 count) (leb count 8 && within) u.1 in
      let w = and_both (leb count 8) within v.1 in
      let m = (map-eq-some_iff _ (targets_from b t count 0 (i + 1))).0 o.1 in
      let r = targets-read count 0 (i + 1) m.0 m.1 in
      subst (GroupRead i) m.2
      (record {
        formed = record {
          some_row = omega (arith, r.0.size, leb→le 1 count v.0);
          few_rows = omega (arith, r.0.size, leb→le count 8 w.0);
          ascends = r.1;
          below = r.0.holds;
        };
        stands = at-cons b i (length m.0) m.0 (sym r.0.size) r.2;
        next = omega (arith, r.0.size);
      })

  -- `left` counts with their rows
  abbrev GroupsRead : ℕ → ℕ → Part (List (List ℕ)) → Type 0
  GroupsRead left = PartRead (Each (GroupFormed t.count) left) groups_bytes b

  groups-read : (left i : ℕ) (p : Part (List (List ℕ))) → groups_from b t left i ≡ some p → GroupsRead left i p
  unfolding groups_from groups_bytes
  groups-read zero i p e =
      subst (GroupsRead 0 i) (some-injective (record { value = []; behind = i }) p e)
      (record { formed = each_none (GroupFormed t.count) refl; stands = at_none b i; next = omega arith })
  groups-read (suc left) i p e =
      let o = (bind-eq-some_iff (group_at b t i) _).0 e in
      let g : Part (List ℕ) = o.0 in
      let m = (map-eq-some_iff _ (groups_from b t left g.behind)).0 o.2 in
      let one = group-read i g o.1 in
      let rest = groups-read left g.behind m.0 m.1 in
      let first : List ℕ = group_bytes g.value in
      let others : List ℕ = groups_bytes m.0.value in
      subst (GroupsRead (suc left) i) m.2
      (record {
        formed = each-one-more (GroupFormed t.count) one.formed rest.formed refl;
        stands = at-append b i first others one.stands (at-cast b g.behind (i + length first) others one.next rest.stands);
        next = omega (arith, one.next, rest.next, length-append first others);
      })

  -- a row
  abbrev RowRead : ℕ → Part ChoosingRow → Type 0
  RowRead = PartRead (RowFormed t.n t.count) choosing_row_bytes b

  hiding-read : (i : ℕ) (p : Part ChoosingRow) → byte b i ≡ 0 → hiding_at b t i ≡ some p → RowRead i p
  unfolding hiding_at choosing_row_bytes
  hiding-read i p z e =
      let m = (map-eq-some_iff _ (group_at b t (i + 1))).0 e in
      let r = group-read (i + 1) m.0 m.1 in
      subst (RowRead i) m.2
      (record { formed = r.formed; stands = at-cons b i 0 (group_bytes m.0.value) z r.stands; next = omega (arith, r.next) })

module _ (b : List ℕ) (t : Trailer) (small : (i : ℕ) → byte b i < 256) where
  word_small : (i : ℕ) → word b i < 65536
  unfolding word
  word_small i = omega (arith, small i, small (i + 1))

  open-read : (i : ℕ) (p : Part ChoosingRow) → byte b i ≡ 1 → open_at b t i ≡ some p → RowRead b t i p
  unfolding open_at choosing_row_bytes
  open-read i p z e =
      let mask : ℕ = word b (i + 1) in
      let o = cond-some (leb (i + 3) t.index && not (stray_bit t.n 0 mask)) _ p e in
      let clean = (and_both (leb (i + 3) t.index) (not (stray_bit t.n 0 mask)) o.0).1 in
      let m = (map-eq-some_iff _ (groups_from b t (length (keep (has mask) actions)) (i + 3))).0 o.1 in
      let r = groups-read b t (length (keep (has mask) actions)) (i + 3) m.0 m.1 in
      let all : List ℕ = groups_bytes m.0.value in
      subst (RowRead b t i) m.2
      (record {
        formed = record {
          bits = mask_low t.n mask (word_small (i + 1)) clean;
          named = λ j h u. mask-named t.n 0 mask j h clean u;
          each_action = r.formed.size;
          each = r.formed.holds;
        };
        stands =
            at-cons b i 1 (le16 mask ++ all) z
            (at-append b (i + 1) (le16 mask) all (at-16 b (i + 1) mask (small (i + 1)) (small (i + 1 + 1)) refl)
            (at-cast b (i + 3) (i + 1 + length (le16 mask)) all (omega (arith, length-16 mask)) r.stands));
        next = omega (arith, r.next, length-append (le16 mask) all, length-16 mask);
      })

  row_read : (i : ℕ) (p : Part ChoosingRow) → choosing_row_at b t i ≡ some p → RowRead b t i p
  unfolding choosing_row_at
  row_read i p e = go (eqb (byte b i) 0) (eqb-true (byte b i) 0) (cond-some (ltb i t.index) _ p e).1
    where
      go : (u : Bool) → (u ≡ true → byte b i ≡ 0) → cond u (hiding_at b t i) (cond (eqb (byte b i) 1) (open_at b t i) none) ≡ some p
          → RowRead b t i p
      go true z q = hiding-read b t i p (z refl) q
      go false z q = let w = cond-some (eqb (byte b i) 1) (open_at b t i) p q in open-read i p (eqb→eq (byte b i) 1 w.0) w.1

  pub rows-read : (left q i : ℕ) (l : List ChoosingRow) → rows_from b t left q i ≡ some l → RowsStand b t left q i l
  unfolding rows_from layout_rows layout_index
  rows-read zero q i l e =
      let w = cond-some (eqb i t.index) (some []) l e in
      subst (RowsStand b t 0 q i) (some-injective [] l w.1)
      (record {
        each = each_none (RowFormed t.n t.count) refl;
        rows = at_none b i;
        index = at_none b (t.index + 2 * q);
        ends = omega (arith, eqb→eq i t.index w.0);
      })
  rows-read (suc left) q i l e =
      let entry : ℕ = t.index + 2 * q in
      let w = cond-some (eqb (word b entry) i) _ l e in
      let o = (bind-eq-some_iff (choosing_row_at b t i) _).0 w.1 in
      let x : ChoosingRow = o.0.value in
      let m = (map-eq-some_iff _ (rows_from b t left (suc q) o.0.behind)).0 o.2 in
      let one = row_read i o.0 o.1 in
      let next : ℕ = i + length (choosing_row_bytes x) in
      let rest : RowsStand b t left (suc q) next m.0 =
      subst (λ (j : ℕ). RowsStand b t left (suc q) j m.0) one.next (rows-read left (suc q) o.0.behind m.0 m.1) in
      let others : List ℕ = layout_index choosing_row_bytes next m.0 in
      subst (RowsStand b t (suc left) q i) m.2
      (record {
        each = each-one-more (RowFormed t.n t.count) one.formed rest.each refl;
        rows = at-append b i (choosing_row_bytes x) (layout_rows choosing_row_bytes m.0) one.stands rest.rows;
        index =
            at-append b entry (le16 i) others (at-16 b entry i (small entry) (small (entry + 1)) (eqb→eq (word b entry) i w.0))
            (at-cast b (t.index + 2 * suc q) (entry + length (le16 i)) others (omega (arith, length-16 i)) rest.index);
        ends = omega (arith, rest.ends, length-append (choosing_row_bytes x) (layout_rows choosing_row_bytes m.0));
      })
