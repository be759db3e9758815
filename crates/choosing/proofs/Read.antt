-- A choosing sheet that is read has the right form, and bytes are refused as nothing but 17. The tests of the trailer and of the rows give
-- what the form asks; every test that fails gives the same refusal.
-- Assumes nothing.
use mathlib.Core.Path.{◌≡◌, refl, ap, subst, subst⁻¹}
use mathlib.Core.Bool.{Bool, ◌&&◌}
use mathlib.Core.Option.{Option, none, some}
use mathlib.Core.List.{List}
use Prim.Native.Nat.{ℕ, ◌+◌, ◌*◌, ◌≤◌, ◌<◌}
use native.Mathlib.Omega.{arith}
use lib.ListN.{length}
use lib.Dec.{T, eqb, leb, leb→le, eqb→eq}
use Rattle.model.specs.Bytes.{byte}
use Rattle.model.specs.Sheet.{good, refusal, Refusal, plain, Trailer, trailer}
use Rattle.model.proofs.Lists.{and_both}
use Rattle.model.proofs.Sheet.{never-good, good-injective, check-good, then-good}
use Rattle.model.proofs.Refusals.{OnlyRefused, only-check, only_then, only-elim}
use Rattle.choosing.specs.Rows.{ChoosingRow, Choosing, RowFormed, Formed}
use Rattle.choosing.specs.Read.{rows_from, choosing_trailer, or_refused, read_choosing, framed}
use Rattle.choosing.proofs.Parts.{RowsStand, rows-read}

-- ---- sheets

-- what the tests of a trailer say
pub record TrailerRead (t : Trailer) : Type 0 where
  pub some_row : 1 ≤ t.count
  pub few_rows : t.count ≤ 32
  pub few_names : t.n ≤ 7
  pub service : t.role ≡ 0
  pub closes : t.closing ≡ 0xC6

pub trailer-read : (t : Trailer) → T (choosing_trailer t) → TrailerRead t
unfolding choosing_trailer
trailer-read t g =
    let last : Bool = eqb t.role 0 && eqb t.closing 0xC6 in
    let u = and_both (leb 1 t.count) (leb t.count 32 && (leb t.n 7 && last)) g in
    let v = and_both (leb t.count 32) (leb t.n 7 && last) u.1 in
    let w = and_both (leb t.n 7) last v.1 in
    let z = and_both (eqb t.role 0) (eqb t.closing 0xC6) w.1 in
    record {
      some_row = leb→le 1 t.count u.0;
      few_rows = leb→le t.count 32 v.0;
      few_names = leb→le t.n 7 w.0;
      service = eqb→eq t.role 0 z.0;
      closes = eqb→eq t.closing 0xC6 z.1;
    }

-- what the reading of a sheet says of its bytes
pub record ChoosingRead (b : List ℕ) (c : Choosing) : Type 0 where
  pub long : 6 ≤ length b
  pub trails : TrailerRead (trailer b)
  pub size : (trailer b).index + 2 * (trailer b).count + 6 ≡ length b
  pub names : (trailer b).n ≡ c.n
  pub rows : RowsStand b (trailer b) (trailer b).count 0 0 c.rows

or-good : {A : Type 0} (e : Refusal) (o : Option A) {a : A} → or_refused e o ≡ good a → o ≡ some a
unfolding or_refused
or-good e none p = absurd (never-good p)
or-good e (some a) p = ap some (good-injective p)

pub choosing-read : (b : List ℕ) → ((i : ℕ) → byte b i < 256) → (c : Choosing) → read_choosing b ≡ good c → ChoosingRead b c
unfolding read_choosing framed
choosing-read b small c e =
    let t : Trailer = trailer b in
    let full : Bool = eqb (t.index + 2 * t.count + 6) (length b) in
    let k = check-good (leb 6 (length b) && (choosing_trailer t && full)) (plain 17 0) _ e in
    let w = and_both (leb 6 (length b)) (choosing_trailer t && full) k.0 in
    let v = and_both (choosing_trailer t) full w.1 in
    let rows : Option (List ChoosingRow) = rows_from b t t.count 0 0 in
    let r = then-good (or_refused (plain 17 0) rows) _ k.1 in
    subst (ChoosingRead b) (good-injective r.2)
    (record {
      long = leb→le 6 (length b) w.0;
      trails = trailer-read t v.0;
      size = eqb→eq (t.index + 2 * t.count + 6) (length b) v.1;
      names = refl;
      rows = rows-read b t small t.count 0 0 r.0 (or-good (plain 17 0) rows r.1);
    })

pub read-formed : (b : List ℕ) → ((i : ℕ) → byte b i < 256) → (c : Choosing) → read_choosing b ≡ good c → Formed c
read-formed b small c e =
    let r = choosing-read b small c e in
    let each = r.rows.each in
    record {
      few_names = omega (arith, r.names, r.trails.few_names);
      some_row = omega (arith, each.size, r.trails.some_row);
      few_rows = omega (arith, each.size, r.trails.few_rows);
      each = λ x m.
          subst (λ (n : ℕ). RowFormed n (length c.rows) x) r.names
          (subst⁻¹ (λ (count : ℕ). RowFormed (trailer b).n count x) each.size (each.holds x m));
    }

-- ---- refusals

-- 17: "a choosing sheet of any other form"
abbrev OtherForm : Refusal → Type 0
OtherForm e = e ≡ plain 17 0

only-other : {A : Type 0} (o : Option A) → OnlyRefused OtherForm (or_refused (plain 17 0) o)
unfolding or_refused
only-other none = refl
only-other (some a) = tt

pub read-refused : (b : List ℕ) (e : Refusal) → read_choosing b ≡ refusal e → e ≡ plain 17 0
unfolding read_choosing framed
read-refused b e p =
    let t : Trailer = trailer b in
    let rows : Option (List ChoosingRow) = rows_from b t t.count 0 0 in
    only-elim OtherForm (read_choosing b) e
    (only-check OtherForm (leb 6 (length b) && (choosing_trailer t && eqb (t.index + 2 * t.count + 6) (length b))) (plain 17 0) _ refl
    (only_then OtherForm (or_refused (plain 17 0) rows) _ (only-other rows) (λ l. tt))) p
