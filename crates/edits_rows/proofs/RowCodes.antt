-- The codes of a row: where each stands in the bytes, and that those of a good row are codes and ascend.
-- Assumes nothing.
use mathlib.Core.Path.{◌≡◌, refl, ap, subst, ◌∙◌}
use mathlib.Core.Bool.{Bool, true, false, cond, ◌&&◌}
use mathlib.Core.List.Memᴰ
use mathlib.Core.List.{List, [], ◌∷◌, Memᴰ}
use Prim.Native.Nat.{ℕ, zero, suc, ◌+◌, ◌-◌, ◌*◌, ◌≤◌, ◌<◌}
use native.Mathlib.Omega.{arith}
use lib.Dec.{T, ltb, leb}
use lib.ListN.{length, get_or}
use borrow.Author.Tests.{leb-true}
use Rattle.model.specs.Bytes.{byte}
use Rattle.model.specs.Lists.{all, Ascending}
use Rattle.model.specs.Situation.{straight, client, service, stray, kind_of, codes}
use Rattle.model.specs.Plan.{Move, named_below, ascending, good_row, read_moves}
use Rattle.model.proofs.Lists.{and_both, both_true, all-elim, get_d_mem}
use Rattle.model.proofs.Ordered.{Within, row-ascends}
use Rattle.model.proofs.Situation.{code-straight, code-client, code-service}
use Rattle.plan.specs.declared.Row.{Row}
use Rattle.edits.specs.Places.{codes_in}
use Rattle.edits_rows.specs.Rows.{InRow}

-- ---- in the bytes

pub codes-number : (b : List ℕ) (first size : ℕ) → size ≡ length (codes_in (read_moves b first size))
unfolding codes_in read_moves
codes-number b first zero = refl
codes-number b first (suc size) = ap suc (codes-number b (first + 3) size)

pub code-stands : (b : List ℕ) (first size i : ℕ) → i < size → byte b (first + 3 * i) ≡ get_or (codes_in (read_moves b first size)) i 0
unfolding codes_in read_moves
code-stands b first zero i h = absurd (omega arith)
code-stands b first (suc size) zero h = ap (byte b) (omega arith)
code-stands b first (suc size) (suc i) h =
    let at : first + 3 * suc i ≡ first + 3 + 3 * i = omega arith in
    ap (byte b) at ∙ code-stands b (first + 3) size i (omega arith)

-- ---- of a good row

-- a code with a name is one of the three ranges
named-code : (n code : ℕ) → T (named_below n (kind_of code)) → Memᴰ code codes
unfolding named_below kind_of
named-code n code = go (leb code 13) refl (leb 16 code && leb code 29) refl (leb 32 code && leb code 45) refl
  where
    back : (low : ℕ) → low ≤ code → Memᴰ (low + (code - low)) codes → Memᴰ code codes
    back low l m = let e : low + (code - low) ≡ code = omega arith in subst (λ (c : ℕ). Memᴰ c codes) e m

    go : (a : Bool) → leb code 13 ≡ a → (b : Bool) → (leb 16 code && leb code 29) ≡ b → (d : Bool) → (leb 32 code && leb code 45) ≡ d
        → T (named_below n (cond a (straight code) (cond b (client (code - 16)) (cond d (service (code - 32)) stray))))
        → Memᴰ code codes
    go true e b f d g t = code-straight code (omega (arith, leb-true code 13 e))
    go false e true f d g t =
        let w = both_true (leb 16 code) (leb code 29) f in
        let low = leb-true 16 code w.0 in
        back 16 low (code-client (code - 16) (omega (arith, leb-true code 29 w.1)))
    go false e false f true g t =
        let w = both_true (leb 32 code) (leb code 45) g in
        let low = leb-true 32 code w.0 in
        back 32 low (code-service (code - 32) (omega (arith, leb-true code 45 w.1)))
    go false e false f false g t = absurd t

rises : (row : List Move) → T (ascending row) → Ascending 0 (codes_in row)
unfolding codes_in
rises [] t = tt
rises (m ∷ row) t = row-ascends 0 m row (omega arith) t

module _ {b : List ℕ} {row : Row} (in_row : InRow b row) where
  moves : List Move
  moves = read_moves b row.first row.size

  good_move : Move → Bool
  good_move m = named_below in_row.names (kind_of m.code) && ltb m.to in_row.count

  tests : T (ascending moves) × T (all good_move moves)
  unfolding moves good_move good_row
  tests =
      let w = and_both (leb (length moves) 42 && ascending moves) (all good_move moves) in_row.good in
      ((and_both (leb (length moves) 42) (ascending moves) w.0).1, w.1)

  pub row-rises : Ascending 0 (codes_in (read_moves b row.first row.size))
  unfolding moves
  row-rises = rises moves tests.0

  pub row-among : Within (codes_in (read_moves b row.first row.size)) codes
  unfolding moves good_move codes_in
  row-among z m =
      let w = Memᴰ.of_map (λ m. m.code) moves m in
      let names = in_row.names in
      let good = and_both (named_below names (kind_of w.0.code)) (ltb w.0.to in_row.count) (all-elim good_move w.1 tests.1) in
      subst (λ (c : ℕ). Memᴰ c codes) w.2 (named-code names w.0.code good.0)

  -- the code at a place
  pub row-code : {i code : ℕ} → i < row.size → code ≡ get_or (codes_in (read_moves b row.first row.size)) i 0 → Memᴰ code codes
  row-code {i} {code} h e =
      row-among code (Memᴰ.cast e
      (get_d_mem (codes_in (read_moves b row.first row.size)) i 0 (omega (arith, codes-number b row.first row.size))))
