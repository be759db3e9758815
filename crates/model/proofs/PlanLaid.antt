-- A plan that is read has the plan layout: 1 to 4,096 good rows over at most 7 names, and k at most 3. So the next state of every held
-- move is a state of the plan. By the tests of reading.
-- Assumes nothing.
use mathlib.Core.Path.{◌≡◌, refl, ap, subst, subst⁻¹}
use mathlib.Core.Bool.{◌&&◌}
use mathlib.Core.Option.{some, map, some-injective, none-ne-some, map-eq-some_iff}
use mathlib.Core.List.{List, [], ◌∷◌, Memᴰ}
use Prim.Native.Nat.{ℕ, zero, suc, ◌+◌, ◌-◌, ◌*◌, ◌≤◌, ◌<◌}
use native.Mathlib.Omega.{arith}
use lib.ListN.{length, get_or}
use lib.Dec.{T, eqb, leb, leb→le}
use Rattle.model.specs.Lists.{all}
use Rattle.model.specs.Bytes.{byte, word, dword}
use Rattle.model.specs.Plan.{Move, held, good_row, read_moves, read_rows, Plan, read_with, read_plan}
use Rattle.model.proofs.Lists.{and_both, and-of, all-elim, cond-some}
use Rattle.model.proofs.Held.{move-of}
use Rattle.model.proofs.PlanBytes.{good-below}

-- ---- the rows

-- there are so many rows, and each is a good one
record GoodRows (n count left : ℕ) (rows : List (List Move)) : Type 0 where
  size : length rows ≡ left
  each : T (all (good_row n count) rows)

rows-good : (b : List ℕ) (index count n left p i : ℕ) (rows : List (List Move)) → read_rows b index count n left p i ≡ some rows
    → GoodRows n count left rows
unfolding read_rows all
rows-good b index count n zero p i rows e =
    subst (GoodRows n count 0) (some-injective [] rows (cond-some (eqb i index) (some []) rows e).1)
    (record { size = refl; each = tt })
rows-good b index count n (suc left) p i rows e =
    let size = byte b i in
    let row = read_moves b (i + 1) size in
    let here = eqb (dword b (index + 4 * p)) i && leb (i + 1 + 3 * size) index in
    let rest = read_rows b index count n left (suc p) (i + 1 + 3 * size) in
    let w = cond-some (here && good_row n count row) (map (λ (rows : List (List Move)). row ∷ rows) rest) rows e in
    let m = (map-eq-some_iff (λ (rows : List (List Move)). row ∷ rows) rest).0 w.1 in
    let g = rows-good b index count n left (suc p) (i + 1 + 3 * size) m.0 m.1 in
    subst (GoodRows n count (suc left)) m.2
    (record {
      size = ap suc g.size;
      each = and-of (good_row n count row) (all (good_row n count) m.0) (and_both here (good_row n count row) w.0).1 g.each;
    })

-- ---- the plan

-- what the layout says of a plan
pub record Laid (p : Plan) : Type 0 where
  pub names : p.n ≤ 7
  pub rank : p.k ≤ 3
  pub begun : 0 < length p.rows
  pub few : length p.rows ≤ 4096
  pub good : (row : List Move) → Memᴰ row p.rows → T (good_row p.n (length p.rows) row)

laid-with : (b : List ℕ) (index count n k : ℕ) (p : Plan) → read_with b index count n k ≡ some p → Laid p
unfolding read_with
laid-with b index count n k p e =
    let make : List (List Move) → Plan = (λ rs. record { n = n; k = k; rows = rs }) in
    let rest₄ = eqb (index + 4 * count + 8) (length b) in
    let rest₃ = leb k 3 && rest₄ in
    let rest₂ = leb n 7 && rest₃ in
    let rest₁ = leb count 4096 && rest₂ in
    let rest₀ = leb 1 count && rest₁ in
    let w = cond-some (leb 8 (length b) && rest₀) (map make (read_rows b index count n count 0 0)) p e in
    let t₁ = and_both (leb 1 count) rest₁ (and_both (leb 8 (length b)) rest₀ w.0).1 in
    let t₂ = and_both (leb count 4096) rest₂ t₁.1 in
    let t₃ = and_both (leb n 7) rest₃ t₂.1 in
    let t₄ = and_both (leb k 3) rest₄ t₃.1 in
    let m = (map-eq-some_iff make (read_rows b index count n count 0 0)).0 w.1 in
    let g = rows-good b index count n count 0 0 m.0 m.1 in
    subst Laid m.2
    (record {
      names = leb→le n 7 t₃.0;
      rank = leb→le k 3 t₄.0;
      begun = omega (arith, g.size, leb→le 1 count t₁.0);
      few = omega (arith, g.size, leb→le count 4096 t₂.0);
      good = λ row q. subst⁻¹ (λ (c : ℕ). T (good_row n c row)) g.size (all-elim (good_row n count) q g.each);
    })

-- a plan that is read has the layout
pub laid : (b : List ℕ) (p : Plan) → read_plan b ≡ some p → Laid p
unfolding read_plan
laid b p e = laid-with b (dword b (length b - 8)) (word b (length b - 4)) (byte b (length b - 2)) (byte b (length b - 1)) p e

-- ---- next states

-- where there is no row, nothing is held
rows-below : (count : ℕ) (rows : List (List Move)) → ((row : List Move) → Memᴰ row rows → (m : Move) → Memᴰ m row → m.to < count)
    → (i code to : ℕ) → held (get_or rows i []) code ≡ some to → to < count
unfolding held
rows-below count [] f i code to e = absurd (none-ne-some to e)
rows-below count (row ∷ rows) f zero code to e =
    let w = move-of row code to e in
    subst (λ (x : ℕ). x < count) w.3 (f row (Memᴰ.head refl) w.0 w.1)
rows-below count (row ∷ rows) f (suc i) code to e = rows-below count rows (λ r q. f r (Memᴰ.tail q)) i code to e

-- the next state of every held move is a state of the plan
pub laid-inside : (p : Plan) → Laid p → (i code to : ℕ) → held (get_or p.rows i []) code ≡ some to → to < length p.rows
laid-inside p l = rows-below (length p.rows) p.rows (λ row q. good-below p.n (length p.rows) row (l.good row q))
