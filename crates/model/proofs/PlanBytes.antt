-- A plan reads back as it was written.
-- Assumes nothing.
use mathlib.Core.Path.{◌≡◌, refl, sym, ap, subst, ◌∙◌}
use mathlib.Core.Bool.{Bool, ◌&&◌}
use mathlib.Core.List.{List, [], ◌∷◌, ◌++◌, Memᴰ}
use mathlib.Core.Option.{none, some}
use Prim.Native.Nat.{ℕ, suc, ◌+◌, ◌-◌, ◌*◌, ◌/◌, ◌%◌, ◌≤◌, ◌<◌}
use native.Mathlib.Omega.{arith}
use native.Mathlib.Nat.{zero-add, add-zero, add_assoc}
use lib.ListN.{length, get_or, length-append, get_or-append}
use lib.Seq.{get_or-append-add}
use lib.Dec.{T, eqb, leb, ltb, ltb→lt, le→leb, eqb_refl}
use borrow.Author.Tests.{le-leb, eq-eqb}
use Rattle.model.specs.Lists.{all}
use Rattle.model.specs.Bytes.{byte, word, dword, le16, le32}
use Rattle.model.specs.Situation.{kind_of}
use Rattle.model.specs.Plan.{Move, move_bytes, row_bytes, rows_bytes, index_bytes, plan_bytes, named_below, ascending, good_row, read_moves, read_rows, read_with, read_plan}
use Rattle.model.proofs.Lists.{and-of, and_both, all-elim, cond_yes}

-- the bytes xs stand at i in b
abbrev pub At : List ℕ → ℕ → List ℕ → Type 0
At b i xs = (j : ℕ) → j < length xs → get_or b (i + j) 0 ≡ get_or xs j 0

pub at_left : (b : List ℕ) (i : ℕ) (xs ys : List ℕ) → At b i (xs ++ ys) → At b i xs
at_left b i xs ys h j l = h j (omega (arith, length-append xs ys)) ∙ get_or-append xs ys 0 j l

pub at_right : (b : List ℕ) (i : ℕ) (xs ys : List ℕ) → At b i (xs ++ ys) → At b (i + length xs) ys
at_right b i xs ys h j l =
    ap (λ (n : ℕ). get_or b n 0) (add_assoc i (length xs) j) ∙ h (length xs + j) (omega (arith, length-append xs ys)) ∙ get_or-append-add xs ys j 0

pub at_head : (b : List ℕ) (i x : ℕ) (xs : List ℕ) → At b i (x ∷ xs) → byte b i ≡ x
unfolding byte
at_head b i x xs h = ap (λ (n : ℕ). get_or b n 0) (sym (add-zero i)) ∙ h 0 (omega arith)

pub at_tail : (b : List ℕ) (i x : ℕ) (xs : List ℕ) → At b i (x ∷ xs) → At b (i + 1) xs
at_tail b i x xs h j l = ap (λ (n : ℕ). get_or b n 0) (omega arith) ∙ h (suc j) (omega arith)

pub at-cast : (b : List ℕ) (i i' : ℕ) (xs : List ℕ) → i ≡ i' → At b i xs → At b i' xs
at-cast b i i' xs e h = subst (λ (n : ℕ). At b n xs) e h

at_low : (b : List ℕ) (i x : ℕ) → At b i (le16 x) → word b i ≡ x % 65536
unfolding le16 word
at_low b i x h = omega (arith, at_head b i (x % 256) (x / 256 % 256 ∷ []) h, at_head b (i + 1) (x / 256 % 256) [] (at_tail b i (x % 256) (x / 256 % 256 ∷ []) h))

pub at-word : (b : List ℕ) (i x : ℕ) → At b i (le16 x) → x < 65536 → word b i ≡ x
at-word b i x h l = omega (arith, at_low b i x h)

pub length-16 : (x : ℕ) → length (le16 x) ≡ 2
unfolding le16
length-16 x = refl

pub length-32 : (x : ℕ) → length (le32 x) ≡ 4
unfolding le32 le16
length-32 x = refl

at-dword : (b : List ℕ) (i x : ℕ) → At b i (le32 x) → x < 4294967296 → dword b i ≡ x
unfolding le32 dword
at-dword b i x h l =
    omega (
      arith,
      at_low b i x (at_left b i (le16 x) (le16 (x / 65536)) h),
      at_low b (i + 2) (x / 65536)
          (at-cast b (i + length (le16 x)) (i + 2) (le16 (x / 65536)) (ap (λ (n : ℕ). i + n) (length-16 x)) (at_right b i (le16 x) (le16 (x / 65536)) h)),
    )

-- moves
pub length-moves : (ms : List Move) → length (move_bytes ms) ≡ 3 * length ms
unfolding move_bytes le16
length-moves [] = omega arith
length-moves (m ∷ ms) = omega (arith, length-moves ms)

back-moves : (b : List ℕ) (i : ℕ) (ms : List Move) → At b i (move_bytes ms) → ((m : Move) → Memᴰ m ms → m.to < 65536) → read_moves b i (length ms) ≡ ms
unfolding read_moves move_bytes
back-moves b i [] h f = refl
back-moves b i (m ∷ ms) h f =
    let t : At b (i + 1) (le16 m.to ++ move_bytes ms) = at_tail b i m.code (le16 m.to ++ move_bytes ms) h in
    let c : byte b i ≡ m.code = at_head b i m.code (le16 m.to ++ move_bytes ms) h in
    let w : word b (i + 1) ≡ m.to = at-word b (i + 1) m.to (at_left b (i + 1) (le16 m.to) (move_bytes ms) t) (f m (Memᴰ.head refl)) in
    let r : read_moves b (i + 3) (length ms) ≡ ms =
    back-moves b (i + 3) ms (at-cast b (i + 1 + length (le16 m.to)) (i + 3) (move_bytes ms) (omega (arith, length-16 m.to)) (at_right b (i + 1) (le16 m.to) (move_bytes ms) t))
    (λ x q. f x (Memᴰ.tail q)) in
    λ z. record { code = c z; to = w z } ∷ r z

-- rows

-- the next state of a move of a good row is below the count
pub good-below : (n count : ℕ) (row : List Move) → T (good_row n count row) → (m : Move) → Memᴰ m row → m.to < count
unfolding good_row
good-below n count row g m q =
    let good : Move → Bool = (λ m. named_below n (kind_of m.code) && ltb m.to count) in
    let each = (and_both (leb (length row) 42 && ascending row) (all good row) g).1 in
    ltb→lt m.to count (and_both (named_below n (kind_of m.code)) (ltb m.to count) (all-elim good q each)).1

module _ (b : List ℕ) (index count n : ℕ) (small : index < 4294967296) (few : count ≤ 4096) where
  back-rows : (rs : List (List Move)) (p i : ℕ) → ((r : List Move) → Memᴰ r rs → T (good_row n count r))
      → At b i (rows_bytes rs) → At b (index + 4 * p) (index_bytes i rs) → i + length (rows_bytes rs) ≡ index
      → read_rows b index count n (length rs) p i ≡ some rs
  unfolding read_rows rows_bytes row_bytes index_bytes
  back-rows [] p i g h x e = cond_yes (eqb i index) (some []) none (subst (λ (m : ℕ). T (eqb i m)) (omega arith) (eqb_refl i))
  back-rows (r ∷ rs) p i g h x e =
      let hr : At b i (length r ∷ move_bytes r) = at_left b i (length r ∷ move_bytes r) (rows_bytes rs) h in
      let hd : byte b i ≡ length r = at_head b i (length r) (move_bytes r) hr in
      let len : length (length r ∷ move_bytes r) ≡ 1 + 3 * length r = omega (arith, length-moves r) in
      let tot : i + (1 + 3 * length r + length (rows_bytes rs)) ≡ index = omega (arith, length-append (length r ∷ move_bytes r) (rows_bytes rs)) in
      let ms : read_moves b (i + 1) (length r) ≡ r = back-moves b (i + 1) r (at_tail b i (length r) (move_bytes r) hr) (λ m q. omega (arith, good-below n count r (g r (Memᴰ.head refl)) m q)) in
      let dw : dword b (index + 4 * p) ≡ i = at-dword b (index + 4 * p) i (at_left b (index + 4 * p) (le32 i) (index_bytes (i + length (length r ∷ move_bytes r)) rs) x) (omega arith) in
      let ih : read_rows b index count n (length rs) (suc p) (i + 1 + 3 * length r) ≡ some rs =
      back-rows rs (suc p) (i + 1 + 3 * length r) (λ y q. g y (Memᴰ.tail q))
      (at-cast b (i + length (length r ∷ move_bytes r)) (i + 1 + 3 * length r) (rows_bytes rs) (omega arith) (at_right b i (length r ∷ move_bytes r) (rows_bytes rs) h))
      (subst (λ (y : ℕ). At b (index + 4 * suc p) (index_bytes y rs)) (omega arith)
      (at-cast b (index + 4 * p + length (le32 i)) (index + 4 * suc p) (index_bytes (i + length (length r ∷ move_bytes r)) rs) (omega (arith, length-32 i))
      (at_right b (index + 4 * p) (le32 i) (index_bytes (i + length (length r ∷ move_bytes r)) rs) x)))
      (omega arith) in
      rw (hd, ms, dw, ih)
      (cond_yes (eqb i i && leb (i + 1 + 3 * length r) index && good_row n count r) (some (r ∷ rs)) none
      (and-of (eqb i i && leb (i + 1 + 3 * length r) index) (good_row n count r)
      (and-of (eqb i i) (leb (i + 1 + 3 * length r) index) (eqb_refl i) (le→leb (i + 1 + 3 * length r) index (omega arith)))
      (g r (Memᴰ.head refl))))

-- a plan
pub length-index : (i : ℕ) (l : List (List Move)) → length (index_bytes i l) ≡ 4 * length l
unfolding index_bytes
length-index i [] = omega arith
length-index i (r ∷ l) = omega (arith, length-append (le32 i) (index_bytes (i + length (row_bytes r)) l), length-32 i, length-index (i + length (row_bytes r)) l)

module _ (n k : ℕ) (rs : List (List Move)) where
  abbrev bytes : List ℕ
  bytes = plan_bytes n k rs

  -- its parts
  abbrev rp : List ℕ
  rp = rows_bytes rs

  abbrev ip : List ℕ
  ip = index_bytes 0 rs

  abbrev tp : List ℕ
  tp = le32 (length rp) ++ (le16 (length rs) ++ n ∷ k ∷ [])

  length-trailer : length tp ≡ 8
  length-trailer = omega (arith, length-append (le32 (length rp)) (le16 (length rs) ++ n ∷ k ∷ []), length-append (le16 (length rs)) (n ∷ k ∷ []), length-32 (length rp), length-16 (length rs))

  pub length-plan : length bytes ≡ length rp + 4 * length rs + 8
  unfolding plan_bytes
  length-plan = omega (arith, length-append rp (ip ++ tp), length-append ip tp, length-trailer, length-index 0 rs)

  all-bytes : At bytes 0 (rp ++ (ip ++ tp))
  unfolding plan_bytes
  all-bytes j l = ap (λ (m : ℕ). get_or bytes m 0) (zero-add j)

  at_rows : At bytes 0 rp
  at_rows = at_left bytes 0 rp (ip ++ tp) all-bytes

  at-index : At bytes (length rp) ip
  at-index = at_left bytes (length rp) ip tp (at-cast bytes (0 + length rp) (length rp) (ip ++ tp) (omega arith) (at_right bytes 0 rp (ip ++ tp) all-bytes))

  at-trailer : At bytes (length bytes - 8) tp
  at-trailer =
      at-cast bytes (0 + length rp + length ip) (length bytes - 8) tp (omega (arith, length-plan, length-index 0 rs))
      (at_right bytes (0 + length rp) ip tp (at_right bytes 0 rp (ip ++ tp) all-bytes))

  at-counts : At bytes (length bytes - 4) (le16 (length rs) ++ n ∷ k ∷ [])
  at-counts =
      at-cast bytes (length bytes - 8 + length (le32 (length rp))) (length bytes - 4) (le16 (length rs) ++ n ∷ k ∷ []) (omega (arith, length-plan, length-32 (length rp)))
      (at_right bytes (length bytes - 8) (le32 (length rp)) (le16 (length rs) ++ n ∷ k ∷ []) at-trailer)

  at_n : At bytes (length bytes - 2) (n ∷ k ∷ [])
  at_n =
      at-cast bytes (length bytes - 4 + length (le16 (length rs))) (length bytes - 2) (n ∷ k ∷ []) (omega (arith, length-plan, length-16 (length rs)))
      (at_right bytes (length bytes - 4) (le16 (length rs)) (n ∷ k ∷ []) at-counts)

  module _ (n-ok : n ≤ 7) (k-ok : k ≤ 3) (some-rows : 1 ≤ length rs) (few : length rs ≤ 4096)
      (short : length (rows_bytes rs) < 4294967296) (good : (r : List Move) → Memᴰ r rs → T (good_row n (length rs) r)) where
    read-parts : read_with bytes (length rp) (length rs) n k ≡ some (record { n = n; k = k; rows = rs })
    unfolding read_with
    read-parts =
        let rows : read_rows bytes (length rp) (length rs) n (length rs) 0 0 ≡ some rs =
        back-rows bytes (length rp) (length rs) n short few rs 0 0 good at_rows
        (at-cast bytes (length rp) (length rp + 4 * 0) ip (omega arith) at-index) (omega arith) in
        rw (
          rows,
          le-leb 8 (length bytes) (omega (arith, length-plan)),
          le-leb 1 (length rs) some-rows,
          le-leb (length rs) 4096 few,
          le-leb n 7 n-ok,
          le-leb k 3 k-ok,
          eq-eqb (length rp + 4 * length rs + 8) (length bytes) (sym length-plan),
        )

    pub plan-read-back : read_plan bytes ≡ some (record { n = n; k = k; rows = rs })
    unfolding read_plan
    plan-read-back =
        let i : dword bytes (length bytes - 8) ≡ length rp = at-dword bytes (length bytes - 8) (length rp) (at_left bytes (length bytes - 8) (le32 (length rp)) (le16 (length rs) ++ n ∷ k ∷ []) at-trailer) short in
        let c : word bytes (length bytes - 4) ≡ length rs = at-word bytes (length bytes - 4) (length rs) (at_left bytes (length bytes - 4) (le16 (length rs)) (n ∷ k ∷ []) at-counts) (omega arith) in
        let x : byte bytes (length bytes - 2) ≡ n = at_head bytes (length bytes - 2) n (k ∷ []) at_n in
        let y : byte bytes (length bytes - 1) ≡ k =
        at_head bytes (length bytes - 1) k []
        (at-cast bytes (length bytes - 2 + 1) (length bytes - 1) (k ∷ []) (omega (arith, length-plan)) (at_tail bytes (length bytes - 2) n (k ∷ []) at_n)) in
        rw (i, c, x, y) read-parts
