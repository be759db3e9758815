-- Only so many situations are reached: their states are the contracts' and their counts are within the limits. So some search is whole.
-- Assumes nothing.
use mathlib.Core.Path.{◌≡◌, refl}
use mathlib.Core.List.{List, [], ◌∷◌, Memᴰ}
use Prim.Native.Nat.{ℕ, zero, suc, ◌≤◌, ◌<◌}
use native.Mathlib.Omega.{arith}
use lib.ListN.{length, get_or}
use Rattle.model.specs.Lists.{combine, upto}
use Rattle.model.specs.Contract.{Contract}
use Rattle.model.specs.Situation.{Situation, start, same, codes, next}
use Rattle.model.specs.Search.{Reached, search_from}
use Rattle.model.proofs.Lists.{combine-intro}
use Rattle.model.proofs.Actions.{mem-upto}
use Rattle.model.proofs.Search.{search-whole}
use Rattle.model.proofs.Situation.{is_same}
use Rattle.model.proofs.Weak.{rank-reached, reached-within}
use Rattle.model.proofs.Sheet.{WellFormed}

below : (count i : ℕ) → i < count → Memᴰ i (upto 0 count)
below count i h = mem-upto count 0 i (omega arith) (omega arith)

-- lists of n counts, each within its limit
buffers : (n : ℕ) → (ℕ → ℕ) → List (List ℕ)
buffers zero limit = [] ∷ []
buffers (suc n) limit = combine ◌∷◌ (upto 0 (suc (limit 0))) (buffers n (λ i. limit (suc i)))

all-buffers : (n : ℕ) (limit : ℕ → ℕ) (b : List ℕ) → length b ≡ n → ((i : ℕ) → get_or b i 0 ≤ limit i) → Memᴰ b (buffers n limit)
unfolding buffers
all-buffers zero limit [] e f = Memᴰ.head refl
all-buffers zero limit (x ∷ b) e f = absurd (omega arith)
all-buffers (suc n) limit [] e f = absurd (omega arith)
all-buffers (suc n) limit (x ∷ b) e f =
    combine-intro ◌∷◌ (below (suc (limit 0)) x (omega (arith, f 0))) (all-buffers n (λ i. limit (suc i)) b (omega arith) (λ i. f (suc i)))

module _ (limits : List ℕ) (old new : Contract) (old-formed : WellFormed old) (new-formed : WellFormed new) where
  abbrev situation : List ℕ → ℕ → ℕ → Situation
  situation b p q = record { buffer = b; old = p; new = q }

  -- every buffer within the limits with every state of the old contract and every state of the new one
  board : List Situation
  board =
      combine (λ f q. f q) (combine situation (buffers 14 (λ i. get_or limits i 0)) (upto 0 (length old.states)))
      (upto 0 (length new.states))

  on-board : (s : Situation) → Reached codes (next limits old new) start s → Memᴰ s board
  unfolding board
  on-board s r =
      let w = reached-within limits old new old-formed new-formed r in
      let k = rank-reached limits old new r in
      combine-intro (λ (f : ℕ → Situation) (q : ℕ). f q)
      (combine-intro situation (all-buffers 14 (λ i. get_or limits i 0) s.buffer k.size k.bounded)
      (below (length old.states) s.old w.0))
      (below (length new.states) s.new w.1)

  pub some-search-whole : (limit : ℕ) × ((search_from same codes (next limits old new) limit start).todo ≡ [])
  some-search-whole =
      (length board, search-whole same is_same codes (next limits old new) start (length board) board (omega arith) on-board)
