-- Where every reached pair is sound, a code of a reached pair's row that the new state can meet leads to a reached pair.
-- Assumes nothing.
use mathlib.Core.Path.{◌≡◌, refl}
use mathlib.Core.Option.{some}
use mathlib.Core.List.{List, Memᴰ}
use Prim.Native.Nat.{ℕ}
use lib.Dec.{T}
use Rattle.model.specs.Contract.{Contract, state}
use Rattle.model.specs.Situation.{Situation, kind_of, codes, next}
use Rattle.model.specs.Test.{Mode}
use Rattle.model.specs.Search.{by_move}
use Rattle.model.specs.Plan.{Move, held}
use Rattle.model.proofs.Situation.{behind, next-intro}
use Rattle.edits.specs.Places.{Place, row_here, IsPlace}
use Rattle.edits.specs.Sound.{new_meets}
use Rattle.edits.specs.Promises.{RowCode, IsSound}
use Rattle.edits.proofs.Places.{held-code, follow-intro}
use Rattle.edits.proofs.Sound.{both-met}

module _ (mode : Mode) (limits : List ℕ) (old new : Contract) (rows : List (List Move)) (sound : IsSound mode limits old new rows) where
  -- it is enabled: the old state can meet it too, and the buffer is kept
  pub met-enabled : (x : Place) → IsPlace limits old new rows x → (code : ℕ) → RowCode mode limits old new rows x code
      → T (new_meets (state new x.at.new) (kind_of code)) → (t : Situation) × (next limits old new x.at code ≡ some t)
  met-enabled x r code m met =
      let s = x.at in
      let b = (sound x r).within code m in
      let o = both-met (state old s.old) (state new s.new) (kind_of code) met ((sound x r).meets code m met) in
      (behind limits old new s b.0 (kind_of code), next-intro limits old new s code (kind_of code) b.0 refl o b.1)

  -- and the row's next state is reached with the next situation
  pub held-leads : (x : Place) → IsPlace limits old new rows x → (code to : ℕ) → Memᴰ code codes
      → held (row_here limits old new rows x) code ≡ some to → T (new_meets (state new x.at.new) (kind_of code))
      → (t : Situation) × (next limits old new x.at code ≡ some t) × IsPlace limits old new rows (record { plan = to; at = t })
  held-leads x r code to known h met =
      let w = met-enabled x r code (held-code (row_here limits old new rows x) code to h) met in
      (w.0, w.1, by_move code known (follow-intro limits old new rows x code to w.0 h w.1) r)
