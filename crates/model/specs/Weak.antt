-- Coinductive weak k-subcontract relations: definition 3.7 of Padovani 2010, with the notions of its section 3.1, and what the settled mode
-- of document 02, request 5/13, asks besides.
-- There σ is the old contract and τ the new one. An orchestration action is a code: with α the action j, code j is
-- ⟨α, ᾱ⟩, code 16+j is ⟨α, ε⟩ and code 32+j is ⟨ε, ᾱ⟩. A set A of them is any family of types over the codes.
-- Assumes nothing.
use Rattle.std.specs.Prelude.{◌≡◌, cond, ◌⊎◌, ℕ, suc, ◌+◌, ◌≤◌, ◌<◌, length, get_or, set, T}
use mathlib.Core.List.{List, Memᴰ}
use Rattle.std.proofs.Math.Option.{Option, some}
use Rattle.model.specs.Contract.{Contract, State, takes, has, state, offers, after}
use Rattle.model.specs.Situation.{Situation, lowered}
use Rattle.model.specs.Test.{Mode, is_settled}

-- "B has rank k, or is a k-buffer": every count is within 0 and k. Here each count has its own limit; k is fourteen alike.
pub record Rank (limits b : List ℕ) : Type 0 where
  pub size : length b ≡ 14
  pub bounded : (i : ℕ) → get_or b i 0 ≤ get_or limits i 0

-- One message more in a count, of whatever rank. With `lowered`, one message less, it makes the paper's Bμ for an asynchronous action μ. The
-- paper lets counts fall below 0, where they have no rank; here `lowered` then gives no buffer.
unfoldable pub more : List ℕ → ℕ → Option (List ℕ)
more b i = some (set b i (suc (get_or b i 0)))

-- B⟨α, ε⟩: accept from the client, or send to it
unfoldable pub client_effect : List ℕ → ℕ → Option (List ℕ)
client_effect b j = cond (takes j) (more b j) (lowered b j)

-- B⟨ε, ᾱ⟩: send to the service, or accept from it
unfoldable pub service_effect : List ℕ → ℕ → Option (List ℕ)
service_effect b j = cond (takes j) (lowered b j) (more b j)

-- j is in A ∘ S, the service ready set that the client perceives
abbrev pub Perceived : (ℕ → Type 0) → ℕ → ℕ → Type 0
Perceived A S j = A (16 + j) ⊎ (T (has S j) × A j)

-- R ⊆ A ∘ S
abbrev pub Covered : (ℕ → Type 0) → ℕ → ℕ → Type 0
Covered A S R = (j : ℕ) → j < 14 → T (has R j) → Perceived A S j

-- (∅ • A) meets the partners of S
abbrev pub Hope : (ℕ → Type 0) → ℕ → Type 0
Hope A S = (j : ℕ) × (j < 14) × T (has S j) × A (32 + j)

-- condition (1): for each ready set S of τ, some ready set R of σ is within A ∘ S, or (∅ • A) meets the partners of S
abbrev pub Passes : State → State → (ℕ → Type 0) → Type 0
Passes σ τ A = (S : ℕ) → Memᴰ S τ.ready → ((R : ℕ) × Memᴰ R σ.ready × Covered A S R) ⊎ Hope A S

-- ---- the settled mode

-- "the old state has an empty ready set": one with no action
abbrev pub Rests : State → Type 0
Rests σ = (R : ℕ) × Memᴰ R σ.ready × ((j : ℕ) → j < 14 → T (has R j) → ⊥)

-- "any count for the service is above 0": count i, for a name i
abbrev pub Waits : List ℕ → Type 0
Waits b = (i : ℕ) × (i < 7) × (0 < get_or b i 0)

-- "if the old state has an empty ready set and any count for the service is above 0, then for every ready set S of the new state some j in
-- S has 32+j in A"
abbrev pub Delivers : State → State → List ℕ → (ℕ → Type 0) → Type 0
Delivers σ τ b A = Rests σ → Waits b → (S : ℕ) → Memᴰ S τ.ready → Hope A S

-- what a mode asks of a set A, with the old state σ, the new state τ and the buffer b: condition (1); and in the settled mode the second part
pub record Asks (mode : Mode) (σ τ : State) (b : List ℕ) (A : ℕ → Type 0) : Type 0 where
  pub passes : Passes σ τ A
  pub delivers : T (is_settled mode) → Delivers σ τ b A

-- the same at a situation
abbrev pub AsksAt : Mode → (old new : Contract) → (ℕ → Type 0) → Situation → Type 0
AsksAt mode old new A s = Asks mode (state old s.old) (state new s.new) s.buffer A

-- ---- the relations

-- with `asks`, what is asked of a set A at a situation: in the paper's mode condition (1) alone, as definition 3.7 has it
module _ (limits : List ℕ) (old new : Contract) (asks : (ℕ → Type 0) → Situation → Type 0) where
  -- what definition 3.7 asks of a member s = (B, σ, τ) of W
  pub record Weak {ℓ} (W : Situation → Type ℓ) (s : Situation) : Type (1 ⊔ ℓ) where
    -- B is a k-buffer
    pub rank : Rank limits s.buffer
    -- there is a set A of orchestration actions
    pub acts : ℕ → Type 0
    -- that B enables: Bμ is a k-buffer for each μ in A; ⟨α, ᾱ⟩ leaves B as it is
    pub client_enabled : (j : ℕ) → j < 14 → acts (16 + j) → (b : List ℕ) × (client_effect s.buffer j ≡ some b) × Rank limits b
    pub service_enabled : (j : ℕ) → j < 14 → acts (32 + j) → (b : List ℕ) × (service_effect s.buffer j ≡ some b) × Rank limits b
    -- condition (1), and what the mode asks besides
    pub passes : asks acts s
    -- condition (2): if τ can meet an action of A, then σ can, and what follows is in W
    pub straight_leads : (j : ℕ) → j < 14 → T (offers (state new s.new) j) → acts j
        → T (offers (state old s.old) j)
        × W (record { buffer = s.buffer; old = after (state old s.old) j; new = after (state new s.new) j })
    pub client_leads : (j : ℕ) (b : List ℕ) → j < 14 → acts (16 + j) → client_effect s.buffer j ≡ some b
        → T (offers (state old s.old) j) × W (record { buffer = b; old = after (state old s.old) j; new = s.new })
    pub service_leads : (j : ℕ) (b : List ℕ) → j < 14 → T (offers (state new s.new) j) → acts (32 + j) → service_effect s.buffer j ≡ some b
        → W (record { buffer = b; old = s.old; new = after (state new s.new) j })

  -- W is a coinductive weak k-subcontract relation
  abbrev pub IsWeak {ℓ} : (Situation → Type ℓ) → Type (1 ⊔ ℓ)
  IsWeak W = (s : Situation) → W s → Weak W s

  -- the largest of them: what some such relation holds
  abbrev pub Largest : Situation → Type 1
  Largest s = (W : Situation → Type 0) × IsWeak W × W s
