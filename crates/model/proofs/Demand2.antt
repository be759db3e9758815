-- Demand 2: an admitted pair comes to one of four cases, and each says what definition 3.7 of Padovani 2010 says there. What is proved of any
-- test (Connect, Weak) is used with the test of a mode.
-- Assumes nothing.
use mathlib.Core.Path.{◌≡◌, refl, sym, ap, subst⁻¹, ◌∙◌}
use mathlib.Core.Bool.{Bool, true, false, cond}
use mathlib.Core.Logic.{◌≢◌, ◌⊎◌, inl, inr, ⊎_elim}
use mathlib.Core.List.{List, [], ◌++◌, Memᴰ}
use Prim.Native.Nat.{ℕ, ◌≤◌, ◌<◌}
use native.Mathlib.Omega.{arith}
use lib.ListN.{length, take, drop}
use lib.Seq.{take-append_seam}
use lib.Dec.{leb, le→leb}
use borrow.Author.Tests.{leb-true}
use Rattle.model.specs.Contract.{Contract}
use Rattle.model.specs.Sheet.{Reading, good, refusal, Refusal, plain, Both, read_both}
use Rattle.model.specs.Situation.{Situation, start, alike, same, codes, next}
use Rattle.model.specs.Test.{Mode, paper, settled, is_settled, test}
use Rattle.model.specs.Search.{Search, search_from}
use Rattle.model.specs.Plan.{plan_bytes, rows_in}
use Rattle.model.specs.Connect.{Answer, Outcome, refused, counted, sifted_of, rows_for, connected, limit_of, ranked, outcome_of, connect_of}
use Rattle.model.specs.Weak.{AsksAt, IsWeak}
use Rattle.model.specs.Demands.{emitted_plan, Admitted, ReachedCount, HoldsLargest, outcome, number, StartRelated, Decides, Demand-2, SettledRefuses}
use Rattle.model.proofs.Lists.{cond_yes}
use Rattle.model.proofs.Sheet.{WellFormed, both-well-formed}
use Rattle.model.proofs.Test.{Computes, mode-computes}
use Rattle.model.proofs.Refusals.{OnlyRefused, both-numbers}
use Rattle.model.proofs.Connect.{Shape, cut_off, removed, too_long, fits, shape, cut-exceeds, whole-within, whole-count, kept-related, rounds-within, holds-largest, emitted-rows}

-- the reached situations are never more than the plan layout can number
pub limit-few : (records : ℕ) → limit_of records ≤ 4096
unfolding limit_of
limit-few records = omega arith

-- an answer that is none of 1 to 10 is of an admitted pair
pub answer-admitted : (mode : Mode) (records room k : ℕ) (old new : List ℕ)
    → (1 ≤ (outcome_of mode records room k old new).answer.number → (outcome_of mode records room k old new).answer.number ≤ 10 → ⊥)
    → (sheets : Both) × Admitted k old new sheets
unfolding outcome_of ranked refused plain
answer-admitted mode records room k old new = go (read_both 0 0 old new) refl (both-numbers 0 0 old new)
  where
    at-rank : (sheets : Both) → read_both 0 0 old new ≡ good sheets → (t : Bool) → leb k 3 ≡ t
        → (1 ≤ (cond t (connected (test mode sheets.one sheets.two) k sheets.one sheets.two (limit_of records) room) (refused (plain 10 0))).answer.number
        → (cond t (connected (test mode sheets.one sheets.two) k sheets.one sheets.two (limit_of records) room) (refused (plain 10 0))).answer.number ≤ 10 → ⊥)
        → (sheets : Both) × Admitted k old new sheets
    at-rank sheets e true l f = (sheets, record { reads = e; rank = leb-true k 3 l })
    at-rank sheets e false l f = absurd (f (omega arith) (omega arith))

    go : (r : Reading Refusal Both) → read_both 0 0 old new ≡ r → OnlyRefused (λ (r : Refusal). (1 ≤ r.number) × (r.number ≤ 9)) r
        → (1 ≤ (ranked mode k records room r).answer.number → (ranked mode k records room r).answer.number ≤ 10 → ⊥)
        → (sheets : Both) × Admitted k old new sheets
    go (refusal r) e o f = absurd (f o.0 (omega (arith, o.1)))
    go (good sheets) e o f = at-rank sheets e (leb k 3) refl f

-- an admitted pair comes to `connected`
pub admitted-outcome : (mode : Mode) (records room k : ℕ) (old new : List ℕ) (sheets : Both) → Admitted k old new sheets
    → outcome_of mode records room k old new ≡ connected (test mode sheets.one sheets.two) k sheets.one sheets.two (limit_of records) room
unfolding outcome_of ranked
admitted-outcome mode records room k old new sheets a =
    ap (ranked mode k records room) a.reads ∙ cond_yes (leb k 3) (connected (test mode sheets.one sheets.two) k sheets.one sheets.two (limit_of records) room) (refused (plain 10 0)) (le→leb k 3 a.rank)

module _ {R : Type 0} (blank : R) (mode : Mode) (k : ℕ) (old new : List ℕ) (sheets : Both) (work : List R) (a : Admitted k old new sheets) where
  abbrev σ : Contract
  σ = sheets.one

  abbrev τ : Contract
  τ = sheets.two

  abbrev passes : List ℕ → Situation → Bool
  passes = test mode σ τ

  abbrev asks : (ℕ → Type 0) → Situation → Type 0
  asks = AsksAt mode σ τ

  computes : Computes τ passes asks
  computes = mode-computes mode σ τ

  abbrev limit : ℕ
  limit = limit_of (length work)

  abbrev search : Search Situation
  search = search_from same codes (next (alike k) σ τ) limit start

  abbrev kept : List Situation
  kept = (sifted_of passes k σ τ search.done).kept

  abbrev bytes : List ℕ
  bytes = plan_bytes σ.n k (rows_for k σ τ kept)

  formed : WellFormed σ × WellFormed τ × (σ.n ≡ τ.n)
  formed = both-well-formed 0 0 old new sheets a.reads

  -- what is answered and written, by what `connected` comes to
  answer_is : (plan : List ℕ) (o : Outcome) → connected passes k σ τ limit (length plan) ≡ o → (outcome blank mode k old new sheets work plan).answer ≡ o.answer
  unfolding connect_of
  answer_is plan o e = ap (λ (o : Outcome). o.answer) (admitted-outcome mode (length work) (length plan) k old new sheets a ∙ e)

  pub emitted-is : (plan : List ℕ) (situations states rounds : ℕ) → connected passes k σ τ limit (length plan) ≡ counted 0 situations states rounds bytes
      → emitted_plan (outcome blank mode k old new sheets work plan) ≡ bytes
  unfolding connect_of counted
  emitted-is plan situations states rounds e =
      ap (λ (o : Outcome). take o.answer.length (o.bytes ++ drop (length o.bytes) plan)) (admitted-outcome mode (length work) (length plan) k old new sheets a ∙ e)
      ∙ take-append_seam bytes (drop (length bytes) plan)

  module _ (plan : List ℕ) where
    abbrev answer : Answer
    answer = (outcome blank mode k old new sheets work plan).answer

    abbrev Goal : Type 1
    Goal = Decides blank mode k old new sheets work plan

    decides-cut : (search.todo ≢ []) → connected passes k σ τ limit (length plan) ≡ refused (plain 11 0) → Goal
    unfolding refused plain
    decides-cut n e =
        let q : answer ≡ record { number = 11; sheet = 0; state = 0; offset = 0; situations = 0; states = 0; rounds = 0; length = 0 } = answer_is plan (refused (plain 11 0)) e in
        let is-11 : answer.number ≡ 11 = ap (λ (x : Answer). x.number) q in
        record {
          capacity = ((λ z. cut-exceeds k σ τ limit n), (λ x. is-11));
          accepts = λ no _. absurd (no is-11);
          refuses = λ no. absurd (no is-11);
          room = λ no _. absurd (no is-11);
          situations = λ no. absurd (no is-11);
          rounds = subst⁻¹ (λ (x : Answer). x.rounds ≤ x.situations) q (omega arith);
          states = λ z. absurd (omega (arith, is-11, z));
          no_states = λ z. absurd (omega (arith, is-11, z));
          real = λ z. absurd (omega (arith, is-11, z));
          emitted = λ z. absurd (omega (arith, is-11, z));
        }

    decides-removed : search.todo ≡ [] → (Memᴰ start kept → ⊥)
        → connected passes k σ τ limit (length plan) ≡ counted 12 (length search.done) 0 (sifted_of passes k σ τ search.done).rounds [] → Goal
    unfolding counted
    decides-removed w n e =
        let q = answer_is plan (counted 12 (length search.done) 0 (sifted_of passes k σ τ search.done).rounds []) e in
        let is-12 : answer.number ≡ 12 = ap (λ (x : Answer). x.number) q in
        let none-holds : StartRelated blank mode k old new sheets work → ⊥ = (λ r. n ((kept-related k σ τ limit passes w asks computes).1 r)) in
        record {
          capacity = ((λ z. absurd (omega (arith, is-12, z))), (λ x. absurd (whole-within k σ τ limit w x)));
          accepts = λ _ _. ((λ z. absurd (omega (arith, is-12, z))), (λ r. absurd (none-holds r)));
          refuses = λ _. ((λ z. none-holds), (λ _. is-12));
          room = λ _ r. absurd (none-holds r);
          situations = λ _. subst⁻¹ (λ (x : Answer). ReachedCount k σ τ x.situations) q (whole-count k σ τ limit w);
          rounds = subst⁻¹ (λ (x : Answer). x.rounds ≤ x.situations) q (rounds-within k σ τ limit passes w);
          states = λ z. absurd (omega (arith, is-12, z));
          no_states = λ z. ap (λ (x : Answer). x.states) q;
          real = λ z. absurd (omega (arith, is-12, z));
          emitted = λ z. absurd (omega (arith, is-12, z));
        }

    -- the plan's size decides between acceptance and 13
    has_room : search.todo ≡ [] → Memᴰ start kept
        → (size : ℕ)
        × ((p : List ℕ) → size ≤ length p → (number blank mode k old new sheets work p ≡ 0) × ((outcome blank mode k old new sheets work p).answer.length ≡ size))
        × ((p : List ℕ) → length p < size → number blank mode k old new sheets work p ≡ 13)
    unfolding counted
    has_room w m = (length bytes, (λ p h. enough p h (shape k σ τ limit passes (length p))), (λ p h. short p h (shape k σ τ limit passes (length p))))
      where
        enough : (p : List ℕ) → length bytes ≤ length p → Shape k σ τ limit passes (length p)
            → (number blank mode k old new sheets work p ≡ 0) × ((outcome blank mode k old new sheets work p).answer.length ≡ length bytes)
        enough p h (cut_off n e) = absurd (n w)
        enough p h (removed _ n e) = absurd (n m)
        enough p h (too_long _ _ l e) = absurd (omega arith)
        enough p h (fits _ _ l e) =
            let q = answer_is p (counted 0 (length search.done) (length (rows_for k σ τ kept)) (sifted_of passes k σ τ search.done).rounds bytes) e in
            (ap (λ (x : Answer). x.number) q, ap (λ (x : Answer). x.length) q)

        short : (p : List ℕ) → length p < length bytes → Shape k σ τ limit passes (length p) → number blank mode k old new sheets work p ≡ 13
        short p h (cut_off n e) = absurd (n w)
        short p h (removed _ n e) = absurd (n m)
        short p h (too_long _ _ l e) =
            let q = answer_is p (counted 13 (length search.done) (length (rows_for k σ τ kept)) (sifted_of passes k σ τ search.done).rounds []) e in
            ap (λ (x : Answer). x.number) q
        short p h (fits _ _ l e) = absurd (omega arith)

    -- the counts of an acceptance
    counts-kept : search.todo ≡ [] → Memᴰ start kept → (p : List ℕ) → number blank mode k old new sheets work p ≡ 0
        → ((outcome blank mode k old new sheets work p).answer.situations ≡ length search.done)
        × ((outcome blank mode k old new sheets work p).answer.states ≡ length (rows_for k σ τ kept))
        × ((outcome blank mode k old new sheets work p).answer.rounds ≡ (sifted_of passes k σ τ search.done).rounds)
    unfolding counted
    counts-kept w m p z = go (shape k σ τ limit passes (length p))
      where
        go : Shape k σ τ limit passes (length p)
            → ((outcome blank mode k old new sheets work p).answer.situations ≡ length search.done)
            × ((outcome blank mode k old new sheets work p).answer.states ≡ length (rows_for k σ τ kept))
            × ((outcome blank mode k old new sheets work p).answer.rounds ≡ (sifted_of passes k σ τ search.done).rounds)
        go (cut_off n e) = absurd (n w)
        go (removed _ n e) = absurd (n m)
        go (too_long _ _ l e) =
            let q = answer_is p (counted 13 (length search.done) (length (rows_for k σ τ kept)) (sifted_of passes k σ τ search.done).rounds []) e in
            absurd (omega (arith, z, ap (λ (x : Answer). x.number) q))
        go (fits _ _ l e) =
            let q = answer_is p (counted 0 (length search.done) (length (rows_for k σ τ kept)) (sifted_of passes k σ τ search.done).rounds bytes) e in
            (ap (λ (x : Answer). x.situations) q, ap (λ (x : Answer). x.states) q, ap (λ (x : Answer). x.rounds) q)

    decides-kept : (last : ℕ) (emitted : List ℕ) → search.todo ≡ [] → Memᴰ start kept → (last ≡ 0) ⊎ (last ≡ 13)
        → connected passes k σ τ limit (length plan) ≡ counted last (length search.done) (length (rows_for k σ τ kept)) (sifted_of passes k σ τ search.done).rounds emitted
        → (last ≡ 0 → emitted ≡ bytes) → Goal
    unfolding counted
    decides-kept last emitted w m c e full =
        let q = answer_is plan (counted last (length search.done) (length (rows_for k σ τ kept)) (sifted_of passes k σ τ search.done).rounds emitted) e in
        let is_last : answer.number ≡ last = ap (λ (x : Answer). x.number) q in
        let holds : StartRelated blank mode k old new sheets work = (kept-related k σ τ limit passes w asks computes).0 m in
        let not-11 : (answer.number ≡ 11) → ⊥ = (λ z. ⊎_elim (λ (y : last ≡ 0). omega (arith, is_last, z)) (λ (y : last ≡ 13). omega (arith, is_last, z)) c) in
        let not-12 : (answer.number ≡ 12) → ⊥ = (λ z. ⊎_elim (λ (y : last ≡ 0). omega (arith, is_last, z)) (λ (y : last ≡ 13). omega (arith, is_last, z)) c) in
        let plan-is : (answer.number ≡ 0) → emitted_plan (outcome blank mode k old new sheets work plan) ≡ bytes =
        (λ z.
        let zero-last : last ≡ 0 = omega (arith, is_last, z) in
        let whole : counted last (length search.done) (length (rows_for k σ τ kept)) (sifted_of passes k σ τ search.done).rounds emitted
        ≡ counted 0 (length search.done) (length (rows_for k σ τ kept)) (sifted_of passes k σ τ search.done).rounds bytes =
        (λ i. counted (zero-last i) (length search.done) (length (rows_for k σ τ kept)) (sifted_of passes k σ τ search.done).rounds (full zero-last i)) in
        emitted-is plan (length search.done) (length (rows_for k σ τ kept)) (sifted_of passes k σ τ search.done).rounds (e ∙ whole)) in
        record {
          capacity = ((λ z. absurd (not-11 z)), (λ x. absurd (whole-within k σ τ limit w x)));
          accepts = λ _ not-13. (
            (λ z. holds),
            (λ r. ⊎_elim (λ (y : last ≡ 0). is_last ∙ y) (λ (y : last ≡ 13). absurd (not-13 (is_last ∙ y))) c),
          );
          refuses = λ _. ((λ z. absurd (not-12 z)), (λ none-holds. absurd (none-holds holds)));
          room = λ _ _. has_room w m;
          situations = λ _. subst⁻¹ (λ (x : Answer). ReachedCount k σ τ x.situations) q (whole-count k σ τ limit w);
          rounds = subst⁻¹ (λ (x : Answer). x.rounds ≤ x.situations) q (rounds-within k σ τ limit passes w);
          states = λ z.
              ap (λ (x : Answer). x.states) q
              ∙ sym (ap (λ (b : List ℕ). length (rows_in b)) (plan-is z) ∙ ap length (emitted-rows k σ τ limit passes w m formed.0 formed.1 formed.2 a.rank (limit-few (length work))));
          no_states = λ z. absurd (not-12 z);
          real = λ z p zero-p.
              let other = counts-kept w m p zero-p in
              (ap (λ (x : Answer). x.situations) q ∙ sym other.0, ap (λ (x : Answer). x.states) q ∙ sym other.1, ap (λ (x : Answer). x.rounds) q ∙ sym other.2);
          emitted = λ z.
              subst⁻¹ (HoldsLargest asks k σ τ) (plan-is z)
              (holds-largest k σ τ limit passes w m formed.0 formed.1 formed.2 a.rank (limit-few (length work)) asks computes);
        }

    decides : Shape k σ τ limit passes (length plan) → Goal
    decides (cut_off n e) = decides-cut n e
    decides (removed w n e) = decides-removed w n e
    decides (too_long w m l e) = decides-kept 13 [] w m (inr refl) e (λ (z : 13 ≡ 0). absurd (omega arith))
    decides (fits w m l e) = decides-kept 0 bytes w m (inl refl) e (λ _. refl)

pub demand-2 : Demand-2
demand-2 R blank mode k old new sheets work plan a =
    decides blank mode k old new sheets work a plan
    (shape k sheets.one sheets.two (limit_of (length work)) (test mode sheets.one sheets.two) (length plan))

-- ---- the settled mode refuses what the paper's does

module _ (limits : List ℕ) (σ τ : Contract) where
  -- a relation that the settled mode asks for is one of definition 3.7
  weaker : (W : Situation → Type 0) → IsWeak limits σ τ (AsksAt settled σ τ) W → IsWeak limits σ τ (AsksAt paper σ τ) W
  unfolding is_settled
  weaker W f s w =
      let x = f s w in
      record {
        rank = x.rank;
        acts = x.acts;
        client_enabled = x.client_enabled;
        service_enabled = x.service_enabled;
        passes = record { passes = x.passes.passes; delivers = λ none. absurd none };
        straight_leads = x.straight_leads;
        client_leads = x.client_leads;
        service_leads = x.service_leads;
      }

pub settled-refuses : SettledRefuses
unfolding connect_of
settled-refuses R blank k old new work plan z =
    let a = answer-admitted paper (length work) (length plan) k old new (λ l h. absurd (omega (arith, z, h))) in
    let sheets = a.0 in
    let ours = demand-2 R blank paper k old new sheets work plan a.1 in
    let theirs = demand-2 R blank settled k old new sheets work plan a.1 in
    let not-11 : (number blank paper k old new sheets work plan ≡ 11) → ⊥ = (λ e. absurd (omega (arith, z, e))) in
    let none-holds = (ours.refuses not-11).0 z in
    (theirs.refuses (λ e. not-11 (ours.capacity.1 (theirs.capacity.0 e)))).1
    (λ r. none-holds (r.0, weaker (alike k) sheets.one sheets.two r.0 r.1, r.2))
