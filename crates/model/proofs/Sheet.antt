-- A sheet that is read is well formed: each test that reading makes gives a fact, from a row's masks up to two whole sheets.
-- Assumes nothing.
use mathlib.Core.Path.{◌≡◌, refl, sym, ap, subst, subst⁻¹, ◌∙◌}
use mathlib.Core.Bool.{Bool, true, false, not, ◌&&◌, ◌||◌}
use mathlib.Core.Logic.{⊎_elim}
use mathlib.Core.List.Memᴰ
use mathlib.Core.List.{List, [], ◌∷◌, Memᴰ}
use Prim.Native.Nat.{ℕ, zero, suc, ◌+◌, ◌*◌, ◌≤◌, ◌<◌}
use native.Mathlib.Omega.{arith}
use lib.ListN.{length, get_or}
use lib.Dec.{T, eqb, ltb, leb, T_not, not_T, eqb→eq, ltb→lt, leb→le, nleb→lt}
use Rattle.model.specs.Lists.{any, keep, place}
use Rattle.model.specs.Bytes.{byte}
use Rattle.model.specs.Contract.{Contract, State, actions, has, name, state, nowhere, offers, offers_in, offered_below, after}
use Rattle.model.specs.Sheet.{Reading, good, refusal, check, then, Fault, Trailer, trailer, stray_bit, words_from, masks_from, successors_from, Row, row_with, row_at, states_from, Sheet, good_trailer, read_sheet, in_place, Both, read_both, sheet_of, contract_in}
use Rattle.model.proofs.Lists.{and_both, and-of, or_left, any-intro, any-elim, keep-grows-strictly, get_d_mem, none_passes}
use Rattle.model.proofs.Actions.{action}
use Rattle.model.proofs.RowMasks.{length-words}

-- ---- readings

-- a refusal is not a result
pub never-good : {E A : Type 0} {e : E} {a : A} → ◌≡◌ {A = Reading E A} (refusal e) (good a) → ⊥
never-good p = let z : ◌≡◌ {A = ℕ} 0 1 = cc in omega arith

pub good-injective : {E A : Type 0} {a a' : A} → ◌≡◌ {A = Reading E A} (good a) (good a') → a ≡ a'
good-injective p = cc

pub refusal-injective : {E A : Type 0} {e e' : E} → ◌≡◌ {A = Reading E A} (refusal e) (refusal e') → e ≡ e'
refusal-injective p = cc

-- a test on the way to a result was passed
pub check-good : {E A : Type 0} (ok : Bool) (e : E) (r : Reading E A) {a : A} → check ok e r ≡ good a → T ok × (r ≡ good a)
unfolding check
check-good true e r p = (tt, p)
check-good false e r p = absurd (never-good p)

-- a step on the way to a result had a result
pub then-good : {E A B : Type 0} (r : Reading E A) (f : A → Reading E B) {b : B} → then r f ≡ good b → (a : A) × (r ≡ good a) × (f a ≡ good b)
unfolding then
then-good (good a) f p = (a, refl, p)
then-good (refusal e) f p = absurd (never-good p)

-- a refusal goes through
pub then-refused : {E A B : Type 0} {r : Reading E A} {e : E} (f : A → Reading E B) → r ≡ refusal e → then r f ≡ refusal e
unfolding then
then-refused f h = rw h refl

-- where the step behind has a result, the step before was refused
pub refused-inside : {E A B : Type 0} (r : Reading E A) (f : A → Reading E B) {e : E} → ((a : A) → f a ≡ refusal e → ⊥)
    → then r f ≡ refusal e → r ≡ refusal e
unfolding then
refused-inside (good a) f h p = absurd (h a p)
refused-inside (refusal d) f h p = ap refusal (refusal-injective p)

-- ---- lists that are read

-- a list of so many elements, for each of which something holds
pub record Each {A : Type 0} (P : A → Type 0) (left : ℕ) (l : List A) : Type 0 where
  pub size : length l ≡ left
  pub holds : (x : A) → Memᴰ x l → P x

module _ {A : Type 0} (P : A → Type 0) where
  pub each_none : {l : List A} → [] ≡ l → Each P 0 l
  each_none p = subst (Each P 0) p (record { size = refl; holds = λ x m. absurd (Memᴰ.not-nil m) })

  pub each-one-more : {x : A} {left : ℕ} {r l : List A} → P x → Each P left r → x ∷ r ≡ l → Each P (suc left) l
  each-one-more {x} h e p =
      subst (Each P (suc _)) p
      (record {
        size = ap suc e.size;
        holds = λ y m. ⊎_elim (λ q. subst⁻¹ P q h) (e.holds y) (Memᴰ.cases_cons m);
      })

-- ---- rows

-- what reading gives of a state, in a sheet of n names and so many states
record WellFormedState (n count : ℕ) (s : State) : Type 0 where
  named : (j : ℕ) → j < 14 → T (offers s j) → name j < n
  closed : (j : ℕ) → j < 14 → T (offers s j) → after s j < count
  some_ready : 0 < length s.ready

-- the place of an action's successor is one of as many places as actions are offered
pub offered-below : (s : State) (j : ℕ) → j < 14 → T (offers s j) → offered_below s j < length (keep (offers s) actions)
unfolding offered_below
offered-below s j h o =
    keep-grows-strictly (λ i. ltb i j && offers s i) (offers s) (λ i t. (and_both (ltb i j) (offers s i) t).1) (action j h)
    (λ t. omega (arith, ltb→lt j j (and_both (ltb j j) (offers s j) t).0)) o

-- a mask with no stray bit has actions with names only
pub mask-named : (n role mask j : ℕ) → j < 14 → T (not (stray_bit n role mask)) → T (has mask j) → name j < n
unfolding stray_bit
mask-named n role mask j h clean o =
    let nameless : ℕ → Bool = λ i. has mask i && leb n (name i) in
    nleb→lt n (name j)
    (not_T (leb n (name j))
    (λ u.
    T_not (stray_bit n role mask) clean
    (or_left (any nameless actions || has mask 15) (has mask 14 && eqb role 0)
    (or_left (any nameless actions) (has mask 15) (any-intro nameless (action j h) (and-of (has mask j) (leb n (name j)) o u))))))

module _ (b : List ℕ) (t : Trailer) where
  masks-good : (q count least i : ℕ) {masks : List ℕ} → masks_from b t q count least i ≡ good masks
      → Each (λ mask. T (not (stray_bit t.n t.role mask))) count masks
  unfolding masks_from
  masks-good q count least i p =
      let masks = words_from b count i in
      let stray = stray_bit t.n t.role in
      let clean = check-good _ _ _ p in
      let size = length-words b count i in
      subst (Each (λ mask. T (not (stray mask))) count) (good-injective (check-good _ _ _ clean.1).1)
      (record {
        size = size;
        holds = λ mask m. subst⁻¹ (λ (v : Bool). T (not v))
            (none_passes stray masks (omega (arith, size, leb→le count (place stray masks) clean.0)) mask m) tt;
      })

  successors-good : (q left i : ℕ) {successors : List ℕ} → successors_from b t q left i ≡ good successors
      → Each (λ next. next < t.count) left successors
  unfolding successors_from
  successors-good q zero i p = each_none _ (good-injective p)
  successors-good q (suc left) i p =
      let below = check-good _ _ _ p in
      let rest = then-good _ _ below.1 in
      each-one-more _ (ltb→lt (byte b i) t.count below.0) (successors-good q left (i + 1) rest.1) (good-injective rest.2)

  row-with-good : (q i : ℕ) {left : ℕ} {masks : List ℕ} {row : Row} → 0 < left → Each (λ mask. T (not (stray_bit t.n t.role mask))) left masks
      → row_with b t q i masks ≡ good row → WellFormedState t.n t.count row.state
  unfolding row_with offers offers_in after
  row-with-good q i {left} {masks} l e p =
      let offered = length (keep (offers_in masks) actions) in
      let rest = then-good _ _ (check-good _ _ _ p).1 in
      let each = successors-good q offered i rest.1 in
      let s : State = record { ready = masks; successors = rest.0 } in
      subst (λ (row : Row). WellFormedState t.n t.count row.state) (good-injective rest.2)
      (record {
        named = λ j h o. let w = any-elim (λ mask. has mask j) masks o in mask-named t.n t.role w.0 j h (e.holds w.0 w.1) w.2;
        closed = λ j h o. each.holds (after s j) (get_d_mem rest.0 (offered_below s j) 0 (omega (arith, offered-below s j h o)));
        some_ready = omega arith;
      })

  row-good : (q i : ℕ) {row : Row} → row_at b t q i ≡ good row → WellFormedState t.n t.count row.state
  unfolding row_at
  row-good q i p =
      let count = byte b i in
      let few = check-good _ _ _ (check-good _ _ _ p).1 in
      let masks = then-good _ _ (check-good _ _ _ few.1).1 in
      row-with-good q (i + 1 + 2 * count) (leb→le 1 count (and_both (leb 1 count) (leb count 8) few.0).0) (masks-good q count 0 (i + 1) masks.1) masks.2

  states-good : (left q i : ℕ) {states : List State} → states_from b t left q i ≡ good states → Each (WellFormedState t.n t.count) left states
  unfolding states_from
  states-good zero q i p = each_none _ (good-injective (check-good _ _ _ p).1)
  states-good (suc left) q i p =
      let row = then-good _ _ (check-good _ _ _ p).1 in
      let rest = then-good _ _ row.2 in
      each-one-more _ {r = rest.0} (row-good q i row.1) (states-good left (suc q) row.0.behind rest.1) (good-injective rest.2)

-- ---- sheets

-- what reading gives of a contract
pub record WellFormed (c : Contract) : Type 0 where
  pub few_names : c.n ≤ 7
  pub some-state : 0 < length c.states
  pub few_states : length c.states ≤ 64
  pub named : (q j : ℕ) → j < 14 → T (offers (state c q) j) → name j < c.n
  pub closed : (q j : ℕ) → j < 14 → T (offers (state c q) j) → after (state c q) j < length c.states
  pub some_ready : (q : ℕ) → q < length c.states → 0 < length (state c q).ready

-- a state beyond the last offers nothing
pub offers-within : (c : Contract) (q j : ℕ) → T (offers (state c q) j) → q < length c.states
unfolding state nowhere offers offers_in any
offers-within c q j o = go c.states q o
  where
    go : (l : List State) (q : ℕ) → T (offers (get_or l q nowhere) j) → q < length l
    go [] q o = absurd o
    go (s ∷ l) zero o = omega arith
    go (s ∷ l) (suc q) o = omega (arith, go l q o)

-- from its states to the whole contract
each-well-formed : (c : Contract) (count : ℕ) → c.n ≤ 7 → 1 ≤ count → count ≤ 64 → Each (WellFormedState c.n count) count c.states → WellFormed c
unfolding state
each-well-formed c count names some few e =
    let at : (q : ℕ) → q < length c.states → WellFormedState c.n count (state c q) = λ q k. e.holds (state c q) (get_d_mem c.states q nowhere k) in
    record {
      few_names = names;
      some-state = omega arith;
      few_states = omega arith;
      named = λ q j k o. (at q (offers-within c q j o)).named j k o;
      closed = λ q j k o. omega (arith, (at q (offers-within c q j o)).closed j k o);
      some_ready = λ q k. (at q k).some_ready;
    }

trailer-good : (t : Trailer) → T (good_trailer t) → (1 ≤ t.count) × (t.count ≤ 64) × (t.n ≤ 7)
unfolding good_trailer
trailer-good t g =
    let some = leb 1 t.count in
    let few = leb t.count 64 in
    let names = leb t.n 7 in
    let role = leb t.role 1 in
    let v = (and_both (some && few && names) role (and_both (some && few && names && role) (eqb t.closing 0xC5) g).0).0 in
    let w = and_both (some && few) names v in
    let u = and_both some few w.0 in
    (leb→le 1 t.count u.0, leb→le t.count 64 u.1, leb→le t.n 7 w.1)

pub sheet-well-formed : (b : List ℕ) (s : Sheet) → read_sheet b ≡ good s → WellFormed s.contract
unfolding read_sheet
sheet-well-formed b s p =
    let right = check-good _ _ _ (check-good _ _ _ p).1 in
    let rest = then-good _ _ (check-good _ _ _ right.1).1 in
    let bounds = trailer-good (trailer b) right.0 in
    subst (λ (s : Sheet). WellFormed s.contract) (good-injective rest.2)
    (each-well-formed _ (trailer b).count bounds.2 bounds.0 bounds.1 (states-good b (trailer b) (trailer b).count 0 0 rest.1))

-- ---- two sheets

-- what the reading of two sheets says of each
pub record BothRead (role₁ role₂ : ℕ) (b₁ b₂ : List ℕ) (w : Both) : Type 0 where
  pub sheet₁ : Sheet
  pub sheet₂ : Sheet
  pub read₁ : read_sheet b₁ ≡ good sheet₁
  pub read₂ : read_sheet b₂ ≡ good sheet₂
  pub is_one : w.one ≡ sheet₁.contract
  pub is-two : w.two ≡ sheet₂.contract
  pub in-role₁ : sheet₁.role ≡ role₁
  pub in-role₂ : sheet₂.role ≡ role₂
  pub same_names : w.one.n ≡ w.two.n

pub place-good : (place : ℕ) (r : Reading Fault Sheet) {s : Sheet} → in_place place r ≡ good s → r ≡ good s
unfolding in_place
place-good place (good s) p = ap good (good-injective p)
place-good place (refusal f) p = absurd (never-good p)

pub both-elim : (role₁ role₂ : ℕ) (b₁ b₂ : List ℕ) (w : Both) → read_both role₁ role₂ b₁ b₂ ≡ good w → BothRead role₁ role₂ b₁ b₂ w
unfolding read_both
both-elim role₁ role₂ b₁ b₂ w p =
    let first = then-good _ _ p in
    let second = then-good _ _ first.2 in
    let right₁ = check-good _ _ _ second.2 in
    let right₂ = check-good _ _ _ right₁.1 in
    let alike = check-good _ _ _ right₂.1 in
    let s₁ = first.0 in
    let s₂ = second.0 in
    let is : record { one = s₁.contract; two = s₂.contract } ≡ w = good-injective alike.1 in
    record {
      sheet₁ = s₁;
      sheet₂ = s₂;
      read₁ = place-good 1 (read_sheet b₁) first.1;
      read₂ = place-good 2 (read_sheet b₂) second.1;
      is_one = ap (λ (w : Both). w.one) (sym is);
      is-two = ap (λ (w : Both). w.two) (sym is);
      in-role₁ = eqb→eq s₁.role role₁ right₁.0;
      in-role₂ = eqb→eq s₂.role role₂ right₂.0;
      same_names = subst (λ (w : Both). w.one.n ≡ w.two.n) is (eqb→eq s₁.contract.n s₂.contract.n alike.0);
    }

pub both-well-formed : (role₁ role₂ : ℕ) (b₁ b₂ : List ℕ) (w : Both) → read_both role₁ role₂ b₁ b₂ ≡ good w
    → WellFormed w.one × WellFormed w.two × (w.one.n ≡ w.two.n)
both-well-formed role₁ role₂ b₁ b₂ w p =
    let r = both-elim role₁ role₂ b₁ b₂ w p in (
      subst⁻¹ WellFormed r.is_one (sheet-well-formed b₁ r.sheet₁ r.read₁),
      subst⁻¹ WellFormed r.is-two (sheet-well-formed b₂ r.sheet₂ r.read₂),
      r.same_names,
    )

-- the contract of a sheet that is read
contract-read : (b : List ℕ) (s : Sheet) → read_sheet b ≡ good s → contract_in b ≡ s.contract
unfolding contract_in sheet_of
contract-read b s e = ap (λ (r : Reading _ Sheet). (sheet_of r).contract) e

-- the contracts of two sheets that are read
pub both-contracts : (role₁ role₂ : ℕ) (b₁ b₂ : List ℕ) (w : Both) → read_both role₁ role₂ b₁ b₂ ≡ good w
    → (contract_in b₁ ≡ w.one) × (contract_in b₂ ≡ w.two)
both-contracts role₁ role₂ b₁ b₂ w p =
    let r = both-elim role₁ role₂ b₁ b₂ w p in
    (contract-read b₁ r.sheet₁ r.read₁ ∙ sym r.is_one, contract-read b₂ r.sheet₂ r.read₂ ∙ sym r.is-two)
