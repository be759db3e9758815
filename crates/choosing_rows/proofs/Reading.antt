-- Answers and what they are for: an answer says whether a part is there, where the next begins, and what was put into tables. By cases on
-- what is read.
-- Assumes nothing.
use mathlib.Core.Path.{◌≡◌, refl, sym, ap, subst, ◌∙◌}
use mathlib.Core.List.{List}
use mathlib.Core.Option.{Option, none, some, map, some-injective, none-ne-some}
use Prim.Native.Nat.{ℕ}
use native.Mathlib.Omega.{arith}
use Rattle.std.specs.Prelude as C
use Rattle.std.specs.Prelude.{Some, None}
use Rattle.choosing.specs.Read.{Part}
use Rattle.nodes.specs.Sets.{set_of}
use Rattle.choosing_rows.specs.Answers.{group_in, row_behind_in, ReadInto, fault_in}

-- a part with its value and where the next begins
abbrev pub part : {A : Type 0} → A → ℕ → Part A
part a i = record { value = a; behind = i }

-- ---- what an answer on rows under one count says
module _ {o : Option (Part (List ℕ))} {r : C.Option (ℕ × ℕ)} (answer : r ≡ group_in o) where
  pub none-group : r ≡ None → o ≡ none
  unfolding group_in
  none-group e = go o (sym answer ∙ e)
    where
      go : (o : Option (Part (List ℕ))) → group_in o ≡ None → o ≡ none
      go none d = refl
      go (some p) d = let z : ◌≡◌ {A = ℕ} 0 1 = cc in absurd (omega arith)

  pub some-group : {set i : ℕ} → r ≡ Some (set, i) → (l : List ℕ) × (o ≡ some (part l i)) × (set ≡ set_of l)
  unfolding group_in
  some-group {set} {i} e = go o (sym answer ∙ e)
    where
      go : (o : Option (Part (List ℕ))) → group_in o ≡ Some (set, i) → (l : List ℕ) × (o ≡ some (part l i)) × (set ≡ set_of l)
      go none d = let z : ◌≡◌ {A = ℕ} 0 1 = cc in absurd (omega arith)
      go (some p) d =
          let both : (set_of p.value, p.behind) ≡ (set, i) = cc in
          let same = ap (λ (q : ℕ × ℕ). q.1) both in
          let is = ap (λ (q : ℕ × ℕ). q.0) (sym both) in
          (p.value, ap (λ (k : ℕ). some (part p.value k)) same, is)

-- ---- what an answer on all rows says
module _ {o : Option ℕ} {r : C.Option ℕ} (answer : r ≡ fault_in o) where
  pub fault-at : {q : ℕ} → r ≡ Some q → o ≡ some q
  unfolding fault_in
  fault-at {q} e = go o (sym answer ∙ e)
    where
      go : (o : Option ℕ) → fault_in o ≡ Some q → o ≡ some q
      go none d = let z : ◌≡◌ {A = ℕ} 0 1 = cc in absurd (omega arith)
      go (some p) d = let same : p ≡ q = cc in ap some same

-- ---- what is read into tables
module _ {A : Type 0} {o : Option (Part A)} {Put : A → Type 0} where
  pub read_none : o ≡ none → ReadInto o None Put
  unfolding row_behind_in
  read_none e = record { answer_is = rw e refl; put = λ p d. absurd (none-ne-some p (sym e ∙ d)) }

  pub read_some : {a : A} {i : ℕ} → o ≡ some (part a i) → Put a → ReadInto o (Some i) Put
  unfolding row_behind_in
  read_some {a} {i} e h =
      record {
        answer_is = rw e refl;
        put = λ p d. subst (λ (q : Part A). Put q.value) (some-injective (part a i) p (sym e ∙ d)) h;
      }

  module _ {answer : C.Option ℕ} (read : ReadInto o answer Put) where
    pub none_read : answer ≡ None → o ≡ none
    unfolding row_behind_in
    none_read e = go o (sym read.answer_is ∙ e)
      where
        go : (o : Option (Part A)) → row_behind_in o ≡ None → o ≡ none
        go none d = refl
        go (some p) d = let z : ◌≡◌ {A = ℕ} 0 1 = cc in absurd (omega arith)

    pub some_read : {i : ℕ} → answer ≡ Some i → (a : A) × (o ≡ some (part a i)) × Put a
    unfolding row_behind_in
    some_read {i} e = go o refl (sym read.answer_is ∙ e)
      where
        go : (o' : Option (Part A)) → o ≡ o' → row_behind_in o' ≡ Some i → (a : A) × (o ≡ some (part a i)) × Put a
        go none d f = let z : ◌≡◌ {A = ℕ} 0 1 = cc in absurd (omega arith)
        go (some p) d f =
            let same : p.behind ≡ i = cc in
            (p.value, d ∙ ap (λ (k : ℕ). some (part p.value k)) same, read.put p d)

    pub read_is : {o' : Option (Part A)} → o ≡ o' → ReadInto o' answer Put
    read_is e = subst (λ (x : Option (Part A)). ReadInto x answer Put) e read

-- what is made of a part that is read
pub read-map : {A B : Type 0} (f : A → B) (o : Option (Part A)) {answer : C.Option ℕ} {Put : A → Type 0} {Put' : B → Type 0}
    → ((a : A) → Put a → Put' (f a)) → ReadInto o answer Put
    → ReadInto (map {B = Part B} (λ (p : Part A). record { value = f p.value; behind = p.behind }) o) answer Put'
unfolding row_behind_in
read-map f none h read = record { answer_is = read.answer_is; put = λ p d. absurd (none-ne-some p d) }
read-map {B} f (some q) {Put'} h read =
    record {
      answer_is = read.answer_is;
      put = λ p d. subst (λ (x : Part B). Put' x.value) (some-injective _ p d) (h q.value (read.put q refl));
    }
