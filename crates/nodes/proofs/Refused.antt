-- What the answers mean: a search with something left has found more than 64 nodes, one with nothing left has found all that is reached;
-- so a contract, 19 and 20 are given exactly where they should be.
-- Assumes nothing.
use mathlib.Core.Path.{◌≡◌, refl, sym, ap, subst, ◌∙◌}
use mathlib.Core.Bool.{Bool, true, false}
use mathlib.Core.Logic.{inl, inr}
use mathlib.Core.Option.{Option}
use mathlib.Core.List.{List, [], ◌∷◌, ◌++◌, nil≢cons, Memᴰ}
use Prim.Native.Nat.{ℕ, suc}
use native.Mathlib.Omega.{arith}
use lib.ListN.{length, length-append}
use lib.Dec.{T, leb, leb→le, nleb→lt, not_T}
use Rattle.model.specs.Lists.{all}
use Rattle.model.specs.Contract.{Contract, actions}
use Rattle.model.specs.Search.{Reached, Search}
use Rattle.model.specs.Sheet.{Reading, Refusal, good, check, plain}
use Rattle.model.proofs.Lists.{all-elim, all-fails}
use Rattle.model.proofs.Rounds.{IsSame}
use Rattle.model.proofs.Refusals.{OnlyRefused, only-check}
use Rattle.model.proofs.Search.{Inv, search-inv, search-all, search-cut}
use Rattle.nodes.specs.Nodes.{is_none, nodes_found, few, contract_with, contract_of, TooMany, FewReached, Says}
use Rattle.nodes.proofs.Nodes.{node-reached, few-nodes}

module _ {N : Type 0} (same : N → N → Bool) (isSame : IsSame same) (next : N → ℕ → Option N) (ready : N → List ℕ) (start : N) where
  -- the search for the nodes
  abbrev run : Search N
  run = nodes_found same next start

  -- with nothing left, all that is reached was found
  all_found : run.todo ≡ [] → (x : N) → Reached actions next start x → Memᴰ x run.done
  unfolding nodes_found
  all_found e = search-all same isSame actions next start 64 e

  -- so all that is reached is among 64
  few-reached : run.todo ≡ [] → FewReached next ready start
  few-reached e = (run.done, few-nodes same isSame next ready start, all_found e)

  -- with something left, 64 were looked at and there is one more
  too_many : (x : N) (l : List N) → run.todo ≡ x ∷ l → TooMany next ready start
  unfolding nodes_found
  too_many x l e =
      let i : Inv actions next start run.done run.todo = search-inv same isSame actions next start 64 in
      let cut : length run.done ≡ 64 = search-cut same isSame actions next start 64 (λ z. nil≢cons (sym z ∙ e)) in
      let one : length run.todo ≡ suc (length l) = ap length e in
      (run.done ++ run.todo, i.distinct, omega (arith, length-append run.done run.todo), i.found)

  -- each answer says what it should
  pub contract-says : (n : ℕ) → Says next ready start (contract_of same next ready n start)
  unfolding contract_of few check is_none
  contract-says n = at-todo run.todo refl
    where
      at-few : (t : Bool) → all (few ready) run.done ≡ t → run.todo ≡ []
          → Says next ready start (check t (plain 20 0) (good (contract_with same next ready n run.done)))
      at-few true p e = (
        few-reached e,
        λ w.
            let m = all_found e w.0 w.1 in
            omega (arith, w.2, leb→le (length (ready w.0)) 8 (all-elim (few ready) m (subst T (sym p) tt))),
      )
      at-few false p e =
          let w = all-fails (few ready) run.done (λ t. subst T p t) in
          inr (
            refl,
            few-reached e,
            (
              w.0,
              node-reached same isSame next ready start w.0 w.1,
              nleb→lt (length (ready w.0)) 8 (not_T (leb (length (ready w.0)) 8) w.2),
            ),
          )

      at-todo : (l : List N) → run.todo ≡ l
          → Says next ready start
          (check (is_none l) (plain 19 0)
          (check (all (few ready) run.done) (plain 20 0) (good (contract_with same next ready n run.done))))
      at-todo [] e = at-few (all (few ready) run.done) refl e
      at-todo (x ∷ l) e = inl (refl, too_many x l e)

  -- what was made was made where it should be
  pub made-says : (n : ℕ) (r : Reading Refusal Contract) → contract_of same next ready n start ≡ r → Says next ready start r
  made-says n r e = subst (Says next ready start) e (contract-says n)

  -- 19 and 20 carry nothing
  pub contract-only : (P : Refusal → Type 0) (n : ℕ) → P (plain 19 0) → P (plain 20 0) → OnlyRefused P (contract_of same next ready n start)
  unfolding contract_of
  contract-only P n many wide =
      only-check P (is_none run.todo) (plain 19 0) _ many (only-check P (all (few ready) run.done) (plain 20 0) _ wide tt)
