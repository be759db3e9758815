-- What is made of nodes can be written as a sheet: masks of lawful nodes have no stray bit, and successors are places among the nodes. So
-- the sheet reads back as the contract that was made.
-- Assumes nothing.
use mathlib.Core.Path.{◌≡◌, refl, sym, ap, subst, subst⁻¹, ◌∙◌}
use mathlib.Core.Bool.{Bool, false, not, ◌&&◌}
use mathlib.Core.Option.{Option}
use mathlib.Core.List.Memᴰ
use mathlib.Core.List.{List, [], map, Memᴰ}
use Prim.Native.Nat.{ℕ, ◌/◌, ◌%◌, ◌^◌, ◌≤◌, ◌<◌}
use native.Mathlib.Omega.{arith}
use lib.ListN.{length, length-map}
use lib.Dec.{T, eqb, leb, leb→le, not_T}
use borrow.Author.Tests.{ne_eqb, not-true}
use Rattle.model.specs.Lists.{any, keep, place}
use Rattle.model.specs.Contract.{Contract, State, actions, name, has, offers_in}
use Rattle.model.specs.Sheet.{Reading, Fault, Sheet, good, stray_bit, read_sheet, sheet_of, contract_in}
use Rattle.model.proofs.Lists.{is_true, and_both, any-elim, any-intro, keep-elim}
use Rattle.model.proofs.Rounds.{IsSame}
use Rattle.model.proofs.Actions.{action-below}
use Rattle.model.proofs.PlanRows.{mem-at, place_at}
use Rattle.nodes.specs.Nodes.{Lawful, nodes_found, number_among, state_of, contract_with, contract_of}
use Rattle.nodes.specs.SheetBytes.{sheet_bytes, Writable}
use Rattle.nodes.proofs.Nodes.{contract-nodes, start_first, node-reached, few-nodes, nodes-closed}
use Rattle.nodes.proofs.Sheets.{sheet-read-back}

-- a mask of actions with names below n has no stray bit
pub no_stray : (n role m : ℕ) → m < 16384 → ((j : ℕ) → j < 14 → T (has m j) → name j < n) → stray_bit n role m ≡ false
unfolding stray_bit has
no_stray n role m low named =
    let nameless : Bool = any (λ j. has m j && leb n (name j)) actions in
    let none : T nameless → ⊥ =
    λ t.
    let w = any-elim (λ j. has m j && leb n (name j)) actions t in
    let v = and_both (has m w.0) (leb n (name w.0)) w.2 in
    omega (arith, named w.0 (action-below w.0 w.1) v.0, leb→le n (name w.0) v.1) in
    let high : eqb (m / 2 ^ 15 % 2) 1 ≡ false = ne_eqb (m / 2 ^ 15 % 2) 1 (λ e. omega arith) in
    let mark : eqb (m / 2 ^ 14 % 2) 1 ≡ false = ne_eqb (m / 2 ^ 14 % 2) 1 (λ e. omega arith) in
    rw (not-true nameless (is_true (not nameless) (not_T nameless none)), high, mark) refl

module _ {N : Type 0} (same : N → N → Bool) (isSame : IsSame same) (next : N → ℕ → Option N) (ready : N → List ℕ) (start : N) (n : ℕ)
    (lawful : Lawful n next ready start) where
  -- the nodes found
  abbrev nodes : List N
  nodes = (nodes_found same next start).done

  -- the state of a node found
  state-writable : (nodes_found same next start).todo ≡ [] → (x : N) → Memᴰ x nodes → length (ready x) ≤ 8
      → Writable n 0 (length nodes) (state_of same next ready nodes x)
  unfolding state_of number_among offers_in
  state-writable ended x m short =
      let r = node-reached same isSame next ready start x m in
      record {
        some_ready = lawful.some_ready x r;
        few_ready = short;
        ascends = lawful.ascends x r;
        clean = λ k u. no_stray n 0 k (lawful.bits x r k u) (λ j h t. lawful.named x r j h (any-intro (λ mask. has mask j) u t));
        small = λ k u. omega (arith, lawful.bits x r k u);
        whole = length-map (keep (offers_in (ready x)) actions) (λ j. number_among same nodes (next x j));
        within = λ q u.
            let w = Memᴰ.of_map (λ j. number_among same nodes (next x j)) (keep (offers_in (ready x)) actions) u in
            let k = keep-elim (offers_in (ready x)) w.0 actions w.1 in
            let h = action-below w.0 k.0 in
            let v = lawful.leads x r w.0 h k.1 in
            let to : number_among same nodes (next x w.0) ≡ place (same v.0) nodes =
            ap (number_among same nodes) v.1 in
            let known = nodes-closed same isSame next ready start ended x v.0 w.0 m h v.1 in
            let below = mem-at nodes (place (same v.0) nodes) v.0 (place_at same isSame known) in
            subst (λ (z : ℕ). z < length nodes) (sym to ∙ w.2) below;
      }

  -- the sheet of the contract that is made, in role 0, reads back as it
  pub made-read-back : n ≤ 7 → (c : Contract) → contract_of same next ready n start ≡ good c
      → read_sheet (sheet_bytes n 0 c.states) ≡ good (record { contract = c; role = 0 })
  unfolding contract_with
  made-read-back small c e =
      let w = contract-nodes same isSame next ready start n c e in
      let size : length (map (state_of same next ready nodes) nodes) ≡ length nodes = length-map nodes (state_of same next ready nodes) in
      subst⁻¹ (λ (c : Contract). read_sheet (sheet_bytes n 0 c.states) ≡ good (record { contract = c; role = 0 })) w.0
      (sheet-read-back n 0 (map (state_of same next ready nodes) nodes) small (omega arith)
      (omega (arith, ap length (start_first same isSame next ready start).1)) (omega (arith, few-nodes same isSame next ready start))
      (λ s m.
      let v = Memᴰ.of_map (state_of same next ready nodes) nodes m in
      subst (λ (s : State). Writable n 0 (length (map (state_of same next ready nodes) nodes)) s) v.2
      (subst⁻¹ (λ (k : ℕ). Writable n 0 k (state_of same next ready nodes v.0)) size
      (state-writable w.1 v.0 v.1 (w.2 v.0 v.1)))))

  -- so it is the contract in the sheet
  pub made_in : n ≤ 7 → (c : Contract) → contract_of same next ready n start ≡ good c → contract_in (sheet_bytes n 0 c.states) ≡ c
  unfolding contract_in sheet_of
  made_in small c e = ap (λ (r : Reading Fault Sheet). (sheet_of r).contract) (made-read-back small c e)
