-- Plans from other hands, checked: one theorem over the rows of the list, by computation.
-- Assumes nothing.
use mathlib.Core.Path.{◌≡◌, refl}
use mathlib.Core.List.{List, [], ◌∷◌, ◌++◌, map, Memᴰ}
use Prim.Native.Nat.{ℕ}
use lib.ListN.{replicate}
use Rattle.model.specs.Lists.{any, all, keep, place, upto}
use Rattle.model.specs.Bytes.{byte, word, dword}
use Rattle.model.specs.Contract.{actions, takes, name, has, nowhere, state, offers_in, offers, offered_below, after}
use Rattle.model.specs.Sheet.{check, then, trailer, stray_bit, words_from, out_of_order, masks_from, successors_from, row_with, row_start, row_at, states_from, good_trailer, read_sheet, in_place, plain, read_both}
use Rattle.model.specs.Situation.{start, alike, same_list, same, kind_of, codes, raised, lowered, buffer_after, offered, old_after, new_after, with_buffer, next_by, next}
use Rattle.model.specs.Test.{listed, covered, covers, hope, answered, paper, is_settled, silent, rests, waits, asked, delivered, test}
use Rattle.model.specs.Search.{member, add, add_all, search, search_from}
use Rattle.model.specs.Plan.{held, named_below, ascending, good_row, read_moves, read_rows, read_with, read_plan}
use Rattle.model.specs.Connect.{refused, limit_of}
use Rattle.model.specs.Cases.{take_a_1, end_1, take_a_2, internal_2}
use Rattle.model.proofs.Cases.{connect_case, agree_at}
use Rattle.edits.specs.Places.{first_place, same_place, placed, codes_in, row_here, next_place, places_walked}
use Rattle.edits.specs.Sound.{old_meets, new_meets, given, first_not, blamed, keeps_buffer, met_by_both, answered_by, delivered_by, sound_row, blame_of, sound_place, blame_in}
use Rattle.edits.specs.Check.{walk_number, walked, plan_number, verdict_of, no_fault, fault_at, first_fault, fault_among, fault_walked, plan_fault, fault_of, after_pairs, work_after, check_plan_of, plan_fault_of}
use Rattle.edits.specs.Cases.{EditCase, edit_cases, m4_plan, m8_plan}

-- the number that the check answers, and what is at fault
unfoldable pub check_case : EditCase → List ℕ
unfolding any all keep place upto byte word dword actions takes name has nowhere state offers_in offers offered_below after check then trailer stray_bit words_from out_of_order masks_from successors_from row_with row_start row_at states_from good_trailer read_sheet in_place plain read_both start alike same_list same kind_of codes raised lowered buffer_after offered old_after new_after with_buffer next_by next listed covered covers hope answered is_settled silent rests waits asked delivered test member add add_all search search_from held named_below ascending good_row read_moves read_rows read_with read_plan refused limit_of first_place same_place placed codes_in row_here next_place places_walked old_meets new_meets given first_not blamed keeps_buffer met_by_both answered_by delivered_by sound_row blame_of sound_place blame_in walk_number walked plan_number verdict_of no_fault fault_at first_fault fault_among fault_walked plan_fault fault_of after_pairs work_after check_plan_of plan_fault_of
check_case c =
    let f = (plan_fault_of {R = ℕ} 0 c.mode c.old c.new c.plan (replicate c.records 7)).fault in
    (check_plan_of {R = ℕ} 0 c.mode c.old c.new c.plan (replicate c.records 7)).answer.number
    ∷ f.blame.condition ∷ f.blame.code ∷ f.blame.ready ∷ f.plan ∷ []

-- what the row of the list says
unfoldable pub case_says : EditCase → List ℕ
case_says c = c.number ∷ c.condition ∷ c.code ∷ c.ready ∷ c.state ∷ []

along : map check_case edit_cases ≡ map case_says edit_cases
unfolding edit_cases check_case case_says
along = refl

pub edit-cases-hold : (c : EditCase) → Memᴰ c edit_cases → check_case c ≡ case_says c
edit-cases-hold c m = agree_at check_case case_says m along

-- M4's and M8's plans are those that connecting emits in the paper's mode
pub m4-emitted : (connect_case paper 1 take_a_1 end_1).plan ≡ m4_plan ++ replicate 107 0xFF
unfolding connect_case
m4-emitted = refl

pub m8-emitted : (connect_case paper 1 take_a_2 internal_2).plan ≡ m8_plan ++ replicate 96 0xFF
unfolding connect_case
m8-emitted = refl
