-- Each case of the list is converted as it says, by computation from its bytes.
-- Assumes nothing.
use mathlib.Core.Path.{◌≡◌, refl}
use mathlib.Core.List.{map, Memᴰ}
use mathlib.Core.Option.{bind}
use Rattle.model.specs.Lists.{any, all, keep, place, upto}
use Rattle.model.specs.Bytes.{byte, word, le16}
use Rattle.model.specs.Contract.{actions, name, takes, has, offers_in}
use Rattle.model.specs.Search.{member, add, add_all, search, search_from}
use Rattle.model.specs.Sheet.{check, then, plain, trailer, stray_bit}
use Rattle.model.proofs.Cases.{agree_at}
use Rattle.nodes.specs.Nodes.{is_none, nodes_found, number_among, state_of, few, contract_with, contract_of}
use Rattle.nodes.specs.SheetBytes.{layout_rows, layout_index, layout, mask_bytes, state_row_bytes, sheet_bytes}
use Rattle.choosing.specs.Rows.{row_in, hidden_of, mask_of, targets_of}
use Rattle.choosing.specs.Read.{targets_from, group_at, groups_from, hiding_at, open_at, choosing_row_at, rows_from, choosing_trailer, or_refused, read_choosing, framed}
use Rattle.nodes.specs.Sets.{unite_from, set_of, if_any, gather, put, sorted}
use Rattle.choosing.specs.Convert.{through_row, through_rows, row_numbers, leads_of, circle, rows_of_set, closed, ready_sets, behind_set, next_rows, convert_of, convert_sheet}
use Rattle.choosing.specs.Cases.{ChoosingCase, choosing_cases}

computed : map (λ (c : ChoosingCase). convert_sheet c.from) choosing_cases ≡ map (λ (c : ChoosingCase). c.gives) choosing_cases
unfolding choosing_cases if_any convert_sheet convert_of through_row through_rows row_numbers leads_of circle rows_of_set closed ready_sets behind_set next_rows row_in hidden_of mask_of targets_of unite_from set_of gather put sorted targets_from group_at groups_from hiding_at open_at choosing_row_at rows_from choosing_trailer or_refused read_choosing framed is_none nodes_found number_among state_of few contract_with contract_of layout_rows layout_index layout mask_bytes state_row_bytes sheet_bytes check then plain trailer stray_bit member add add_all search search_from byte word le16 actions name takes has offers_in any all keep place upto bind
computed = refl

pub choosing-cases : (c : ChoosingCase) → Memᴰ c choosing_cases → convert_sheet c.from ≡ c.gives
choosing-cases c m = agree_at (λ (c : ChoosingCase). convert_sheet c.from) (λ (c : ChoosingCase). c.gives) m computed
