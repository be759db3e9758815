-- Both answers on each of the small sheets follow from the definitions, by computation.
-- Assumes nothing.
use mathlib.Core.Path.{◌≡◌, refl}
use mathlib.Core.List.{map, Memᴰ}
use Rattle.model.specs.Lists.{any, keep, place, upto}
use Rattle.model.specs.Bytes.{byte, word}
use Rattle.model.specs.Contract.{actions, takes, name, has, offers_in}
use Rattle.model.specs.Sheet.{refusal, check, then, trailer, stray_bit, words_from, out_of_order, masks_from, successors_from, row_with}
use Rattle.model.specs.Sheet.{row_at, states_from, good_trailer, read_sheet}
use Rattle.model.specs.Amended.{masks_before, row_before, states_before, read_before}
use Rattle.model.specs.AmendedCases.{AmendedCase, amended_cases}
use Rattle.model.proofs.Cases.{agree_at}

before : map (λ (c : AmendedCase). read_before c.bytes) amended_cases ≡ map (λ (c : AmendedCase). refusal c.before) amended_cases
unfolding amended_cases read_before states_before row_before masks_before row_with successors_from good_trailer stray_bit trailer then check any keep upto byte word actions takes name has offers_in
before = refl

now : map (λ (c : AmendedCase). read_sheet c.bytes) amended_cases ≡ map (λ (c : AmendedCase). refusal c.now) amended_cases
unfolding amended_cases read_sheet states_from row_at row_with masks_from words_from out_of_order successors_from good_trailer stray_bit trailer then check any keep place upto byte word actions takes name has offers_in
now = refl

-- each sheet has the answers that stand beside it
pub amended-cases : (c : AmendedCase) → Memᴰ c amended_cases
    → (read_before c.bytes ≡ refusal c.before) × (read_sheet c.bytes ≡ refusal c.now)
amended-cases c m = (
  agree_at (λ (c : AmendedCase). read_before c.bytes) (λ (c : AmendedCase). refusal c.before) m before,
  agree_at (λ (c : AmendedCase). read_sheet c.bytes) (λ (c : AmendedCase). refusal c.now) m now,
)
