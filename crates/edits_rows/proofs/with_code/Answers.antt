-- `edits_rows::with_code` meets its contract: a law for each range of codes, and no code stands between them.
-- Assumes nothing.
use native.Mathlib.Omega.{arith}
use Rattle.edits_rows.proofs.OneMore.{with-straight, with-client, with-service, code-client-from, code-service-from}
use Rattle.edits_rows.proofs.with_code.Goals as goal

pub returns-then-code-lt14 : goal.returns-then-code-lt14
returns-then-code-lt14 c = with-straight _ _ (omega arith) c.bit.ensures

pub overflow_sub-code : goal.overflow_sub-code
overflow_sub-code c = code-client-from _ c.requires (omega arith)

pub returns-then-code-lt30 : goal.returns-then-code-lt30
returns-then-code-lt30 c =
    with-client _ _ (code-client-from _ c.requires (omega arith)) (omega arith) c.bit-then-code-lt30.ensures

pub overflow_sub-code-2 : goal.overflow_sub-code-2
overflow_sub-code-2 c = (code-service-from _ c.requires (omega arith)).0

pub bit-requires-2 : goal.bit-requires-2
bit-requires-2 c = omega (arith, code-service-from _ c.requires (omega arith))

pub returns : goal.returns
returns c = with-service _ _ (code-service-from _ c.requires (omega arith)).0 c.bit-2.ensures
