-- `runs::moved` meets its contract: a law for each range of codes. Those who go on offer the action, so each successor stands in its sheet.
-- Assumes nothing.
use native.Mathlib.Omega.{arith}
use Rattle.model.proofs.Ranges.{kind-straight, kind-client, kind-service, kind-stray}
use Rattle.runs.specs.Runs.{run_of}
use Rattle.runs.proofs.Moving.{straight-client, straight-service, client-client, service-service}
use Rattle.runs.proofs.Moving.{straight-made, client-made, service-made, stray-made}
use Rattle.runs.proofs.moved.Goals as goal

pub successor-requires : goal.successor-requires
successor-requires c = straight-client c.requires (kind-straight _ (omega arith)) c.partner.ensures.0

pub successor-requires-in-0-to-13 : goal.successor-requires-in-0-to-13
successor-requires-in-0-to-13 c = straight-service c.requires (kind-straight _ (omega arith))

pub successor-requires-in-16-to-29 : goal.successor-requires-in-16-to-29
successor-requires-in-16-to-29 c =
    let ready = c.requires in
    client-client ready (kind-client _ (omega arith) (omega arith)) c.partner-in-16-to-29.ensures.0

pub successor-requires-in-32-to-45 : goal.successor-requires-in-32-to-45
successor-requires-in-32-to-45 c =
    let ready = c.requires in
    service-service ready (kind-service _ (omega arith) (omega arith))

pub returns-in-0-to-13 : goal.returns-in-0-to-13
unfolding run_of
returns-in-0-to-13 c =
    let ready = c.requires in
    straight-made ready (kind-straight _ (omega arith)) c.partner.ensures.0
    c.successor.ensures c.successor-in-0-to-13.ensures

pub returns-in-16-to-29 : goal.returns-in-16-to-29
unfolding run_of
returns-in-16-to-29 c =
    let ready = c.requires in
    client-made ready (kind-client _ (omega arith) (omega arith))
    c.partner-in-16-to-29.ensures.0 c.successor-in-16-to-29.ensures

pub returns-in-32-to-45 : goal.returns-in-32-to-45
unfolding run_of
returns-in-32-to-45 c =
    let ready = c.requires in
    service-made ready (kind-service _ (omega arith) (omega arith)) c.successor-in-32-to-45.ensures

pub returns-in_default : goal.returns-in_default
returns-in_default c =
    let ready = c.requires in
    stray-made ready _ (kind-stray _ (omega arith) (λ l. omega arith) (λ l. omega arith))

pub returns-in_default-2 : goal.returns-in_default-2
returns-in_default-2 c =
    let ready = c.requires in
    stray-made ready _ (kind-stray _ (omega arith) (λ l. omega arith) (λ l. omega arith))

pub returns-in_default-3 : goal.returns-in_default-3
returns-in_default-3 c =
    let ready = c.requires in
    stray-made ready _ (kind-stray _ (omega arith) (λ l. omega arith) (λ l. omega arith))
