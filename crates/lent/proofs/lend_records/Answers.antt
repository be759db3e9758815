-- `lent::lend_records` meets its contract. A table is made in which every record holds ones, and its front is lent, as long as asked. The
-- front of such a table is as many such records. Assumes nothing.
use Rattle.std.proofs.Common.{refl, ap}
use Rattle.lent.proofs.Gives.{front-made}
use Rattle.lent.proofs.lend_records.Goals as goal

pub returns : goal.returns
returns g c =
    let made = front-made c.args.count 5000 c.record_before-work.result _ c.requires.few refl c.record_before-work.ensures in
    let e = c.counted.ensures in
    (_, rw e (record { shown = _; shows = made; left = _; met = c.call-answer.ensures; leaves = refl }), ap (λ r. r.zero) e, ap (λ r. r.same) e)
