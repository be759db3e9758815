-- `adapter::adapter_connect` meets its contract. The function passes everything on to `connect::connect`. The contracts say the same, so
-- what that one ensures is what is to be shown.
-- Assumes nothing.
use Rattle.adapter.proofs.adapter_connect.Goals as goal

pub returns : goal.returns
returns c = record { outcome = c.connect.ensures.outcome }
