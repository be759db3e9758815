-- `text_reading::Reader::rec_head` meets its contract: the bytes are asked one after the other, and each that does not come ends it.
-- Assumes nothing.
use Rattle.std.proofs.lemmas.Result.{err_from_is_err_and}
use Rattle.text_reading.proofs.Head.{head-none, head-one, head-two, head_three, head-whole}
use Rattle.text_reading.proofs.Reader.rec_head.Goals as goal

pub returns-in_err-expect : goal.returns-in_err-expect
returns-in_err-expect c =
    let e = err_from_is_err_and c.from_residual.result c.from_residual.ensures.1 in
    let k = c.in_err-expect.ensures in
    rw (e.1, e.2, k.0) (head-none c.args.self.now.text.now c.args.self.now.at c.requires.0 k.1)

pub returns-in_err-expect-2 : goal.returns-in_err-expect-2
returns-in_err-expect-2 c =
    let e = err_from_is_err_and c.from_residual-in_err-expect-2.result c.from_residual-in_err-expect-2.ensures.1 in
    let k = c.in_err-expect-2.ensures in
    rw (e.1, e.2, k.0) (head-one c.args.self.now.text.now c.args.self.now.at c.in_ok-expect.ensures k.1)

pub returns-in_err-v : goal.returns-in_err-v
returns-in_err-v c =
    let e = err_from_is_err_and c.from_residual-in_err-v.result c.from_residual-in_err-v.ensures.1 in
    let k = c.in_err-v.ensures in
    rw (e.1, e.2, k.0)
    (head-two c.args.self.now.text.now c.args.self.now.at c.in_ok-expect.ensures c.in_ok-expect-2.ensures k.1)

pub returns-in_err-expect-3 : goal.returns-in_err-expect-3
returns-in_err-expect-3 c =
    let e = err_from_is_err_and c.from_residual-in_err-expect-3.result c.from_residual-in_err-expect-3.ensures.1 in
    let k = c.in_err-expect-3.ensures in
    rw (e.1, e.2, k.0)
    (head_three c.args.self.now.text.now c.args.self.now.at c.in_ok-expect.ensures c.in_ok-expect-2.ensures c.in_ok-v.ensures k.1)

pub returns : goal.returns
returns c =
    head-whole c.args.self.now.text.now c.args.self.now.at c.in_ok-expect.ensures c.in_ok-expect-2.ensures c.in_ok-v.ensures
    c.in_ok-expect-3.ensures
