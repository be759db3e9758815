-- `sheet::parts::stray_bit` meets its contract: each test is one of the three that `stray-tests` names.
-- Assumes nothing.
use Rattle.std.proofs.Common.{◌≡◌, ◌||◌, ◌*◌, ◌/◌, ◌%◌, ◌^◌, refl, sym, ◌∙◌, leb, arith}
use borrow.Author.Tests.{le-leb, lt-leb}
use Rattle.sheet.proofs.Ones.{one_shifted}
use Rattle.sheet.proofs.Stray.{stray-tests}
use Rattle.sheet.proofs.parts.stray_bit.Goals as goal
use Rattle.sheet.proofs.parts.stray_bit.Goals.{Joined-limit-mask, then-limit-mask, else-limit-mask}

-- the two tests of names, together
names-tests : (c : Joined-limit-mask)
    → (leb (1 * 2 ^ c.args.n % 65536) (c.args.mask % 128) || leb (1 * 2 ^ c.args.n % 65536) (c.args.mask / 128 % 128))
    ≡ c.if-limit-mask.value
names-tests c =
    elim c.if-limit-mask.branch [
      | then-limit-mask w ↦ let yes = le-leb _ _ w.if-limit-mask.true in simp yes (sym (w.value-is ∙ yes))
      | else-limit-mask w ↦ simp (lt-leb _ _ w.if-limit-mask.false) (sym w.value-is)
    ]

pub returns-then-limit-mask-2 : goal.returns-then-limit-mask-2
returns-then-limit-mask-2 c =
    rw (
      stray-tests c.args.n c.args.role c.args.mask (1 * 2 ^ c.args.n % 65536) (omega arith) (omega arith)
          (one_shifted _ 7 (omega arith) (omega arith)),
      names-tests (goal.at.returns-then-limit-mask-2 c).Joined-limit-mask,
      c.if-limit-mask-2.true,
    ) refl

pub returns-else-limit-mask-2 : goal.returns-else-limit-mask-2
returns-else-limit-mask-2 c =
    rw (
      stray-tests c.args.n c.args.role c.args.mask (1 * 2 ^ c.args.n % 65536) (omega arith) (omega arith)
          (one_shifted _ 7 (omega arith) (omega arith)),
      names-tests (goal.at.returns-else-limit-mask-2 c).Joined-limit-mask,
      c.if-limit-mask-2.false,
      c.from.ensures,
    ) refl
