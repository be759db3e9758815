-- `connect::Wanted::emit` meets its contract. The states are numbered, so the plan's length is known before a byte is written. It decides:
-- the plan is written and accepted, or it is refusal 13 and nothing was written.
-- Assumes nothing.
use native.Mathlib.Omega.{arith}
use Rattle.connect.proofs.Emitting.{numbered-states, plan-to-write, plan-emitted, plan-refused}
use Rattle.connect.proofs.Wanted.emit.Goals as goal

pub overflow_cast-situations : goal.overflow_cast-situations
overflow_cast-situations c = omega (arith, c.requires.unnumbered.sifted.few)

pub number_states-states-requires : goal.number_states-states-requires
number_states-states-requires c = record { unnumbered = c.requires.unnumbered }

pub plan_length-length-requires : goal.plan_length-length-requires
plan_length-length-requires c = record {
  numbered = numbered-states c.args.self.now.k c.args.self.now.old.now c.args.count c.args.rounds c.args.work.now c.requires.unnumbered c.number_states-states.ensures.numbered;
}

pub returns-then-plan-length : goal.returns-then-plan-length
returns-then-plan-length c = record {
  written = plan-refused c.args.self.now.k c.args.self.now.old.now c.args.count c.args.rounds c.args.work.now c.requires.unnumbered c.number_states-states.ensures.numbered
      c.plan_length-length.ensures.measured c.args.plan.now c.if-plan-length.true;
}

pub name_count-n-requires : goal.name_count-n-requires
name_count-n-requires c = c.requires.old_sheet

pub write_plan-requires : goal.write_plan-requires
write_plan-requires c = record {
  writing = plan-to-write c.args.self.now.k c.args.self.now.old.now c.args.count c.args.rounds c.args.work.now c.requires.unnumbered c.number_states-states.ensures.numbered
      c.plan_length-length.ensures.measured c.args.plan.now c.if-plan-length.false c.name_count-n.result;
}

pub returns : goal.returns
returns c = record {
  written = plan-emitted c.args.self.now.k c.args.self.now.old.now c.args.count c.args.rounds c.args.work.now c.requires.unnumbered c.number_states-states.ensures.numbered
      c.plan_length-length.ensures.measured c.args.plan.now c.if-plan-length.false c.name_count-n.ensures c.write_plan.ensures.written;
}
