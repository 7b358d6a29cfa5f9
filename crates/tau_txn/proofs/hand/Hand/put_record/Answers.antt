use Rattle.std.proofs.Common.{◌≡◌, ◌≤◌, ap, length, subst, arith}
use Rattle.tau_base.specs.Modes.{format_of, most_streams}
use Rattle.tau_base.specs.declared.value.LogMode.{LogMode}
use Rattle.tau_proc.specs.Progress.{buffered}
use Rattle.tau_txn.specs.Hand.{PlainHand}
use Rattle.tau_txn.proofs.Granted.{few_writes}
use Rattle.tau_txn.proofs.hand.Hand.put_record.Goals as goal

pub encode_written_into-requires-clause-most : goal.encode_written_into-requires-clause-most
encode_written_into-requires-clause-most c =
    let few = few_writes c.requires.run.procs c.args.self.now c.requires.run.is c.requires.finished in
    let there : length c.writes.result.now ≡ length (buffered c.args.self.now.machine) = rw c.writes.ensures.same (ap (λ (h : PlainHand). length (buffered h.machine)) c.self.view_is) in
    omega (arith, few, there)

pub encode_written_wide_into-requires-clause-most : goal.encode_written_wide_into-requires-clause-most
encode_written_wide_into-requires-clause-most c =
    let few = few_writes c.requires.run.procs c.args.self.now c.requires.run.is c.requires.finished in
    let there : length c.writes-in-WideValues.result.now ≡ length (buffered c.args.self.now.machine) = rw c.writes-in-WideValues.ensures.same (ap (λ (h : PlainHand). length (buffered h.machine)) c.self.view_is) in
    omega (arith, few, there)

pub encode_written_into-requires-clause-streams : goal.encode_written_into-requires-clause-streams
encode_written_into-requires-clause-streams c = subst (λ (m : LogMode). length c.args.dep.now ≤ most_streams (format_of m)) c.in-Values.is c.requires.few

pub encode_command_into-requires-clause-streams : goal.encode_command_into-requires-clause-streams
encode_command_into-requires-clause-streams c = subst (λ (m : LogMode). length c.args.dep.now ≤ most_streams (format_of m)) c.in-Commands.is c.requires.few

pub encode_written_wide_into-requires-clause-streams : goal.encode_written_wide_into-requires-clause-streams
encode_written_wide_into-requires-clause-streams c = subst (λ (m : LogMode). length c.args.dep.now ≤ most_streams (format_of m)) c.in-WideValues.is c.requires.few

pub encode_command_wide_into-requires-clause-streams : goal.encode_command_wide_into-requires-clause-streams
encode_command_wide_into-requires-clause-streams c = subst (λ (m : LogMode). length c.args.dep.now ≤ most_streams (format_of m)) c.in-WideCommands.is c.requires.few
