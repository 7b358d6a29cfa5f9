-- The last record is opened again, until so many are left.
use Rattle.std.proofs.Common.{sym, ap, subst, ◌∙◌, arith, ℕ}
use Rattle.std.specs.Global.{Vec}
use Rattle.tau_follow.specs.Applying.{AreZero}
use Rattle.tau_follow.specs.declared.waits.Waits.{Waits}
use Rattle.tau_follow.proofs.Reopening.{begins_pop, begins_all, reopened_last, reopened_all}
use Rattle.tau_follow.proofs.applier.Applier.reopen.Goals as goal

pub returns-then-len-count-clause-opened : goal.returns-then-len-count-clause-opened
returns-then-len-count-clause-opened c = λ streams s zeros lost d e. reopened_all streams s c.records.self (c.records.invariant.0 streams s zeros lost d e) (omega (arith, c.len.ensures, c.if-len-count.true, e))

pub returns-then-len-count-clause-order : goal.returns-then-len-count-clause-order
returns-then-len-count-clause-order c = λ spots b e. begins_all spots c.records.self.order.items (c.records.invariant.1 spots b e) (omega (arith, c.len.ensures, c.if-len-count.true, e))

pub records-preserved : goal.records-preserved
records-preserved c = (
  λ streams s zeros lost d e. reopened_last streams s c.records.self c.reopen_last.new.self (subst (λ (v : Vec ℕ). AreZero v.items) (sym c.records.invariant.2) zeros) (ap (λ (w : Waits). w.lost) (c.reopen_last.ensures.waits ∙ c.records.invariant.3) ∙ lost) c.reopen_last.ensures.firsts c.reopen_last.ensures.order c.reopen_last.ensures.stages
      (c.records.invariant.0 streams s zeros lost d e) (omega (arith, c.len.ensures, c.if-len-count.false, e)),
  λ spots b e. begins_pop spots c.records.self.order.items _ (c.records.invariant.1 spots b e) (omega (arith, c.len.ensures, c.if-len-count.false, e)) c.reopen_last.ensures.order,
  c.reopen_last.ensures.firsts ∙ c.records.invariant.2,
  c.reopen_last.ensures.waits ∙ c.records.invariant.3,
)
