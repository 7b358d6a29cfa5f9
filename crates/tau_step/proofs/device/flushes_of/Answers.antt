use Rattle.std.proofs.Common.{ℕ, ◌≡◌, [], length, refl, sym, subst, arith}
use Rattle.std.specs.Prelude.{None}
use Rattle.tau_text.specs.Canonical.{declarations_text}
use Rattle.tau_core.specs.Opens.{OpenedFresh, catalogue_size}
use Rattle.tau_step.specs.declared.run.Run.{Run}
use Rattle.tau_step.specs.Device.{IsFlushOrder}
use Rattle.tau_step.specs.Rounding.{none_peeked}
use Rattle.tau_step.proofs.Ordered.{begun_on, flush_order, of_ok}
use Rattle.tau_step.proofs.device.flushes_of.Goals as goal

pub flushes_by-requires : goal.flushes_by-requires
flushes_by-requires c =
    let first : Run = record { core = c.args.core; clerk = c.new.result; workers = c.args.m; streams = c.args.n; failed = None; flushes = c.new-2.result; body = c.new-3.result } in
    let long : length c.args.writers.now.items ≡ c.args.n = omega (arith, c.requires.count) in
    let fresh = subst (λ (k : ℕ). OpenedFresh c.args.load.now.declarations.procs c.args.load.now.calls c.args.mode c.args.m k (catalogue_size (declarations_text c.args.load.now.declarations)) c.args.core) (sym long) c.requires.opened in
    record { on = begun_on c.args.m c.args.mode c.args.load.now first c.args.writers.now.items fresh c.requires.new refl (sym long) refl }

pub returns : goal.returns
returns c =
    let first : Run = record { core = c.args.core; clerk = c.new.result; workers = c.args.m; streams = c.args.n; failed = None; flushes = c.new-2.result; body = c.new-3.result } in
    let long : length c.args.writers.now.items ≡ c.args.n = omega (arith, c.requires.count) in
    let fresh = subst (λ (k : ℕ). OpenedFresh c.args.load.now.declarations.procs c.args.load.now.calls c.args.mode c.args.m k (catalogue_size (declarations_text c.args.load.now.declarations)) c.args.core) (sym long) c.requires.opened in
    of_ok c.flushes_by.result
    (λ flushes q. subst (λ (k : ℕ). IsFlushOrder k c.args.m c.args.mode c.args.load.now flushes) long
    (flush_order c.args.m c.args.mode c.args.load.now first q.0 c.args.writers.now.items c.flushes_by.new.writers.items ⊥ [] [] 0 0 fresh c.requires.new c.new.ensures.acks c.new-2.ensures.streams none_peeked q.1 refl q.2 flushes q.3))
    c.flushes_by.ensures
