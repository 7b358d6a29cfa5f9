-- The number after one record more.
use Rattle.std.proofs.Common.{ℕ, ◌<◌, length, refl, sym, ap, ◌∙◌, arith}
use Rattle.tau_record.specs.declared.entry.Placed.{Placed}
use Rattle.tau_record.specs.Record.{epoch_after}
use Rattle.tau_scan.proofs.Streams.{read_as}
use Rattle.tau_scan.proofs.Marks.{epoch_more}
use Rattle.tau_scan.proofs.log.last_epoch.Goals as goal

pub loop-i-preserved : goal.loop-i-preserved
loop-i-preserved c =
    let lt : c.loop-i.i < length c.args.records.now = omega (arith, c.loop-i-test.true, c.requires) in
    let here = read_as c.args.records.now c.loop-i.i c.index-records-i.result c.index-records-i.result lt c.index-records-i.is refl in
    c.epoch_after-number.ensures ∙ ap (λ (p : Placed). epoch_after c.loop-i.number p.entry) (sym c.index-records-i.is) ∙ ap (λ (k : ℕ). epoch_after k c.index-records-i.result.entry) c.loop-i.invariant ∙ sym (epoch_more c.args.records.now 0 c.loop-i.i c.index-records-i.result here)
