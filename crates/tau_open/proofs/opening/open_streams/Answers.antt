use Rattle.tau_stream.specs.Stream.{catalogue_record}
use Rattle.tau_open.specs.Opening.{Refuses, AreOpened}
use Rattle.tau_open.proofs.RefusalTold.{failed_first, failed_early, long_told, refusal_begins, rest_stands, refusal_is, on_refusal}
use Rattle.tau_open.specs.declared.refusal.OpenRefusal.TheVariants.{Failed}
use Rattle.tau_open.proofs.opening.open_streams.Goals as goal

pub returns-clause-failed_first : goal.returns-clause-failed_first
returns-clause-failed_first g c j is tells =
    failed_first g.D.Disk c.args.n (catalogue_record c.args.catalogue.now) c.args.disks.now.items c.open_into.new.disks.items j
    (refusal_is (Refuses g.D.Disk c.args.n (catalogue_record c.args.catalogue.now) c.args.disks.now.items c.open_into.new.disks.items) c.open_into.result (Failed j) is c.open_into.ensures.refused)

pub returns-clause-failed_early : goal.returns-clause-failed_early
returns-clause-failed_early g c j is tells =
    failed_early g.D.Disk c.args.n (catalogue_record c.args.catalogue.now) c.args.disks.now.items c.open_into.new.disks.items j
    (refusal_is (Refuses g.D.Disk c.args.n (catalogue_record c.args.catalogue.now) c.args.disks.now.items c.open_into.new.disks.items) c.open_into.result (Failed j) is c.open_into.ensures.refused) tells

pub returns-clause-long : goal.returns-clause-long
returns-clause-long g c j long lt tells first =
    long_told g.D.Disk c.args.n (catalogue_record c.args.catalogue.now) c.args.disks.now.items c.open_into.new.disks.items
    (λ writers. AreOpened g.D.Disk c.args.n (catalogue_record c.args.catalogue.now) c.args.disks.now.items c.open_into.new.disks.items writers.items) c.open_into.result (λ writers made. made.empty) c.open_into.ensures.opened c.open_into.ensures.refused j long lt tells first

pub returns-clause-begins : goal.returns-clause-begins
returns-clause-begins g c =
    on_refusal (Refuses g.D.Disk c.args.n (catalogue_record c.args.catalogue.now) c.args.disks.now.items c.open_into.new.disks.items) _ c.open_into.result
    (refusal_begins g.D.Disk c.args.n (catalogue_record c.args.catalogue.now) c.args.disks.now.items c.open_into.new.disks.items) c.open_into.ensures.refused

pub returns-clause-rest : goal.returns-clause-rest
returns-clause-rest g c =
    on_refusal (Refuses g.D.Disk c.args.n (catalogue_record c.args.catalogue.now) c.args.disks.now.items c.open_into.new.disks.items) _ c.open_into.result
    (rest_stands g.D.Disk c.args.n (catalogue_record c.args.catalogue.now) c.args.disks.now.items c.open_into.new.disks.items) c.open_into.ensures.refused
