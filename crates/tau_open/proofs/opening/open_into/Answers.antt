use Rattle.std.proofs.Common.{◌≡◌, ◌++◌, List, map, reverse, length, sym, ◌∙◌, subst, arith}
use Rattle.tau_stream.specs.Stream.{catalogue_record}
use Rattle.tau_stream.specs.Writer.{disk_of}
use Rattle.tau_disk.specs.Used.{AreEmpty}
use Rattle.tau_open.specs.Opening.{Refuses, AreOpened}
use Rattle.tau_open.specs.Creating.{Creating, Stops}
use Rattle.tau_open.proofs.Joined.{asked_refuses, whole_again, turned_twice, still_empty, opened, refuses}
use Rattle.tau_open.proofs.opening.open_into.Goals as goal

pub returns-in-Err-clause-refused : goal.returns-in-Err-clause-refused
returns-in-Err-clause-refused g c =
    let size : length c.ask_lengths.new.disks ≡ c.args.disks.now.len = omega (arith, c.ask_lengths.auto.disks, c.deref_mut.ensures.len) in
    subst (λ (ds : List g.row.D.Denot). Refuses g.D.Disk c.args.n (catalogue_record c.args.catalogue.now) c.args.disks.now.items ds c.in-Err.refusal) (sym (whole_again c.args.disks.now.len c.args.disks.now.items c.ask_lengths.new.disks size))
    (subst (λ (ds : List g.row.D.Denot). Refuses g.D.Disk c.args.n (catalogue_record c.args.catalogue.now) ds c.ask_lengths.new.disks c.in-Err.refusal) c.deref_mut.ensures.value
    (asked_refuses g.D.Disk c.args.n (catalogue_record c.args.catalogue.now) c.deref_mut.result.now c.ask_lengths.new.disks c.ask_lengths.result c.in-Err.refusal c.in-Err.is c.ask_lengths.ensures.not_empty c.ask_lengths.ensures.failed c.ask_lengths.ensures.memory))

pub create_streams-requires-clause-empty : goal.create_streams-requires-clause-empty
create_streams-requires-clause-empty g c =
    let size : length c.ask_lengths.new.disks ≡ c.args.disks.now.len = omega (arith, c.ask_lengths.auto.disks, c.deref_mut.ensures.len) in
    subst (λ (ds : List g.row.D.Denot). AreEmpty g.D.Disk.tells g.D.Disk.seen ds c.args.n) (sym (turned_twice c.args.disks.now.len c.args.disks.now.items c.ask_lengths.new.disks c.reverse.new.self.items size c.reverse.ensures.items))
    (still_empty g.D.Disk c.args.n (catalogue_record c.args.catalogue.now) c.deref_mut.result.now c.ask_lengths.new.disks c.in-Ok.ensures.asked c.in-Ok.ensures.empty)

pub returns-in-Ok-create_streams-clause-opened : goal.returns-in-Ok-create_streams-clause-opened
returns-in-Ok-create_streams-clause-opened g c =
    let size : length c.ask_lengths.new.disks ≡ c.args.disks.now.len = omega (arith, c.ask_lengths.auto.disks, c.deref_mut.ensures.len) in
    let turned = turned_twice c.args.disks.now.len c.args.disks.now.items c.ask_lengths.new.disks c.reverse.new.self.items size c.reverse.ensures.items in
    subst (λ (ds : List g.row.D.Denot). AreOpened g.D.Disk c.args.n (catalogue_record c.args.catalogue.now) c.args.disks.now.items ds c.create_streams.new.writers.items) (sym c.reverse-in-Ok-create_streams.ensures.items)
    (subst (λ (ds : List g.row.D.Denot). AreOpened g.D.Disk c.args.n (catalogue_record c.args.catalogue.now) ds (reverse c.create_streams.new.stack.items) c.create_streams.new.writers.items) c.deref_mut.ensures.value
    (opened g.D.Disk c.args.n (catalogue_record c.args.catalogue.now) c.deref_mut.result.now c.ask_lengths.new.disks c.in-Ok.ensures.asked c.in-Ok.ensures.empty (reverse c.create_streams.new.stack.items) c.create_streams.new.writers.items
    (subst (λ (ds : List g.row.D.Denot). Creating g.D.Disk c.args.n (catalogue_record c.args.catalogue.now) c.args.n ds (reverse c.create_streams.new.stack.items) c.create_streams.new.writers.items) turned c.in-Ok-create_streams.ensures.created)))

pub returns-in-Err-create_streams-clause-refused : goal.returns-in-Err-create_streams-clause-refused
returns-in-Err-create_streams-clause-refused g c =
    let size : length c.ask_lengths.new.disks ≡ c.args.disks.now.len = omega (arith, c.ask_lengths.auto.disks, c.deref_mut.ensures.len) in
    let turned = turned_twice c.args.disks.now.len c.args.disks.now.items c.ask_lengths.new.disks c.reverse.new.self.items size c.reverse.ensures.items in
    let now : List g.row.D.Denot = map disk_of c.create_streams.new.writers.items ++ reverse c.create_streams.new.stack.items in
    let back : c.reverse-in-Err-create_streams.new.self.items ≡ now = c.reverse-in-Err-create_streams.ensures.items ∙ c.put_back.ensures.items in
    subst (λ (ds : List g.row.D.Denot). Refuses g.D.Disk c.args.n (catalogue_record c.args.catalogue.now) c.args.disks.now.items ds c.in-Err-create_streams.refusal) (sym back)
    (subst (λ (ds : List g.row.D.Denot). Refuses g.D.Disk c.args.n (catalogue_record c.args.catalogue.now) ds now c.in-Err-create_streams.refusal) c.deref_mut.ensures.value
    (refuses g.D.Disk c.args.n (catalogue_record c.args.catalogue.now) c.deref_mut.result.now c.ask_lengths.new.disks c.in-Ok.ensures.asked c.in-Ok.ensures.empty now c.in-Err-create_streams.refusal
    (subst (λ (ds : List g.row.D.Denot). Stops g.D.Disk c.args.n (catalogue_record c.args.catalogue.now) ds now c.in-Err-create_streams.refusal) turned c.in-Err-create_streams.ensures.stopped)))
