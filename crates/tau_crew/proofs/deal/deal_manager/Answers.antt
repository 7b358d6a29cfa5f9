use Rattle.std.proofs.Common.{◌<◌, ◌∙◌, false, refl, arith}
use Rattle.tau_crew.specs.declared.manager.ManagerJob.{ManagerJob}
use Rattle.tau_crew.proofs.Dealing.{dealing_more, dealt, first_got, first_removed}
use Rattle.tau_crew.proofs.WorkStays.{workers_stay}
use Rattle.tau_crew.proofs.deal.deal_manager.Goals as goal

pub returns-clause-dealing : goal.returns-clause-dealing
returns-clause-dealing g c =
    let there : c.args.stream < c.args.desk.now.table.shared.key.value.load.streams = (let e = c.args.desk.now.streams_are.0 in let lt = c.requires.there in omega (arith, e, lt)) in
    dealing_more c.args.desk.now.table.shared.key.value c.args.desk.now.table.shared.table_id c.args.stream c.args.head.now c.split_manager-seat.new.head c.split_manager-seat.result c.requires.dealing there c.split_manager-seat.ensures.split

pub returns-clause-dealt : goal.returns-clause-dealt
returns-clause-dealt g c =
    let there : c.args.stream < c.args.desk.now.table.shared.key.value.load.streams = (let e = c.args.desk.now.streams_are.0 in let lt = c.requires.there in omega (arith, e, lt)) in
    let job : ManagerJob g.row.D.Denot g.D.Disk = record {
      seat = c.split_manager-seat.result;
      writer = c.remove-writer.result;
      stream = c.args.stream;
      body = c.new.result;
      marks = record { last = c.durable-last.result; placed = 0 };
      short = false;
    } in
    record {
      writer = c.remove-writer.result;
      job = job;
      is = first_got c.args.writers.now.items c.remove-writer.result c.requires.some c.remove-writer.ensures.value;
      rest = c.remove-writer.ensures.items ∙ first_removed c.args.writers.now.items;
      jobs_are = c.push_reserved.ensures.items;
      dealt = λ bases new long.
          dealt g.met.D.Disk.seen_now c.args.desk.now.table.shared.key.value c.args.desk.now.table.shared.table_id bases c.args.stream c.args.head.now c.split_manager-seat.new.head c.remove-writer.result job c.requires.dealing there c.split_manager-seat.ensures.split c.agrees.ensures
          new long refl refl (c.durable-last.ensures ∙ new.durable) refl refl;
    }

pub returns-clause-workers : goal.returns-clause-workers
returns-clause-workers g c = workers_stay c.args.desk.now.table.shared.key.value.load c.args.stream c.args.head.now c.split_manager-seat.new.head c.split_manager-seat.result c.split_manager-seat.ensures.split
