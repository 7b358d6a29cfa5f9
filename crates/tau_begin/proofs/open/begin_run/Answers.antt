use Rattle.std.proofs.Common.{ℕ, ◌≡◌, List, refl, subst, ◌∙◌, length, take, arith}
use Rattle.tau_begin.specs.Opened.{BeginsOn, IsRefusedOn}
use Rattle.tau_begin.proofs.Giving.{if_ok_then}
use Rattle.tau_begin.proofs.Slices.{taken_long}
use Rattle.tau_begin.proofs.Reading.{streams_long, reading_fails, refused_on}
use Rattle.tau_begin.proofs.open.begin_run.Goals as goal

pub begin_on-requires-clause-streams : goal.begin_on-requires-clause-streams
begin_on-requires-clause-streams g c =
    let long = streams_long g.D.Disk c.args.format (take c.args.n c.args.disks.now) c.in-Ok.sizes.items c.in-Ok.log c.in-Ok.contents.items c.in-Ok.ensures.read in
    omega (arith, long, c.in-Ok.contents.ok.0)

pub returns-in-Ok-clause-begun : goal.returns-in-Ok-clause-begun
returns-in-Ok-clause-begun g c =
    let many : length c.in-Ok.contents.items ≡ c.args.n = c.in-Ok.ensures.read.contents_are.many ∙ taken_long c.args.disks.now c.args.n c.requires.there in
    if_ok_then _ _ c.begin_on.result c.begin_on.ensures.begun (λ r begins. record {
      sizes = c.in-Ok.sizes.items;
      begun = record {
        log = c.in-Ok.log;
        contents = c.in-Ok.contents.items;
        opening = r.0;
        read = c.in-Ok.ensures.read;
        begins = subst (λ (xs : List ℕ). BeginsOn c.args.format c.args.text.now xs c.in-Ok.log c.in-Ok.contents.items r.0 r.1.items) c.deref.ensures.value begins;
      };
      opening = refl;
      count = begins.starts_are.many ∙ many;
      read = c.in-Ok.ensures.were;
    })

pub returns-in-Ok-clause-refused : goal.returns-in-Ok-clause-refused
returns-in-Ok-clause-refused g c =
    refused_on g.D.Disk c.args.format c.args.n c.args.text.now c.args.disks.now c.read_first.new.disks c.requires.there c.in-Ok.sizes.items c.in-Ok.log c.in-Ok.contents.items c.in-Ok.ensures.read c.in-Ok.ensures.were c.in-Ok.ensures.only c.begin_on.result
    (λ fault is. subst (λ (xs : List ℕ). IsRefusedOn c.args.text.now xs c.in-Ok.log fault) c.deref.ensures.value (c.begin_on.ensures.bad fault is)) c.begin_on.ensures.no_disk

pub returns-in-Err-clause-refused : goal.returns-in-Err-clause-refused
returns-in-Err-clause-refused g c = reading_fails g.D.Disk c.args.format c.args.n c.args.text.now c.args.disks.now c.read_first.new.disks c.read_first.result c.in-Err.refusal c.in-Err.is c.read_first.ensures.only c.read_first.ensures.failed c.read_first.ensures.bad
