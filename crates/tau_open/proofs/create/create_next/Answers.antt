use Rattle.std.proofs.Common.{[], ◌∷◌, List, reverse, ap, ◌∙◌}
use Rattle.std.proofs.lemmas.List.{reverse-append}
use Rattle.tau_stream.specs.Stream.{catalogue_record}
use Rattle.tau_open.proofs.Half.{fails_by, half_created, ready_holds}
use Rattle.tau_open.proofs.create.create_next.Goals as goal

pub returns-in-Ok-clause-created : goal.returns-in-Ok-clause-created
returns-in-Ok-clause-created g c = record {
  disk = c.in-Some.disk;
  writer = c.in-Ok.writer;
  taken = ap (λ (ds : List g.row.D.Denot). reverse ds) c.in-Some.ensures.items ∙ reverse-append c.pop.new.self.items (c.in-Some.disk ∷ []);
  put = c.push_reserved.ensures.items;
  created = record {
    went = record { counts = c.in-Ok.ensures.faults; same = c.in-Ok.ensures.plan; made = c.in-Ok.ensures.made };
    begins = c.in-Ok.ensures.moments;
    holds = ready_holds g.D.Disk c.args.n c.args.j (catalogue_record c.args.catalogue.now) c.in-Ok.writer c.in-Ok.ensures.ready;
    last = c.in-Ok.ensures.last;
  };
  begun = record { ready = c.in-Ok.ensures.ready; durable = c.in-Ok.ensures.durable; left = c.in-Ok.ensures.left; added = c.in-Ok.ensures.added; works = c.in-Ok.ensures.works };
}

pub returns-in-Err-clause-stopped : goal.returns-in-Err-clause-stopped
returns-in-Err-clause-stopped g c = record {
  disk = c.in-Some.disk;
  now = c.in-Err.disk;
  rest = reverse c.pop.new.self.items;
  taken = ap (λ (ds : List g.row.D.Denot). reverse ds) c.in-Some.ensures.items ∙ reverse-append c.pop.new.self.items (c.in-Some.disk ∷ []);
  put = ap (λ (ds : List g.row.D.Denot). reverse ds) c.push_reserved-in-Err.ensures.items ∙ reverse-append c.pop.new.self.items (c.in-Err.disk ∷ []);
  why = fails_by g.D.Disk c.args.n c.args.j (catalogue_record c.args.catalogue.now) c.in-Some.disk c.in-Err.disk c.in-Err.refusal c.refusal_of.result c.refusal_of.ensures.failed c.refusal_of.ensures.memory c.in-Err.ensures.idle
      (λ failed. record {
        broke = record { counts = c.in-Err.ensures.faults_err; rose = c.in-Err.ensures.failed failed; same = c.in-Err.ensures.plan_err; made = c.in-Err.ensures.made_err failed };
        begins = c.in-Err.ensures.moments_err;
        half = half_created g.D.Disk c.args.n c.args.j c.args.catalogue.now c.in-Some.disk c.in-Err.disk (c.in-Err.ensures.left_err failed);
      })
      c.in-Err.ensures.memory;
}
