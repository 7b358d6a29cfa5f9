use Rattle.std.proofs.Common.{[], ◌∷◌, List, ℕ, reverse, ap, subst, ◌∙◌, sym}
use Rattle.std.proofs.lemmas.List.{reverse-append, length-append}
use Rattle.tau_stream.specs.Writer.{disk_of}
use Rattle.tau_open.specs.Reopening.{IsStarted, HasStarted, FailsNext}
use Rattle.tau_open.proofs.Starting.{fails_next}
use Rattle.tau_open.proofs.reopen.start_next.Goals as goal

pub returns-in-Ok-clause-started : goal.returns-in-Ok-clause-started
returns-in-Ok-clause-started g c = record {
  disk = c.in-Some.disk;
  writer = c.in-Ok.writer;
  taken = ap (λ (ds : List g.row.D.Denot). reverse ds) c.in-Some.ensures.items ∙ reverse-append c.pop.new.self.items (c.in-Some.disk ∷ []);
  put = c.push_reserved.ensures.items;
  made = subst (λ (b : List ℕ). IsStarted g.D.Disk (record { head = c.args.start.head; content = c.args.start.content; body = b }) c.in-Some.disk (disk_of c.in-Ok.writer)) c.as_slice.ensures (record {
    went = record { counts = c.in-Ok.ensures.faults; same = c.in-Ok.ensures.plan; made = c.in-Ok.ensures.made };
    starts = c.in-Ok.ensures.moments;
  });
  begun = subst (λ (b : List ℕ). HasStarted (record { head = c.args.start.head; content = c.args.start.content; body = b }) c.in-Ok.writer) c.as_slice.ensures (record {
    ready = c.in-Ok.ensures.ready;
    durable = c.in-Ok.ensures.durable ∙ sym (length-append c.args.start.content.bytes c.as_slice.result.now);
    left = c.in-Ok.ensures.left;
    added = c.in-Ok.ensures.added;
    works = c.in-Ok.ensures.works;
  });
}

pub returns-clause-refused : goal.returns-clause-refused
returns-clause-refused g c = record {
  disk = c.in-Some.disk;
  now = c.in-Err.disk;
  rest = reverse c.pop.new.self.items;
  taken = ap (λ (ds : List g.row.D.Denot). reverse ds) c.in-Some.ensures.items ∙ reverse-append c.pop.new.self.items (c.in-Some.disk ∷ []);
  put = ap (λ (ds : List g.row.D.Denot). reverse ds) c.push_reserved-in-Err.ensures.items ∙ reverse-append c.pop.new.self.items (c.in-Err.disk ∷ []);
  why = subst (λ (b : List ℕ). FailsNext g.D.Disk (record { head = c.args.start.head; content = c.args.start.content; body = b }) c.args.j c.in-Some.disk c.in-Err.disk c.refusal_of.result) c.as_slice.ensures
      (fails_next g.D.Disk (record { head = c.args.start.head; content = c.args.start.content; body = c.as_slice.result.now }) c.args.j c.in-Some.disk c.in-Err.disk c.in-Err.refusal c.refusal_of.result c.refusal_of.ensures.failed c.refusal_of.ensures.memory
      c.in-Err.ensures.faults_err c.in-Err.ensures.plan_err c.in-Err.ensures.made_err c.in-Err.ensures.failed c.in-Err.ensures.memory c.in-Err.ensures.idle c.in-Err.ensures.moments_err);
}
