-- The desk closes, and the run has gone to its end.
use Rattle.std.proofs.Common.{ℕ, zero, suc, ◌+◌, ◌<◌, ◌≡◌, inl, inr, false, Option, List, [], ◌∷◌, length, map, sym, ap, subst, ◌∙◌, arith, slice_index}
use Rattle.std.specs.Prelude.{Some, None, slice_get, slice_index_or}
use Rattle.std.specs.Option.{option_map}
use Rattle.std.proofs.lemmas.List.{length-map}
use Rattle.std.proofs.lemmas.Option.{slice_get-map}
use Rattle.atomic_table.specs.Seated.{TableId}
use Rattle.tau_disk.specs.declared.disk.Disk.{Ghosts}
use Rattle.tau_stream.specs.declared.writer.Writer.{Writer}
use Rattle.tau_stream.specs.Writer.{durable_of, has_failed}
use Rattle.tau_model.specs.History.{Member}
use Rattle.tau_machine.specs.State.{Core, Ticket}
use Rattle.tau_machine.specs.Worker.{Worker}
use Rattle.tau_core.specs.State.{Plain}
use Rattle.tau_occ.specs.declared.style.Style.{Style}
use Rattle.tau_rule.specs.Heads.{role_or}
use Rattle.tau_rule.specs.Role.{Managed, Role, managed_in_share}
use Rattle.tau_rule.specs.Rule.{manager_role}
use Rattle.tau_rule.specs.Steps.{worker_in_share}
use Rattle.tau_desk.specs.Ends as desk
use Rattle.tau_desk.specs.Manages.{acked_in}
use Rattle.tau_desk.specs.Resumes.{CanGoOn}
use Rattle.tau_desk.specs.Shares.{PlainWork}
use Rattle.tau_desk.specs.Seats.{HasStock, Heads, PlainHead}
use Rattle.tau_crew_facts.specs.Closing.{ClerkDone, EndsBy, ManagerApart, ManagerDone}
use Rattle.tau_run.specs.Keeping.{NoneLost}
use Rattle.tau_run.specs.StopsLeave.{IsOver}
use Rattle.tau_crew_facts.specs.Ends.{AreApart, stopped_by}
use Rattle.tau_crew_facts.specs.Spacing.{IsSpacing}
use Rattle.tau_crew_facts.proofs.Closing.{thread_apart, thread_done}
use Rattle.tau_crew.specs.declared.clerk.ClerkJob.{ClerkJob}
use Rattle.tau_crew.specs.declared.manager.ManagerJob.{ManagerJob}
use Rattle.tau_crew.specs.Clerking.{all_told}
use Rattle.tau_crew.specs.Driving.{anchors_in, own_of}
use Rattle.tau_crew.specs.Ending.{role_back, worker_back}
use Rattle.tau_crew.specs.EndCloses.{IsAllBack}
use Rattle.tau_crew.proofs.EndCloses.{acked_back, managed_back}
use Rattle.tau_crew.specs.EndDone.{ClosesDone, IsDone, NoneShort, durable_in, durables}
use Rattle.tau_crew.specs.EndJoins.{KeepsHead, writer_in}
use Rattle.tau_crew.proofs.EndBack.{keeps_ran, worker_same}
use Rattle.tau_crew.proofs.EndCloses.{acked_is, as_first, closes_run, closes_state, closing, job_at, knows, managed_is, telling_back}
use Rattle.tau_crew.proofs.EndNone.{nothing_left}
use Rattle.tau_base.proofs.Lists.{some_at, same_list, got_within}

pub index_map : {A : Type 0} (f : A → ℕ) (xs : List A) (j : ℕ) (x : A) → slice_get xs j ≡ Some x → slice_index (map f xs) j ≡ f x
index_map {A} f [] j x is = absurd (let bad : ◌≡◌ {A = Option A} None (Some x) = is in cc bad)
index_map f (y ∷ ys) zero x is = (let e : Some y ≡ Some x = is in let same : y ≡ x = cc e in ap f same)
index_map f (y ∷ ys) (suc j) x is = index_map f ys j x is

module _ {D : Type 0} {G : Ghosts D} (first : Plain) (table : TableId) (bases : ℕ → List ℕ) (ws : List (Writer D G)) (h : PlainHead) (jobs : List (ManagerJob D G)) (telling : ClerkJob) (b : IsAllBack first table bases ws h jobs telling) (d : Heads h) where
  seen_at : (j : ℕ) (job : ManagerJob D G) → slice_get jobs j ≡ Some job → slice_index h.me.0.seen j ≡ durable_of job.writer
  seen_at j job at = ap (λ (v : List ℕ). slice_index v j) d.seen_is ∙ b.sees j job.writer (slice_get-map writer_in jobs j ∙ ap (option_map writer_in) at)

  seen_durables : h.me.0.seen ≡ durables jobs
  seen_durables =
      let wide : length h.me.0.seen ≡ first.load.streams = ap (length {A = ℕ}) d.seen_is ∙ d.seen_wide ∙ ap (λ (o : Plain). o.load.streams) (as_first first table bases ws h jobs telling b d) in
      same_list h.me.0.seen (durables jobs) (wide ∙ sym (length-map jobs durable_in ∙ b.managers.count))
      (λ j lt. (let (job, at) = job_at first table bases ws h jobs telling b d j (omega (arith, lt, wide)) in seen_at j job at ∙ sym (index_map durable_in jobs j job at)))

  job_of : (j : ℕ) (w' : Writer D G) → slice_get (map writer_in jobs) j ≡ Some w' → (job : ManagerJob D G) × (slice_get jobs j ≡ Some job) × (job.writer ≡ w')
  job_of j w' is =
      let low : j < length jobs = (let a = got_within (map writer_in jobs) j w' is in let n = length-map jobs writer_in in omega (arith, a, n)) in
      let (job, at) = some_at jobs j low in
      (job, at, (let e : Some job.writer ≡ Some w' = sym (slice_get-map writer_in jobs j ∙ ap (option_map writer_in) at) ∙ is in cc e))

  writer_at : (j : ℕ) → j < first.load.streams → (w : Writer D G) × (slice_get ws j ≡ Some w)
  writer_at j lt = some_at ws j (let n = b.managers.writers in omega (arith, lt, n))

  stored_at : (j : ℕ) (job : ManagerJob D G) → slice_get jobs j ≡ Some job → slice_index job.seat.seen j ≡ durable_of job.writer
  stored_at j job at =
      let low : j < first.load.streams = (let a = got_within jobs j job at in let n = b.managers.count in omega (arith, a, n)) in
      let (w, is) = writer_at j low in
      (b.managers.each j w job is at).manager.wrote.stored

  -- what each manager knows at its end
  done_manager : IsDone first h jobs telling → (j : ℕ) (w' : Writer D G) → slice_get (map writer_in jobs) j ≡ Some w' → has_failed w' ≡ false → ManagerDone first.load h.me.0.seen (worker_back h) j (managed_back first h j)
  done_manager q j w' is works =
      let (job, at, same) = job_of j w' is in
      let m = q.managers j job at (ap has_failed same ∙ works) in
      let g = managed_is first table bases ws h jobs telling b d j job at in
      record {
        durable = seen_at j job at ∙ sym (stored_at j job at) ∙ m.durable ∙ ap (λ (x : Managed). x.gathered) (sym g);
        own = ap (λ (x : Managed). x.own) g ∙ m.own;
        placed = λ w call lt st c. subst (λ (x : Managed). EndsBy x.gathered call.spot) (sym g) (m.placed w call lt st c);
      }

  done_clerk : IsDone first h jobs telling → (w : ℕ) → w < first.load.workers → ClerkDone h.me.0.seen (worker_back h w) (slice_index_or (acked_back first h) w [])
  done_clerk q w lt =
      subst (λ (a : List (List Ticket)). ClerkDone h.me.0.seen (worker_back h w) (slice_index_or a w [])) (sym (acked_is first table bases ws h jobs telling b d))
      (subst (λ (v : List ℕ). ClerkDone v (worker_back h w) (slice_index_or (acked_in telling.seat.me.0) w [])) (sym seen_durables) (q.clerk w lt))

  apart_at : NoneShort jobs → (j : ℕ) → j < first.load.streams → ManagerApart first.load h.me.0.seen j (bases j) (managed_back first h j)
  apart_at memory j lt =
      let (job, at) = job_at first table bases ws h jobs telling b d j lt in
      let (w, is) = writer_at j lt in
      let back = b.managers.each j w job is at in
      let apart = back.manager.apart (memory j job at) in
      let there : slice_get h.managers j ≡ Some (Some job.seat.stock) = subst (λ (i : ℕ). slice_get h.managers i ≡ Some (Some job.seat.stock)) (let e : 0 + j ≡ j = omega arith in e) (b.has j job at).stock in
      let has_stock : HasStock first h.me.0 j job.seat.stock = subst (λ (o : Plain). HasStock o h.me.0 j job.seat.stock) (as_first first table bases ws h jobs telling b d) (d.manager j job.seat.stock there) in
      let role : role_back h (manager_role first.load j) ≡ has_stock.role = ap role_or has_stock.is in
      let managed : managed_back first h j ≡ has_stock.stock.managed = ap (λ (r : Role). managed_in_share r.share) role ∙ ap managed_in_share has_stock.stock.share in
      let anchors : (managed_back first h j).anchors ≡ job.seat.stock.anchors = ap (λ (x : Managed). x.anchors) managed ∙ has_stock.stock.anchors in
      let before : ℕ = slice_index first.load.opening.anchors.items j in
      let spacing : IsSpacing before (length (bases j)) (durable_of job.writer) (own_of j job.seat.stock.anchors) =
      subst (λ (i : ℕ). IsSpacing (slice_index first.load.opening.anchors.items i) (length (bases j)) (durable_of job.writer) (own_of i job.seat.stock.anchors)) back.at
      (subst (λ (o : Option Plain). IsSpacing (anchors_in o job.seat.stream) (length (bases j)) (durable_of job.writer) (own_of job.seat.stream job.seat.stock.anchors)) back.opened apart.spacing) in
      subst (λ (vs : List (List ℕ)). IsSpacing before (length (bases j)) (slice_index h.me.0.seen j) (own_of j vs)) (sym anchors)
      (subst (λ (n : ℕ). IsSpacing before (length (bases j)) n (own_of j job.seat.stock.anchors)) (sym (seen_at j job at)) spacing)

  pub closes_done : {style : Style} (result : Plain) → desk.IsClosing first style h.me.0 result → ClosesDone first style bases ws (map writer_in jobs) h jobs telling result
  closes_done result k = record {
    run = closes_run first table bases ws h jobs telling b d result k;
    done = λ q. subst (λ (s : Core). IsOver first.load.streams (stopped_by (map writer_in jobs) s) × NoneLost (length first.load.calls) s) (sym (closes_state first table bases ws h jobs telling b d result k))
        (thread_done first h.me.0 (worker_back h) (managed_back first h) (acked_back first h) k.state (closing first table bases ws h jobs telling b d result k) bases ws (map writer_in jobs) (all_told telling.told) b.managers.writers (λ w lt. (b.head.workers w lt).loose)
        (knows first table bases ws h jobs telling b d) (telling_back first table bases ws h jobs telling b d) (λ w lt. record { rests = (q.workers w lt).rests; kept = (q.workers w lt).kept }) (done_manager q) (done_clerk q) (λ goes. nothing_left first table bases ws h jobs telling b d result k q.memory q.workers (b.clerk.clerk.raised q.telling_memory) goes q.left));
    apart = λ memory. subst (λ (s : Core). AreApart bases first.load s) (sym (closes_state first table bases ws h jobs telling b d result k))
        (thread_apart first h.me.0 (worker_back h) (managed_back first h) (acked_back first h) k.state (closing first table bases ws h jobs telling b d result k) bases ws (map writer_in jobs) (all_told telling.told) b.managers.writers (λ w lt. (b.head.workers w lt).loose)
        (knows first table bases ws h jobs telling b d) (telling_back first table bases ws h jobs telling b d) (apart_at memory));
  }

-- a step by which the head takes in nothing of the workers keeps it
pub done_keeps : {D : Type 0} {G : Ghosts D} (first : Plain) (h h' : PlainHead) (jobs : List (ManagerJob D G)) (telling : ClerkJob) → KeepsHead first h h' → IsDone first h jobs telling → IsDone first h' jobs telling
done_keeps first h h' jobs telling k q =
    let same : (w : ℕ) → w < first.load.workers → worker_back h' w ≡ worker_back h w = λ w lt. ap (λ (r : Role). worker_in_share r.share) (worker_same first h h' w lt k) in
    record {
      memory = q.memory;
      workers = λ w lt. keeps_ran first h h' w lt k (q.workers w lt);
      managers = λ j job at works.
          (let m = q.managers j job at works in
          record { durable = m.durable; own = m.own; placed = λ w call lt st c. m.placed w call lt st (subst (λ (x : Worker). Member call x.committed) (same w lt) c) });
      clerk = λ w lt. subst (λ (x : Worker). ClerkDone (durables jobs) x (slice_index_or (acked_in telling.seat.me.0) w [])) (sym (same w lt)) (q.clerk w lt);
      telling_memory = q.telling_memory;
      left = elim q.left [
        | inl so ↦ inl (k.found so)
        | inr can ↦ inr (subst (λ (ps : List (Option PlainWork)). CanGoOn (length first.load.calls) ps None) (sym k.workers) can)
      ];
    }
