-- When a pass has left nothing.
use Rattle.std.proofs.Common.{ℕ, ◌+◌, ◌<◌, ◌≤◌, ◌≡◌, ◌⊎◌, inl, inr, Bool, true, false, List, [], length, map, refl, sym, ap, subst, ◌∙◌, arith, slice_index}
use Rattle.std.specs.Prelude.{Some, None, ◌%◌, ◌==◌, slice_get, slice_index_or, slice_set}
use Rattle.std.specs.List.{filter}
use Rattle.std.proofs.lemmas.Bool.{cases_eq, eqb-true}
use Rattle.std.proofs.lemmas.List.{length-map}
use Rattle.atomic_table.specs.Seated.{TableId}
use Rattle.tau_disk.specs.Disk.{Rose}
use Rattle.tau_disk.specs.declared.disk.Disk.{Ghosts}
use Rattle.tau_stream.specs.declared.writer.Writer.{Writer}
use Rattle.tau_stream.specs.Writer.{durable_of, has_failed}
use Rattle.tau_model.specs.History.{Act, Member, updates}
use Rattle.tau_model.specs.declared.committed.Committed.{Committed}
use Rattle.tau_model.proofs.Logged.{member_filtered}
use Rattle.tau_machine.specs.Hands.{Txn, committed_of, spot_of}
use Rattle.tau_machine.specs.Invariant.{Invariant}
use Rattle.tau_machine.specs.State.{Core, Ticket}
use Rattle.tau_machine.specs.Worker.{Worker}
use Rattle.tau_machine.proofs.Results.{run_theorem}
use Rattle.tau_core.specs.Opens.{nothing}
use Rattle.tau_core.specs.State.{Plain}
use Rattle.tau_core.specs.View.{core_of, setting_of}
use Rattle.tau_core.specs.declared.state.Load.{Load}
use Rattle.tau_run.specs.Run.{pair_of}
use Rattle.tau_rule.specs.Heads.{role_or}
use Rattle.tau_rule.specs.Role.{Role, Share, Working}
use Rattle.tau_rule.specs.Rule.{IsShare, has}
use Rattle.tau_rule.specs.Steps.{worker_in_share}
use Rattle.tau_desk.specs.Manages.{PlacedTo, acked_in, managed_in}
use Rattle.tau_desk.specs.Resumes.{CanGoOn}
use Rattle.tau_desk.specs.Seats.{Heads, PlainHead}
use Rattle.tau_desk.specs.Shares.{PlainWork}
use Rattle.tau_crew_facts.specs.Closing.{ClerkDone, EndsBy, ManagerDone, covered_count}
use Rattle.tau_crew_facts.specs.Telling.{IsTelling}
use Rattle.tau_crew.specs.declared.clerk.ClerkJob.{ClerkJob}
use Rattle.tau_crew.specs.declared.manager.ManagerJob.{ManagerJob}
use Rattle.tau_crew.specs.declared.told.Told.{Told}
use Rattle.tau_crew.specs.Clerking.{all_told, with_missing}
use Rattle.tau_crew.specs.Ending.{AreManagersBack, HasRunBack, IsBack, IsClerkBack, IsHeadBack, role_back, worker_back}
use Rattle.tau_crew.specs.EndDone.{IsDone, NoneShort, durable_in, durables}
use Rattle.tau_crew.specs.EndLeft.{AreTold, GoesOn, HasGatheredAll, HaveGathered, calls_of}
use Rattle.tau_crew.proofs.EndPasses.{writer_of}
use Rattle.tau_crew.proofs.Driving.{set_there}
use Rattle.tau_crew.proofs.EndDone.{index_map}
use Rattle.tau_crew.proofs.EndSettles.{set_other}
use Rattle.tau_crew.proofs.ManagerEnds.{manager_done}
use Rattle.tau_base.proofs.Lists.{got_within}
use Rattle.tau_desk.proofs.CloseCalls.{shown_calls}
use Rattle.tau_model.proofs.Assembling.{member_mapped}

-- ---- what the workers placed

ends_by : (b : Bool) (t : Txn) (upto : ℕ) → (b ≡ true → t.place.past ≤ upto) → EndsBy upto (spot_of b t)
ends_by true t upto h = h refl
ends_by false t upto h = tt

-- the record of a committed call ends no later than its stream is placed
placed_within : (l : Load) (K : List (Act Txn)) (s : Core) → Invariant (setting_of l) K s → (w j : ℕ) → w % l.streams ≡ j → (call : Committed) → Member call (s.workers w).committed → EndsBy (slice_index s.ends j) call.spot
placed_within l K s inv w j at call m =
    let good = inv.agrees.good in
    let there : Member call (map committed_of (filter (λ (t : Act Txn). t.call.worker == w) K)) = subst (λ (cs : List Committed). Member call cs) (good.members w) m in
    let (t, q, is) = member_mapped committed_of call (filter (λ (t : Act Txn). t.call.worker == w) K) there in
    let of = member_filtered (λ (x : Act Txn). x.call.worker == w) t K q in
    let whose : t.call.worker ≡ w = eqb-true t.call.worker w of.1 in
    subst (λ (c : Committed). EndsBy (slice_index s.ends j) c.spot) is
    (ends_by (updates t.effect) t.call (slice_index s.ends j) (λ up. subst (λ (i : ℕ). t.call.place.past ≤ slice_index s.ends i) (good.streams t of.0 up ∙ ap (λ (u : ℕ). u % l.streams) whose ∙ at) (good.good.order.pasts t of.0 up)))

-- ---- what the clerk told

-- as many calls of a worker were told as its view has acknowledged
told_count : (l : Load) (acked : List (List Ticket)) (seen : List ℕ) (t : Told) → IsTelling l acked seen (all_told t) → t.missing ≡ None → (w : ℕ) → w < l.workers → length (calls_of l.workers w t.acks) ≡ length (slice_index_or acked w [])
told_count l acked seen t tells none w lt =
    let all : all_told t ≡ t.acks = ap (with_missing t.acks) none in
    ap (λ (xs : List (ℕ × List ℕ)). length (calls_of l.workers w xs)) (sym all) ∙ ap (length {A = ℕ × List ℕ}) (tells.each w lt) ∙ length-map (slice_index_or acked w []) pair_of

-- ---- what the head has is what its view says

module _ (first : Plain) (table : TableId) (h : PlainHead) (b : IsHeadBack first table h) (d : Heads h) where
  role_at : (w : ℕ) → w < first.load.workers → (role : Role) × (has w h.me.0 ≡ Some role) × (role.share ≡ Working (worker_back h w))
  role_at w lt =
      let back = b.workers w lt in
      let k = d.worker w back.work back.there in
      let at : role_back h w ≡ k.role = ap role_or k.is in
      let is : worker_back h w ≡ k.work.worker = ap (λ (r : Role). worker_in_share r.share) at ∙ ap worker_in_share k.work.share in
      (k.role, k.is, k.work.share ∙ ap Working (sym is))

  -- the calls of the workers end where the stream is placed at a state with which the head agrees
  pub placed_by : (j upto : ℕ) → PlacedTo first h.me.0 j upto → (w : ℕ) (call : Committed) → w < first.load.workers → w % first.load.streams ≡ j → Member call (worker_back h w).committed → EndsBy upto call.spot
  placed_by j upto p w call lt at m =
      let r = p.meets.reached in
      let inv : Invariant (setting_of first.load) r.joined p.state.core = run_theorem (setting_of first.load) (core_of first nothing) r.events r.joined p.state.core r.run in
      let (role, is, share) = role_at w lt in
      let now : p.state.core.workers w ≡ worker_back h w = (subst (λ (x : Share). IsShare first.load w x p.state) share (p.roles w role is).0).1 in
      subst (λ (n : ℕ). EndsBy n call.spot) p.end
      (placed_within first.load r.joined p.state.core inv w j at call (subst (λ (x : Worker). Member call x.committed) (sym now) m))

  -- a manager whose disk works has nothing to do
  pub managers_done : {D : Type 0} {G : Ghosts D} (bases : ℕ → List ℕ) (ws : List (Writer D G)) (jobs : List (ManagerJob D G)) → AreManagersBack first table bases ws jobs → NoneShort jobs → HaveGathered first h jobs (length jobs) →
      (j : ℕ) (job : ManagerJob D G) → slice_get jobs j ≡ Some job → has_failed job.writer ≡ false → ManagerDone first.load job.seat.seen (worker_back h) j (managed_in job.seat.me.0)
  managers_done bases ws jobs m memory gathered j job at works =
      let got = gathered j job (got_within jobs j job at) at works in
      let (w, is) = writer_of first table bases ws jobs m j job at in
      let back = m.each j w job is at in
      let all : PlacedTo first h.me.0 j job.seat.stock.gathered = subst (λ (i : ℕ). PlacedTo first h.me.0 i job.seat.stock.gathered) back.at got.all in
      manager_done first.load job.seat.seen j (bases j) job.seat w job.writer job.marks.last job.marks.placed job.short back.manager got.manages refl (memory j job at) works got.own (worker_back h) (λ u call lt st q. placed_by j job.seat.stock.gathered all u call lt st q)

  -- the clerk has acknowledged what the positions cover
  pub clerk_done : (positions : List ℕ) (telling : ClerkJob) → IsClerkBack first table telling → telling.short ≡ false → AreTold first.load.workers positions h telling.told.acks first.load.workers → (w : ℕ) → w < first.load.workers →
      ClerkDone positions (worker_back h w) (slice_index_or (acked_in telling.seat.me.0) w [])
  clerk_done positions telling t memory told w lt =
      let back = b.workers w lt in
      let k = d.worker w back.work back.there in
      let is : worker_back h w ≡ k.work.worker = ap (λ (r : Role). worker_in_share r.share) (ap role_or k.is) ∙ ap worker_in_share k.work.share in
      let committed : (worker_back h w).committed ≡ back.work.committed = ap (λ (x : Worker). x.committed) is ∙ shown_calls d.origin.load k.work.worker back.work back.work.mark k.work.shows in
      let enough : covered_count positions back.work.committed ≤ length (calls_of first.load.workers w telling.told.acks) = told w back.work lt back.there in
      let count = told_count first.load (acked_in telling.seat.me.0) telling.seat.seen telling.told t.tells (t.clerk.none memory) w lt in
      let covered : covered_count positions (worker_back h w).committed ≡ covered_count positions back.work.committed = ap (covered_count positions) committed in
      omega (arith, enough, count, covered)

  -- so the run has gone to its end, where the calls that were left over have too
  pub all_done : {D : Type 0} {G : Ghosts D} (bases : ℕ → List ℕ) (ws : List (Writer D G)) (jobs : List (ManagerJob D G)) (telling : ClerkJob) (workers : ℕ) → workers ≡ first.load.workers → AreManagersBack first table bases ws jobs → IsClerkBack first table telling → NoneShort jobs → telling.short ≡ false →
      HaveGathered first h jobs (length jobs) → AreTold workers (durables jobs) h telling.told.acks workers → ((w : ℕ) → w < first.load.workers → HasRunBack first.load h w) → (h.me.0.found ≡ true) ⊎ CanGoOn (length first.load.calls) h.workers None → IsDone first h jobs telling
  all_done bases ws jobs telling workers count m t memory short gathered told ran left = record {
    memory = memory;
    workers = ran;
    managers = managers_done bases ws jobs m memory gathered;
    clerk = clerk_done (durables jobs) telling t short (subst (λ (n : ℕ). AreTold n (durables jobs) h telling.told.acks n) count told);
    telling_memory = short;
    left = left;
  }

-- ---- steps of the tests

module _ {D : Type 0} {G : Ghosts D} (jobs : List (ManagerJob D G)) (upto : ℕ) (here : ManagerJob D G) (at : slice_get jobs upto ≡ Some here) where
  at_once : (P : ManagerJob D G → Type 0) → P here → (j : ℕ) (job : ManagerJob D G) → j ≡ upto → slice_get jobs j ≡ Some job → P job
  at_once P p j job e is = subst P (let same : Some here ≡ Some job = sym at ∙ ap (slice_get jobs) (sym e) ∙ is in cc same) p

  pub none_short_more : ((j : ℕ) (job : ManagerJob D G) → j < upto → slice_get jobs j ≡ Some job → job.short ≡ false) → here.short ≡ false → (j : ℕ) (job : ManagerJob D G) → j < upto + 1 → slice_get jobs j ≡ Some job → job.short ≡ false
  none_short_more had p j job lt is = elim (cases_eq j upto) [
    | inl e ↦ at_once (λ x. x.short ≡ false) p j job e is
    | inr ne ↦ had j job (omega (arith, lt, ne)) is
  ]

  pub positions_more : (xs : List ℕ) → length xs ≡ length jobs → ((j : ℕ) → j < upto → slice_index xs j ≡ slice_index (durables jobs) j) → (j : ℕ) → j < upto + 1 → slice_index (slice_set xs upto (durable_of here.writer)) j ≡ slice_index (durables jobs) j
  positions_more xs long had j lt = elim (cases_eq j upto) [
    | inl e ↦ ap (slice_index (slice_set xs upto (durable_of here.writer))) e ∙ set_there xs upto (durable_of here.writer) (let low = got_within jobs upto here at in omega (arith, low, long)) ∙ sym (index_map durable_in jobs upto here at) ∙ ap (slice_index (durables jobs)) (sym e)
    | inr ne ↦ set_other xs upto (durable_of here.writer) j ne ∙ had j (omega (arith, lt, ne))
  ]

pub gathered_more : {D : Type 0} {G : Ghosts D} (first : Plain) (h : PlainHead) (jobs : List (ManagerJob D G)) (upto : ℕ) → HaveGathered first h jobs upto →
    ((job : ManagerJob D G) → slice_get jobs upto ≡ Some job → has_failed job.writer ≡ false → HasGatheredAll first h job.seat) → HaveGathered first h jobs (upto + 1)
gathered_more first h jobs upto had here j job lt is works = elim (cases_eq j upto) [
  | inl e ↦ here job (ap (slice_get jobs) (sym e) ∙ is) works
  | inr ne ↦ had j job (omega (arith, lt, ne)) is works
]

pub told_more : (workers : ℕ) (positions : List ℕ) (h : PlainHead) (acks : List (ℕ × List ℕ)) (upto : ℕ) → AreTold workers positions h acks upto →
    ((o : PlainWork) → slice_get h.workers upto ≡ Some (Some o) → covered_count positions o.committed ≤ length (calls_of workers upto acks)) → AreTold workers positions h acks (upto + 1)
told_more workers positions h acks upto had here w o lt is = elim (cases_eq w upto) [
  | inl e ↦ subst (λ (u : ℕ). covered_count positions o.committed ≤ length (calls_of workers u acks)) (sym e) (here o (ap (slice_get h.workers) (sym e) ∙ is))
  | inr ne ↦ had w o (omega (arith, lt, ne)) is
]

-- ---- what goes on

rose_on : (a b c : ℕ) → a ≤ b → Rose b c → Rose a c
rose_on a b c le r = omega (arith, le, r)

rose_more : (a b c : ℕ) → b ≤ c → Rose a b → Rose a c
rose_more a b c le r = omega (arith, le, r)

module _ {D : Type 0} {G : Ghosts D} (first : Plain) (table : TableId) (hears : Type 0) where
  pub goes_none : (held : List ℕ) (faults : ℕ) (jobs : List (ManagerJob D G)) (job : ClerkJob) → IsClerkBack first table job → GoesOn first table hears held held faults faults jobs jobs job job
  goes_none held faults jobs job b = record { managers = λ bases ws m. m; clerk = b; heard = λ t base h. h; cause = λ s. inl s; faults_up = omega arith }

  pub goes_on : (held held' held'' : List ℕ) (faults faults' faults'' : ℕ) (jobs jobs' jobs'' : List (ManagerJob D G)) (job job' job'' : ClerkJob) → GoesOn first table hears held held' faults faults' jobs jobs' job job' →
      GoesOn first table hears held' held'' faults' faults'' jobs' jobs'' job' job'' → GoesOn first table hears held held'' faults faults'' jobs jobs'' job job''
  goes_on held held' held'' faults faults' faults'' jobs jobs' jobs'' job job' job'' a b = record {
    managers = λ bases ws m. b.managers bases ws (a.managers bases ws m);
    clerk = b.clerk;
    heard = λ t base h. b.heard t base (a.heard t base h);
    cause = λ s. elim (b.cause s) [
      | inl before ↦ elim (a.cause before) [ inl was ↦ inl was | inr rose ↦ inr (rose_more faults faults' faults'' b.faults_up rose) ]
      | inr rose ↦ inr (rose_on faults faults' faults'' a.faults_up rose)
    ];
    faults_up = (let x = a.faults_up in let y = b.faults_up in omega (arith, x, y));
  }

  -- so what comes back is as the ending wants it
  pub back_on : (bases : ℕ → List ℕ) (ws : List (Writer D G)) (held now now' : List ℕ) (faults before after : ℕ) (h h' : PlainHead) (jobs jobs' : List (ManagerJob D G)) (job job' : ClerkJob) (short : Bool) → faults ≤ before →
      IsBack first table bases ws hears held now (Rose faults before) h jobs job short → IsHeadBack first table h' → GoesOn first table hears now now' before after jobs jobs' job job' → IsBack first table bases ws hears held now' (Rose faults after) h' jobs' job' true
  back_on bases ws held now now' faults before after h h' jobs jobs' job job' short up b head goes = record {
    head = head;
    managers = goes.managers bases ws b.managers;
    clerk = goes.clerk;
    heard = λ t. goes.heard t held (b.heard t);
    sink = λ s. elim (goes.cause s) [
      | inl was ↦ rose_more faults before after goes.faults_up (b.sink was)
      | inr rose ↦ rose_on faults before after up rose
    ];
    run = λ bad. absurd (let no_way : true ≡ false = bad in cc no_way);
  }
