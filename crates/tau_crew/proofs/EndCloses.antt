-- The head has every role back: the desk closes, and that ends the run.
use Rattle.std.proofs.Common.{ℕ, ◌+◌, ◌<◌, ◌≡◌, Option, List, [], length, map, refl, sym, ap, subst, ◌∙◌, arith, slice_index}
use Rattle.std.specs.Prelude.{Some, None, slice_get, slice_index_or}
use Rattle.std.specs.Option.{option_map}
use Rattle.std.proofs.lemmas.List.{length-map}
use Rattle.std.proofs.lemmas.Option.{slice_get-map}
use Rattle.tau_base.specs.Modes.{format_of}
use Rattle.tau_outbox.specs.declared.Piece.{Piece}
use Rattle.tau_occ.specs.declared.style.Style.{Style}
use Rattle.tau_run.specs.Run.{pair_of}
use Rattle.tau_crew_facts.specs.Ends.{IsThreadEnd}
use Rattle.tau_crew_facts.specs.Telling.{IsTelling}
use Rattle.tau_crew_facts.proofs.Closing.{lasts, thread_end}
use Rattle.tau_desk.specs.Manages.{acked_in, managed_in, acked_in_share}
use Rattle.tau_crew.specs.Clerking.{all_told}
use Rattle.atomic_table.specs.Seated.{TableId}
use Rattle.tau_disk.specs.declared.disk.Disk.{Ghosts}
use Rattle.tau_stream.specs.declared.writer.Writer.{Writer}
use Rattle.tau_stream.specs.Writer.{disk_of}
use Rattle.tau_machine.specs.State.{Ticket}
use Rattle.tau_txn.specs.Txn.{has_joined, held_in}
use Rattle.tau_core.specs.State.{Plain}
use Rattle.tau_rule.specs.Heads.{role_or}
use Rattle.tau_rule.specs.Role.{Clerking, Managing, Managed, Role, Working, managed_in_share}
use Rattle.tau_rule.specs.Rule.{clerk_role, has, manager_role}
use Rattle.tau_rule.specs.Steps.{first_role, worker_in_share}
use Rattle.tau_desk.specs.Ends as desk
use Rattle.tau_desk.specs.Seats.{HasStock, HasWork, Heads, PlainHead}
use Rattle.tau_desk.specs.Shares.{PlainStock, PlainWork}
use Rattle.tau_crew_facts.specs.Closing.{IsClosing, ManagerKnows}
use Rattle.tau_crew_facts.specs.Writers.{AllBecameDurable, HasWritten}
use Rattle.tau_crew.specs.declared.clerk.ClerkJob.{ClerkJob}
use Rattle.tau_crew.specs.declared.manager.ManagerJob.{ManagerJob}
use Rattle.tau_crew.specs.Gathering.{taken_in}
use Rattle.tau_crew.specs.Ending.{role_back, worker_back}
use Rattle.tau_crew.specs.EndCloses.{ClosesRun, IsAllBack}
use Rattle.tau_crew.specs.EndJoins.{writer_in}
use Rattle.tau_crew.proofs.EndJoins.{same_origin}
use Rattle.tau_base.proofs.Lists.{some_at, got_within}
use Rattle.tau_run.specs.Writers.{EachOf}

abbrev pub managed_back : Plain → PlainHead → ℕ → Managed
managed_back first h j = managed_in_share (role_back h (manager_role first.load j)).share

abbrev pub acked_back : Plain → PlainHead → List (List Ticket)
acked_back first h = acked_in_share (role_back h (clerk_role first.load)).share

module _ {D : Type 0} {G : Ghosts D} (first : Plain) (table : TableId) (bases : ℕ → List ℕ) (ws : List (Writer D G)) (h : PlainHead) (jobs : List (ManagerJob D G)) (telling : ClerkJob) (b : IsAllBack first table bases ws h jobs telling) (d : Heads h) where
  pub as_first : d.origin ≡ first
  as_first = same_origin h.me.0.opened d.opened b.head.opened

  pub job_at : (j : ℕ) → j < first.load.streams → (job : ManagerJob D G) × (slice_get jobs j ≡ Some job)
  job_at j lt = some_at jobs j (let e = b.managers.count in omega (arith, lt, e))

  -- no role is out
  pub whole : desk.IsWhole h
  whole = record {
    workers = λ w out. (
        let low : w < length h.workers = got_within h.workers w None out in
        let count : length h.workers ≡ first.load.workers = d.worker_count ∙ ap (λ (o : Plain). o.load.workers) as_first in
        let there = (b.head.workers w (omega (arith, low, count))).there in
        let bad : ◌≡◌ {A = Option (Option PlainWork)} (Some None) (Some (Some (b.head.workers w (omega (arith, low, count))).work)) = sym out ∙ there in
        cc bad);
    managers = λ j out. (
        let low : j < length h.managers = got_within h.managers j None out in
        let count : length h.managers ≡ first.load.streams = d.manager_count ∙ ap (λ (o : Plain). o.load.streams) as_first in
        let (job, is) = job_at j (omega (arith, low, count)) in
        let there : slice_get h.managers j ≡ Some (Some job.seat.stock) = subst (λ (i : ℕ). slice_get h.managers i ≡ Some (Some job.seat.stock)) (let e : 0 + j ≡ j = omega arith in e) (b.has j job is).stock in
        let bad : ◌≡◌ {A = Option (Option PlainStock)} (Some None) (Some (Some job.seat.stock)) = sym out ∙ there in
        cc bad);
    clerk = b.there;
  }

  pub resting : desk.AreResting h
  resting w o is =
      let low : w < length h.workers = got_within h.workers w (Some o) is in
      let count : length h.workers ≡ first.load.workers = d.worker_count ∙ ap (λ (p : Plain). p.load.workers) as_first in
      let back = b.head.workers w (omega (arith, low, count)) in
      let same : back.work ≡ o = (let e : Some (Some back.work) ≡ Some (Some o) = sym back.there ∙ is in cc e) in
      (ap (λ (x : PlainWork). held_in x.txn) (sym same) ∙ back.held, ap (λ (x : PlainWork). has_joined x.txn) (sym same) ∙ back.unjoined)

  pub closing : {style : Style} (result : Plain) (k : desk.IsClosing first style h.me.0 result) → IsClosing first style h.me.0 (worker_back h) (managed_back first h) (acked_back first h) k.state
  closing result k = record {
    meets = k.meets;
    sees = k.sees;
    roles = k.roles;
    worker = λ w lt.
        (let back = b.head.workers w lt in
        let has_work : HasWork first h.me.0 w back.work = subst (λ (o : Plain). HasWork o h.me.0 w back.work) as_first (d.worker w back.work back.there) in
        let role : role_back h w ≡ has_work.role = ap role_or has_work.is in
        (has_work.role, has_work.is, has_work.work.share ∙ ap Working (sym (ap (λ (r : Role). worker_in_share r.share) role ∙ ap worker_in_share has_work.work.share))));
    manager = λ j lt.
        (let (job, is) = job_at j lt in
        let there : slice_get h.managers j ≡ Some (Some job.seat.stock) = subst (λ (i : ℕ). slice_get h.managers i ≡ Some (Some job.seat.stock)) (let e : 0 + j ≡ j = omega arith in e) (b.has j job is).stock in
        let has_stock : HasStock first h.me.0 j job.seat.stock = subst (λ (o : Plain). HasStock o h.me.0 j job.seat.stock) as_first (d.manager j job.seat.stock there) in
        let role : role_back h (manager_role first.load j) ≡ has_stock.role = ap role_or has_stock.is in
        (has_stock.role, has_stock.is, has_stock.stock.share ∙ ap Managing (sym (ap (λ (r : Role). managed_in_share r.share) role ∙ ap managed_in_share has_stock.stock.share))));
    clerk =
        (let mine = d.clerk_is b.there in
        let is : has (clerk_role first.load) h.me.0 ≡ Some mine.role = subst (λ (o : Plain). has (clerk_role o.load) h.me.0 ≡ Some mine.role) as_first mine.is in
        let role : role_back h (clerk_role first.load) ≡ mine.role = ap role_or is in
        (mine.role, is, mine.share ∙ ap Clerking (sym (ap (λ (r : Role). acked_in_share r.share) role ∙ ap acked_in_share mine.share))));
    box = λ w lt.
        (let count : length result.seats ≡ first.load.workers = k.stands.sound.seats ∙ ap (λ (l : _). l.workers) k.load in
        let (x, is) = some_at result.seats w (omega (arith, lt, count)) in
        (x.outbox, x.pending, k.box w x is));
  }

  -- the role of a manager is as its seat had it
  pub managed_is : (j : ℕ) (job : ManagerJob D G) → slice_get jobs j ≡ Some job → managed_back first h j ≡ managed_in job.seat.me.0
  managed_is j job is =
      let e : 0 + j ≡ j = omega arith in
      ap (λ (o : Option Role). managed_in_share (role_or o).share) (subst (λ (i : ℕ). has (manager_role first.load i) h.me.0 ≡ Some (first_role job.seat.me.0.roles).1) e (b.has j job is).role)

  pub acked_is : acked_back first h ≡ acked_in telling.seat.me.0
  acked_is = ap (λ (o : Option Role). acked_in_share (role_or o).share) b.has_clerk

  -- what each manager knows
  pub knows : EachOf (λ j w w'. ManagerKnows first.load h.me.0.seen j (bases j) (managed_back first h j) w w') ws (map writer_in jobs)
  knows = record {
    count = length-map jobs writer_in ∙ b.managers.count ∙ sym b.managers.writers;
    each = λ j w is.
        (let low : j < length ws = got_within ws j w is in
        let (job, at) = job_at j (let e = b.managers.writers in omega (arith, low, e)) in
        let back = b.managers.each j w job is at in
        let its : slice_get (map writer_in jobs) j ≡ Some job.writer = slice_get-map writer_in jobs j ∙ ap (option_map writer_in) at in
        let seen : slice_index job.seat.seen j ≡ slice_index h.me.0.seen j = back.manager.wrote.stored ∙ sym (b.sees j job.writer its) ∙ ap (λ (v : List ℕ). slice_index v j) (sym d.seen_is) in (
          job.writer,
          its,
          record {
            ready = back.ready;
            written =
                subst (λ (ps : List Piece). HasWritten (format_of first.load.mode) first.load.streams j (bases j) ps (slice_index h.me.0.seen j) w job.writer) (sym (ap (λ (m : Managed). m.taken) (managed_is j job at)))
                (subst (λ (k : ℕ). HasWritten (format_of first.load.mode) first.load.streams j (bases j) (taken_in job.seat) k w job.writer) seen back.manager.wrote.written);
            lasts = λ t. subst (λ (us : List ℕ). AllBecameDurable G (format_of first.load.mode) first.load.streams j (disk_of job.writer) us) (sym (ap (λ (m : Managed). m.stored) (managed_is j job at))) (back.manager.wrote.lasts t);
          },
        ));
  }

  -- the clerk has told what the head has acknowledged
  pub telling_back : IsTelling first.load (acked_back first h) h.me.0.seen (all_told telling.told)
  telling_back = record {
    each = λ w lt. b.clerk.tells.each w lt ∙ ap (λ (a : List (List Ticket)). map pair_of (slice_index_or a w [])) (sym acked_is);
    licensed = λ a m j. (let x = b.clerk.tells.licensed a m j in let y = b.clerk_seen j in let z = ap (λ (v : List ℕ). slice_index v j) d.seen_is in omega (arith, x, y, z));
  }

  pub ends_thread : {style : Style} (result : Plain) (k : desk.IsClosing first style h.me.0 result) → IsThreadEnd bases first style k.state.core ws (map writer_in jobs) (all_told telling.told)
  unfolding closing
  ends_thread result k =
      let t = thread_end first h.me.0 (worker_back h) (managed_back first h) (acked_back first h) k.state (closing result k) bases ws (map writer_in jobs) (all_told telling.told) b.managers.writers (λ w lt. (b.head.workers w lt).loose) knows telling_back in
      record {
        closed = record {
          opened = k.meets.opened;
          events = k.meets.reached.events;
          joined = k.meets.reached.joined;
          run = k.meets.reached.run;
          held = k.meets.reached.held;
          going = k.meets.going;
          loose = t.closed.loose;
          boxes = t.closed.boxes;
        };
        count = t.count;
        managers = t.managers;
        lasts = lasts first h.me.0 (worker_back h) (managed_back first h) (acked_back first h) k.state (closing result k) bases ws (map writer_in jobs) (all_told telling.told) b.managers.writers (λ w lt. (b.head.workers w lt).loose) knows telling_back;
        clerk = t.clerk;
      }

  pub closes_run : {style : Style} (result : Plain) → desk.IsClosing first style h.me.0 result → ClosesRun first style bases ws (map writer_in jobs) telling result
  unfolding ends_thread
  closes_run result k = record {
    state = k.state.core;
    came = ends_thread result k;
    load = k.load;
    hidden = k.hidden;
    stands = k.stands;
    core = k.core;
  }

  pub closes_state : {style : Style} (result : Plain) (k : desk.IsClosing first style h.me.0 result) → (closes_run result k).state ≡ k.state.core
  unfolding closes_run
  closes_state result k = refl
