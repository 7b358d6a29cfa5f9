-- How a manager's loop begins, and what is known when it has ended.
use Rattle.std.proofs.Common.{ℕ, ◌<◌, ◌≡◌, Bool, false, List, [], length, sym, ap, subst, ◌∙◌, arith, slice_index}
use Rattle.std.specs.Prelude.{◌%◌}
use Rattle.tau_base.specs.declared.format.Format.{Format}
use Rattle.tau_base.specs.Modes.{format_of}
use Rattle.tau_base.proofs.Logic.{some_is}
use Rattle.tau_disk.specs.declared.disk.Disk.{Ghosts}
use Rattle.tau_stream.specs.declared.writer.Writer.{Writer}
use Rattle.tau_stream.specs.Writer.{disk_of, durable_of, has_failed, IsReady}
use Rattle.tau_outbox.specs.declared.Piece.{Piece}
use Rattle.tau_outbox.specs.Pieces.{bytes_of}
use Rattle.tau_model.specs.History.{Member}
use Rattle.tau_model.specs.declared.committed.Committed.{Committed}
use Rattle.tau_machine.specs.Worker.{Worker}
use Rattle.tau_core.specs.declared.state.Load.{Load}
use Rattle.tau_run.specs.Writers.{IsNew}
use Rattle.tau_desk.specs.Manages.{managed_in}
use Rattle.tau_desk.specs.Seats.{Manages, PlainManagerSeat}
use Rattle.tau_crew_facts.specs.Closing.{EndsBy, ManagerDone, ManagerKnows}
use Rattle.tau_crew_facts.specs.Spacing.{IsSpacing, newest}
use Rattle.tau_crew_facts.specs.Writers.{AllBecameDurable, HasWritten, IsDurableSince, IsManaging}
use Rattle.tau_crew_facts.proofs.DiskLaws.{CountsNow, OnlyNow, SeenNow}
use Rattle.tau_crew_facts.proofs.ManagerWriter.{begins, entry_moves, stored_kept}
use Rattle.tau_crew_facts.proofs.Spacing.{spacing_begins}
use Rattle.tau_crew.specs.Gathering.{AreLong, raised_in, stored_in, taken_in}
use Rattle.tau_crew.specs.declared.manager.ManagerJob.{ManagerJob}
use Rattle.tau_crew.specs.Driving.{IsDriven, IsManagerAt, before_of, own_of}
use Rattle.tau_crew.specs.Jobs.{IsManagerJob, KeepsManager}
use Rattle.tau_crew.proofs.Driving.{left_long, short_of}
use Rattle.tau_crew.proofs.Gathering.{managed_gathered, managed_own}

-- a manager that has done nothing, with a writer that was just opened
pub manager_begins : {D : Type 0} {G : Ghosts D} → SeenNow G → (format : Format) (n j : ℕ) (base : List ℕ) (s : PlainManagerSeat) (w : Writer D G) → IsNew format n j base w → s.stream ≡ j → taken_in s ≡ [] → slice_index s.seen j ≡ length base → s.stock.gathered ≡ length base → s.stock.anchors ≡ [] → s.stock.own.pieces ≡ [] →
    raised_in s.me.0 ≡ false → stored_in s ≡ [] → IsManagerAt format n j base w s w (length base) 0 false
manager_begins {D} {G} seen_now format n j base s w new stream taken seen gathered anchors own raised none_stored =
    let driven : IsDriven format n j base w s w = record {
      stream = stream;
      managing = subst (λ (ps : List Piece). IsManaging format n j base ps w w) (sym taken) (begins format n j base seen_now w (record { works = new.works; durable = new.durable; none = new.left; ready = new.ready }));
      stored = seen ∙ sym new.durable;
      counted = (let e = ap (λ (ps : List Piece). length (bytes_of ps)) taken in omega (arith, gathered, e));
      long = subst AreLong (sym own) tt;
      raised = raised ∙ sym new.works;
      lasts = λ t. subst (λ (us : List ℕ). AllBecameDurable G format n j (disk_of w) us) (sym none_stored) (λ u m. absurd m);
    } in
    let none : own_of s.stream s.stock.anchors ≡ [] = ap (own_of s.stream) anchors in
    record {
      wrote = short_of format n j base w s w driven;
      driven = λ e. driven;
      flushed = λ e f. new.left;
      apart = λ e. record {
        spacing = subst (λ (xs : List ℕ). IsSpacing (before_of s) (length base) (durable_of w) xs) (sym none) (subst (λ (d : ℕ). IsSpacing (before_of s) (length base) d []) (sym new.durable) (spacing_begins (before_of s) (length base)));
        last_is = sym (ap (newest (length base)) none);
        placed_is = sym (ap (length {A = List ℕ}) anchors);
      };
    }

-- the head of a turn is as the entry
pub enters_again : {D : Type 0} {G : Ghosts D} (format : Format) (n j : ℕ) (base : List ℕ) (w0 : Writer D G) (job : ManagerJob D G) → IsManagerJob format n j base w0 job → job.short ≡ false → has_failed job.writer ≡ false → IsManagerJob format n j base job.writer job
enters_again {D} {G} format n j base w0 job m enough works =
    let s : PlainManagerSeat = job.seat in
    let w : Writer D G = job.writer in
    let d : IsDriven format n j base w0 s w = m.driven enough in
    let again : IsDriven format n j base w s w = record {
      stream = d.stream;
      managing = record { managed = entry_moves format n j base (taken_in s) w0 w works d.managing.managed; current = λ e. d.managing.current e };
      stored = d.stored;
      counted = d.counted;
      long = d.long;
      raised = d.raised;
      lasts = d.lasts;
    } in
    record { wrote = short_of format n j base w s w again; driven = λ e. again; flushed = m.flushed; apart = m.apart }

-- and what was stored there stays stored
pub stays_stored : {D : Type 0} {G : Ghosts D} (counts_now : CountsNow G) (only_now : OnlyNow G) (format : Format) (n j : ℕ) (base : List ℕ) (w0 : Writer D G) (job job' : ManagerJob D G) → IsManagerJob format n j base w0 job → job.short ≡ false → has_failed job.writer ≡ false → KeepsManager job job' → G.tells →
    (slice_index job.seat.seen j ≡ durable_of job.writer) × IsDurableSince G format n j (disk_of job'.writer) (G.moment (disk_of job.writer)) (durable_of job.writer)
stays_stored {D} {G} counts_now only_now format n j base w0 job job' m enough works keeps t =
    let d = m.driven enough in
    let later = keeps format n j base job.writer (enters_again format n j base w0 job m enough works) in
    let disk : D = disk_of job.writer in
    let now = d.managing.managed.reached t in (
      d.stored,
      record {
        long = λ x since. stored_kept format n j base only_now (taken_in job.seat) (taken_in job'.seat) (slice_index job'.seat.seen j) w0 job.writer job'.writer d.managing.managed later.wrote.written t x since;
        no_more = (
          now.0,
          (later.wrote.written.before t).kept (G.moment disk) now.0 (omega arith) (counts_now disk (G.moment disk) now.0 (omega arith) now.2),
          λ more has. (let same = ap (length {A = ℕ}) (some_is has.0 now.1 (sym has.1 ∙ now.3)) in let upto = now.4 in let low = has.2 in omega (arith, same, upto, low)),
        );
      },
    )

module _ {D : Type 0} {G : Ghosts D} (l : Load) (v : List ℕ) (j : ℕ) (base : List ℕ) (s : PlainManagerSeat) (w0 w : Writer D G) (last placed : ℕ) (short : Bool) (m : IsManagerAt (format_of l.mode) l.streams j base w0 s w last placed short) (manages : Manages s) (now : slice_index v j ≡ slice_index s.seen j) where
  -- at whatever end
  pub manager_knows : (G.tells → IsReady (format_of l.mode) l.streams j w0 base) → ManagerKnows l v j base (managed_in s.me.0) w0 w
  manager_knows ready = record { ready = ready; written = subst (λ (d : ℕ). HasWritten (format_of l.mode) l.streams j base (taken_in s) d w0 w) (sym now) m.wrote.written; lasts = m.wrote.lasts }

  -- where memory was there
  module _ (enough : short ≡ false) where
    -- if its disk works, it has no anchor that waits, and the records of the workers end within what it gathered
    pub manager_done : has_failed w ≡ false → s.stock.own.pieces ≡ [] → (workers : ℕ → Worker) → ((u : ℕ) (call : Committed) → u < l.workers → u % l.streams ≡ j → Member call (workers u).committed → EndsBy s.stock.gathered call.spot) → ManagerDone l v workers j (managed_in s.me.0)
    manager_done works own workers placed_by =
        let d = m.driven enough in
        let gathered : (managed_in s.me.0).gathered ≡ s.stock.gathered = managed_gathered s manages in
        let all : s.stock.gathered ≡ durable_of w =
        (let long = left_long (format_of l.mode) l.streams j base w0 s w d works in let none = ap (length {A = ℕ}) (m.flushed enough works) in omega (arith, long, none)) in
        record {
          durable = now ∙ d.stored ∙ sym all ∙ sym gathered;
          own = managed_own s manages ∙ own;
          placed = λ u call lt stream q. subst (λ (upto : ℕ). EndsBy upto call.spot) (sym gathered) (placed_by u call lt stream q);
        }
