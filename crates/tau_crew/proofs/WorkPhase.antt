-- When workers, managers and the clerk have run side by side, all is as the ending wants it.
use Rattle.std.proofs.Common.{ℕ, ◌<◌, ◌≡◌, inl, inr, Bool, true, false, arith, List, length, sym, subst, ◌∙◌}
use Rattle.std.specs.Prelude.{Some}
use Rattle.atomic_table.specs.Seated.{TableId}
use Rattle.tau_base.specs.Modes.{format_of}
use Rattle.tau_disk.specs.Disk.{Rose}
use Rattle.tau_disk.specs.declared.disk.Disk.{Ghosts}
use Rattle.tau_stream.specs.declared.writer.Writer.{Writer}
use Rattle.tau_stream.specs.Writer.{IsReady}
use Rattle.tau_core.specs.State.{Plain}
use Rattle.tau_desk.specs.Seats.{PlainHead}
use Rattle.tau_crew.specs.declared.clerk.ClerkJob.{ClerkJob}
use Rattle.tau_crew.specs.declared.manager.ManagerJob.{ManagerJob}
use Rattle.tau_crew.specs.Clerking.{IsToldSoFar, Tells}
use Rattle.tau_crew.specs.Dealing.{AreDealt, IsDealt}
use Rattle.tau_crew.specs.Ending.{AreManagersBack, IsBack}
use Rattle.tau_crew.specs.Together.{ClerkWent, ManagerWent, ManagersWent}
use Rattle.tau_crew.specs.WorkersBack.{AllAreBack, IsAtStart}
use Rattle.tau_base.proofs.Lists.{some_at, got_within, got_or}
use Rattle.tau_run.specs.Writers.{IsBegun}

pub one_head : (x y : PlainHead) → Some x ≡ Some y → x ≡ y
one_head x y e = cc e

module _ {D : Type 0} {G : Ghosts D} (first : Plain) (table : TableId) (bases : ℕ → List ℕ) (ws : List (Writer D G)) (wide : length first.load.opening.ends ≡ first.load.streams) (begun : IsBegun (format_of first.load.mode) bases ws first.load.opening) where
  managers_back : (jobs jobs' : List (ManagerJob D G)) → AreDealt first table bases ws first.load.streams jobs → ManagersWent jobs jobs' → length jobs' ≡ length jobs → AreManagersBack first table bases ws jobs'
  managers_back jobs jobs' dealt went long = record {
    count = long ∙ dealt.count;
    writers = begun.count ∙ wide;
    long = λ j lt. begun.long j (omega (arith, wide, lt));
    each = λ j w job' at_w at_job.
        (let low : j < length jobs = (let q = got_within jobs' j job' at_job in omega (arith, q, long)) in
        let old = some_at jobs j low in
        let one : ManagerWent old.0 job' =
        subst (λ (z : ManagerJob D G × ManagerJob D G). ManagerWent z.0 z.1) (λ i. (got_or jobs j old.0 job' old.1 i, got_or jobs' j job' job' at_job i)) (went.each j job' low) in
        let d : IsDealt first table bases j w old.0 = dealt.each j w old.0 at_w old.1 in
        record {
          own = one.own.table ∙ d.own;
          opened = one.own.opened ∙ d.opened;
          at = one.own.at ∙ d.at;
          stream = one.own.stream ∙ d.stream;
          ready = λ t. subst (λ (n : ℕ). IsReady (format_of first.load.mode) n j w (bases j)) (begun.count ∙ wide) ((begun.new j w at_w).ready t);
          manager = one.keeps (format_of first.load.mode) first.load.streams j (bases j) w d.manager;
        });
  }

  pub phase_back : (hears : Type 0) (held now now' : List ℕ) (faults faults' : ℕ) (h h' : PlainHead) (jobs jobs' : List (ManagerJob D G)) (clerk clerk' : ClerkJob) (short : Bool) → h.table_id ≡ table → h.me.0.opened ≡ Some first → AllAreBack first.load h h' short →
      ((w : ℕ) → w < first.load.workers → IsAtStart first.load h w) → AreDealt first table bases ws first.load.streams jobs → ManagersWent jobs jobs' → length jobs' ≡ length jobs →
      clerk.seat.table_id ≡ table → clerk.seat.me.0.opened ≡ Some first → Tells first.load clerk.seat clerk.told → ClerkWent first.load hears now now' faults faults' clerk clerk' → (hears → IsToldSoFar held clerk.told now) → clerk.told.sink_failed ≡ false →
      IsBack first table bases ws hears held now' (Rose faults faults') h' jobs' clerk' short
  phase_back hears held now now' faults faults' h h' jobs jobs' clerk clerk' short own opened back start dealt went long clerk_own clerk_opened tells told heard works = record {
    head = record { own = back.all.table ∙ own; opened = back.all.opened ∙ opened; workers = back.back };
    managers = managers_back jobs jobs' dealt went long;
    clerk = record { own = told.goes.same.table ∙ clerk_own; opened = told.goes.same.opened ∙ clerk_opened; clerk = told.clerk; tells = told.goes.tells tells };
    heard = λ t. told.heard t held (heard t);
    sink = λ e. elim (told.cause e) [ inl before ↦ absurd (let bad : false ≡ true = sym works ∙ before in cc) | inr rose ↦ rose ];
    run = λ e w low. back.ran e w low (start w low);
  }
