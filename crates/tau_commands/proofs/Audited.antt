-- What is said of an audit, from what its source and its disks gave.
use Rattle.std.proofs.Common.{ℕ, ◌+◌, ◌^◌, ◌<◌, ◌≤◌, ◌≡◌, inl, inr, true, false, List, [], ◌∷◌, length, drop, Option, refl, sym, subst, arith}
use Rattle.std.specs.Prelude.{Some, Ok, Err}
use Rattle.tau_base.specs.declared.limits.TheConstants.{MAX_STREAMS, MAX_WORKLOAD}
use Rattle.tau_disk.specs.declared.disk.Disk.{Ghosts}
use Rattle.tau_disk.specs.Disk.{Rose}
use Rattle.tau_disk.proofs.Calls.{untouched}
use Rattle.tau_model.specs.History.{Member}
use Rattle.tau_run.specs.RunFacts.{WroteFront}
use Rattle.tau_text.specs.declared.load.Workload.{Workload}
use Rattle.tau_report.specs.declared.report.RunReport.{RunReport}
use Rattle.tau_scan.specs.declared.fault.LogFault.{LogFault}
use Rattle.tau_words.specs.declared.command.Command.{Command}
use Rattle.tau_words.specs.declared.command.Command.TheVariants.{Audit}
use Rattle.tau_commands.specs.declared.status.Status.{Status}
use Rattle.tau_commands.specs.declared.status.Status.TheVariants as status
use Rattle.tau_commands.specs.Auditing.{AuditTells, EndsAuditing, EndsUnread, OfAudit}
use Rattle.tau_commands.specs.Cases.{GivesCase, ends_case}
use Rattle.tau_commands.specs.Ends.{OneLine, wrote}
use Rattle.tau_commands.specs.Fault.{fault_text, is_refusal, TellsFault}
use Rattle.tau_commands.specs.First.{TellsOfLog}
use Rattle.tau_commands.specs.Outside.{Input, Output, Wrote, ends_recovery, is_behind_text, is_behind_end, is_before_disks}
use Rattle.tau_commands.specs.Reads.{HasOnlyRead, HasReadSource}
use Rattle.tau_commands.specs.Recovery.{EndsAsBad, images_of}
use Rattle.tau_commands.specs.Sources.{HasReport, RefusesSource, is_of_source}
use Rattle.tau_commands.proofs.Ends.{nothing_told, no_source, other}
use Rattle.tau_commands.proofs.OneSource.{not_refused, one_refusal, same_loads, same_reports}

-- ---- the source was refused

module _ (s : Input) (n m : ℕ) where
  abbrev asked : Option Command
  asked = Some (Audit n m)

  abbrev Refused : Status → Type 0
  Refused a = GivesCase s n (Err a)

  no_answer : (a x : Status) → Refused a → (Refused x → ⊥) → a ≡ x → ⊥
  no_answer a x h none e = none (subst Refused e h)

  not_behind : (a : Status) → Refused a → is_behind_text a ≡ true → ⊥
  not_behind status.NoMemory h e = cc e
  not_behind status.ReadFault h e = cc e
  not_behind status.TooLong h e = cc e
  not_behind (status.BadText line why) h e = cc e
  not_behind (status.BadReport number) h e = cc e
  not_behind status.Ok h e = h
  not_behind status.Usage h e = h
  not_behind status.WriteFault h e = h
  not_behind (status.DiskFault j) h e = h
  not_behind (status.BadLog fault) h e = h
  not_behind (status.BadFeed at) h e = h

  ends_so : (a : Status) → Refused a → ends_case a ≡ true
  ends_so status.NoMemory h = refl
  ends_so status.ReadFault h = refl
  ends_so status.TooLong h = refl
  ends_so (status.BadText line why) h = refl
  ends_so (status.BadReport number) h = refl
  ends_so status.Ok h = absurd h
  ends_so status.Usage h = absurd h
  ends_so status.WriteFault h = absurd h
  ends_so (status.DiskFault j) h = absurd h
  ends_so (status.BadLog fault) h = absurd h
  ends_so (status.BadFeed at) h = absurd h

  refuses : (a : Status) → Refused a → is_of_source a ≡ true → s.tells → RefusesSource asked s.left a
  refuses status.TooLong h e t = h t
  refuses (status.BadText line why) h e t = (h t).0
  refuses (status.BadReport number) h e t = (h t).0
  refuses status.NoMemory h e t = absurd (cc e)
  refuses status.ReadFault h e t = absurd (cc e)
  refuses status.Ok h e t = absurd h
  refuses status.Usage h e t = absurd h
  refuses status.WriteFault h e t = absurd h
  refuses (status.DiskFault j) h e t = absurd h
  refuses (status.BadLog fault) h e t = absurd h
  refuses (status.BadFeed at) h e t = absurd h

  ended : (a : Status) → Refused a → s.tells → is_behind_end a ≡ true → s.left' ≡ []
  ended (status.BadText line why) h t e = (h t).1
  ended (status.BadReport number) h t e = (h t).1
  ended status.TooLong h t e = absurd (cc e)
  ended status.NoMemory h t e = absurd (cc e)
  ended status.ReadFault h t e = absurd (cc e)
  ended status.Ok h t e = absurd h
  ended status.Usage h t e = absurd h
  ended status.WriteFault h t e = absurd h
  ended (status.DiskFault j) h t e = absurd h
  ended (status.BadLog fault) h t e = absurd h
  ended (status.BadFeed at) h t e = absurd h

  told_so : (a : Status) → Refused a → s.tells → (refusal : Status) → RefusesSource asked s.left refusal → Member a (refusal ∷ status.ReadFault ∷ status.NoMemory ∷ [])
  told_so status.NoMemory h t refusal r = inr (inr (inl refl))
  told_so status.ReadFault h t refusal r = inr (inl refl)
  told_so status.TooLong h t refusal r = inl (one_refusal n m s.left refusal status.TooLong r (h t))
  told_so (status.BadText line why) h t refusal r = inl (one_refusal n m s.left refusal (status.BadText line why) r (h t).0)
  told_so (status.BadReport number) h t refusal r = inl (one_refusal n m s.left refusal (status.BadReport number) r (h t).0)
  told_so status.Ok h t refusal r = absurd h
  told_so status.Usage h t refusal r = absurd h
  told_so status.WriteFault h t refusal r = absurd h
  told_so (status.DiskFault j) h t refusal r = absurd h
  told_so (status.BadLog fault) h t refusal r = absurd h
  told_so (status.BadFeed at) h t refusal r = absurd h

  -- a source that has a report is not refused, unless memory ran out or it failed
  well : (a : Status) → Refused a → s.tells → (load : Workload) (report : RunReport) → HasReport n s.left load report → (s.rose → ⊥) → Member a (status.Ok ∷ status.NoMemory ∷ [])
  well status.NoMemory h t load report has calm = inr (inl refl)
  well status.ReadFault h t load report has calm = absurd (calm h)
  well status.TooLong h t load report has calm = absurd (not_refused n m s.left load report status.TooLong has (h t))
  well (status.BadText line why) h t load report has calm = absurd (not_refused n m s.left load report (status.BadText line why) has (h t).0)
  well (status.BadReport number) h t load report has calm = absurd (not_refused n m s.left load report (status.BadReport number) has (h t).0)
  well status.Ok h t load report has calm = absurd h
  well status.Usage h t load report has calm = absurd h
  well status.WriteFault h t load report has calm = absurd h
  well (status.DiskFault j) h t load report has calm = absurd h
  well (status.BadLog fault) h t load report has calm = absurd h
  well (status.BadFeed at) h t load report has calm = absurd h

  bad_end : (a : Status) → Refused a → is_before_disks a ≡ false → (fault : LogFault) → EndsAsBad fault a
  bad_end status.NoMemory h e fault = tt
  bad_end status.ReadFault h e fault = absurd (cc e)
  bad_end status.TooLong h e fault = absurd (cc e)
  bad_end (status.BadText line why) h e fault = absurd (cc e)
  bad_end (status.BadReport number) h e fault = absurd (cc e)
  bad_end status.Ok h e fault = absurd h
  bad_end status.Usage h e fault = absurd h
  bad_end status.WriteFault h e fault = absurd h
  bad_end (status.DiskFault j) h e fault = absurd h
  bad_end (status.BadLog other) h e fault = absurd h
  bad_end (status.BadFeed at) h e fault = absurd h

  untold : (load : Workload) (report : RunReport) (images : List (List ℕ)) (write : List ℕ → Type 0) (a : Status) → Refused a → AuditTells m load report images write a
  untold load report images write status.NoMemory h = tt
  untold load report images write status.ReadFault h = tt
  untold load report images write status.TooLong h = tt
  untold load report images write (status.BadText line why) h = tt
  untold load report images write (status.BadReport number) h = tt
  untold load report images write status.Ok h = absurd h
  untold load report images write status.Usage h = absurd h
  untold load report images write status.WriteFault h = absurd h
  untold load report images write (status.DiskFault j) h = absurd h
  untold load report images write (status.BadLog fault) h = absurd h
  untold load report images write (status.BadFeed at) h = absurd h

  module _ {D : Type 0} (G : Ghosts D) (o : Output) (left_so : s.tells → (k : ℕ) × (k ≤ MAX_WORKLOAD + 1) × (s.left' ≡ drop k s.left)) where
    -- what is said of an audit
    pub record IsTold (old new : List D) (a : Status) : Type 0 where
      pub source : HasReadSource s asked a
      pub ends : EndsAuditing G s o old new a n m
      pub of : OfAudit G s o old new a n m

    told_unread : (old : List D) (a : Status) → Refused a → (is_refusal a ≡ true → OneLine o a) → (a ≡ status.NoMemory → wrote o a []) → IsTold old old a
    told_unread old a h line silent = record {
      source = record {
        read_fault = λ e. subst Refused e h;
        bad_source = λ e. refuses a h e;
        bad_source_told = told_so a h;
        behind_text = λ e. absurd (not_behind a h e);
        source = left_so;
        source_end = λ t e. ended a h t e;
      };
      ends = inl (record { kind = ends_so a h; refusal = line; silent = silent; untouched = refl });
      of = record {
        audit = λ t tells load report has. untold load report (images_of G.seen old n) (Wrote o.hears o.held o.held') a h;
        bad_log = λ fault e. absurd (no_answer a (status.BadLog fault) h (λ x. x) e);
        bad_log_told = λ t tells load report fault has behind is. bad_end a h behind fault;
        done = λ t tells load report log has is rose sink disks. well a h t load report has rose;
      };
    }

    pub says_unread : (old : List D) (refusal a : Status) → Refused refusal → TellsFault (Wrote o.hears o.held o.held') (Rose o.faults o.faults') refusal a → IsTold old old a
    says_unread old refusal a h (inr told) = subst (λ (x : Status). IsTold old old x) (sym told.0) (told_unread old status.NoMemory tt (λ e. absurd (cc e)) (λ e. told.1))
    says_unread old refusal a h (inl told) =
        subst (λ (x : Status). IsTold old old x) (sym told.0)
        (told_unread old refusal h (λ e. told.1) (λ e. nothing_told (Wrote o.hears o.held o.held') (Rose o.faults o.faults') (subst (λ (x : Status). WroteFront (Wrote o.hears o.held o.held') (Rose o.faults o.faults') (fault_text x)) e told.1)))

    -- ---- the source was read

    module _ (few : n ≤ MAX_STREAMS) (load : Workload) (report : RunReport) (given : GivesCase s n (Ok (load, report))) where
      few_calls : length load.calls < 2 ^ 32
      few_calls = let count = given.0.0.calls.count in omega (arith, count)

      tells_same : (images : List (List ℕ)) (write : List ℕ → Type 0) (a : Status) (other : Workload) (told : RunReport) → s.tells → HasReport n s.left other told → AuditTells m load report images write a → AuditTells m other told images write a
      tells_same images write a other told t has h =
          let same : load ≡ other = same_loads n s.left load other report told (given.1 t).0 has in
          let here : HasReport n s.left load told = subst (λ (l : Workload). HasReport n s.left l told) (sym same) has in
          let one : report ≡ told = same_reports n s.left load report told few few_calls (given.1 t).0 here in
          subst (λ (l : Workload). AuditTells m l told images write a) same (subst (λ (r : RunReport). AuditTells m load r images write a) one h)

      pub says_read : (old new : List D) (a : Status) → HasOnlyRead G o old new a n → TellsOfLog (AuditTells m load report) G o old new a n → IsTold old new a
      says_read old new a h of = record {
        source = record {
          read_fault = λ e. absurd (other ends_recovery a status.ReadFault h.kind refl e);
          bad_source = λ e. absurd (no_source a h.kind e);
          bad_source_told = λ t refusal r. absurd (not_refused n m s.left load report refusal (given.1 t).0 r);
          behind_text = λ e t. (load, report, (given.1 t).0);
          source = left_so;
          source_end = λ t e. (given.1 t).1;
        };
        ends = inr ((λ t. (load, report, (given.1 t).0)), h);
        of = record {
          audit = λ t tells other told has. tells_same (images_of G.seen old n) (Wrote o.hears o.held o.held') a other told t has (of.tells tells);
          bad_log = of.bad_log;
          bad_log_told = λ t tells other told fault has behind is. of.bad_log_told tells fault is;
          done = λ t tells other told log has is rose sink disks. of.done tells log is sink disks;
        };
      }
