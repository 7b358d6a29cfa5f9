-- What is said of a call, from what is said of its command.
use Rattle.std.proofs.Common.{ℕ, Bool, true, false, ◌+◌, ◌≡◌, ◌<◌, ◌≤◌, ◌⊎◌, inl, inr, refl, sym, ap, ◌∙◌, subst, List, [], ◌∷◌, drop, length, arith}
use Rattle.std.specs.Prelude.{Option, Some, None, Result, Ok, Err, slice_get}
use Rattle.tau_base.proofs.Logic.{below_or_not}
use Rattle.tau_base.specs.declared.limits.TheConstants.{MAX_STREAMS, MAX_WORKLOAD}
use Rattle.tau_base.specs.declared.value.LogMode.{LogMode}
use Rattle.tau_disk.specs.declared.disk.Disk.{Ghosts}
use Rattle.tau_disk.specs.declared.memory.MemDisk.{MemDisk}
use Rattle.tau_disk.specs.Disk.{Rose}
use Rattle.tau_disk.specs.Used.{EachIn, EachUsed, OnlyRead, AllCalls, IsClean, RoseAt}
use Rattle.tau_disk.proofs.Calls.{untouched}
use Rattle.tau_disk.proofs.Places.{get_dropped}
use Rattle.tau_disk.proofs.Syncing.{only_none}
use Rattle.tau_model.specs.History.{Member}
use Rattle.tau_run.specs.RunFacts.{WroteFront}
use Rattle.tau_scan.specs.declared.fault.LogFault.{LogFault}
use Rattle.tau_scan.specs.Outside.{calls_to_read}
use Rattle.tau_text.specs.declared.fault.TextCause.{TextCause}
use Rattle.tau_text.specs.declared.fault.TextFault.{TextFault}
use Rattle.tau_text.specs.declared.load.Workload.{Workload}
use Rattle.tau_words.specs.declared.command.Command.{Command}
use Rattle.tau_words.specs.declared.command.Command.TheVariants.{Run, Recover, Drill, Bench, Checkpoint, Restore, Follow, Inspect, Audit}
use Rattle.tau_words.specs.declared.command.Ending.{Ending}
use Rattle.tau_commands.specs.declared.status.Status.{Status}
use Rattle.tau_commands.specs.declared.status.Status.TheVariants as status
use Rattle.tau_engine.specs.Bench.{BenchTells}
use Rattle.tau_engine.specs.Commands.{Of, OfRun, OfDrill, OfBench}
use Rattle.tau_commands.specs.Recovery.{OfRecover, EndsAsBad, EndsTangled}
use Rattle.tau_commands.specs.Ends.{OneLine, wrote}
use Rattle.tau_commands.specs.Fault.{fault_text, is_refusal, TellsFault}
use Rattle.tau_commands.specs.Following.{OfFollow, EndsFollowing, ends_following}
use Rattle.tau_commands.specs.Outside.{Input, Output, HasWorkload, HasFault, ends_drill, ends_recovery, ends_rehearsal, ends_text, is_behind_text, is_behind_end, is_behind_reading, is_before_disks}
use Rattle.tau_commands.specs.Reads.{HasOnlyRead, HasReadSource}
use Rattle.tau_engine.specs.RunSays.{MayEnd, RunSays}
use Rattle.tau_engine.specs.Runs.{choice_of}
use Rattle.tau_engine.specs.Kinds.{streams_of, uses_slots, reads_source, writes_at_end, only_reads}
use Rattle.tau_commands.specs.Sources.{HasSource, RefusesSource, is_of_source}
use Rattle.tau_engine.specs.Top.{Says, Untouched, Uses, Written, finds_log, is_told_late}
use Rattle.tau_commands.proofs.Ends.{no_refusal, rehearsal_recovers, rehearses_well, recovers_well, no_source, other}
use Rattle.tau_commands.proofs.Recoveries.{clean_of}
use Rattle.tau_commands.proofs.Refusals.{answers_as, told_refusal}
use Rattle.tau_engine.proofs.RunClauses as of
use Rattle.tau_engine.proofs.Streams.{OnlyNow}
use Rattle.tau_engine.proofs.RunClauses.{may_end, only_memory}
use Rattle.tau_engine.proofs.Tops.{ends_unread, not_both, runs_behind, same_load}

-- ---- answers

pub no_before : (a : Status) → ends_recovery a ≡ true → is_before_disks a ≡ true → ⊥
no_before status.Ok kind e = cc e
no_before status.NoMemory kind e = cc e
no_before status.WriteFault kind e = cc e
no_before (status.DiskFault j) kind e = cc e
no_before (status.BadLog fault) kind e = cc e
no_before status.Usage kind e = cc kind
no_before (status.BadText at why) kind e = cc kind
no_before status.ReadFault kind e = cc kind
no_before status.TooLong kind e = cc kind
no_before (status.BadFeed at) kind e = cc kind
no_before (status.BadReport number) kind e = cc kind

-- ---- commands

-- a command that reads no source refuses none
pub refuses_none : (c : Option Command) (text : List ℕ) (refusal : Status) → reads_source c ≡ false → RefusesSource c text refusal → ⊥
refuses_none None text refusal e r = r
refuses_none (Some (Run n m mode optimistic)) text refusal e r = cc e
refuses_none (Some (Recover n p)) text refusal e r = r
refuses_none (Some (Drill n m p ending)) text refusal e r = cc e
refuses_none (Some (Bench start calls n m)) text refusal e r = r
refuses_none (Some (Checkpoint n p)) text refusal e r = r
refuses_none (Some (Restore n p)) text refusal e r = r
refuses_none (Some (Follow n)) text refusal e r = cc e
refuses_none (Some (Inspect n)) text refusal e r = r
refuses_none (Some (Audit n m)) text refusal e r = cc e

pub some_command : (c : Option Command) → finds_log c ≡ true → c ≡ None → ⊥
some_command c finds e = (let f : true ≡ false = sym finds ∙ ap finds_log e in cc f)

no_use : (c : Option Command) → streams_of c ≡ 0 → uses_slots c ≡ false → (j : ℕ) → Uses c j → ⊥
no_use c few slots j (inl lt) = let l : j < 0 = subst (λ (k : ℕ). j < k) few lt in omega (arith, l)
no_use c few slots j (inr p) = let f : false ≡ true = sym slots ∙ p.0 in cc f

low_use : (c : Option Command) (n : ℕ) → streams_of c ≡ n → uses_slots c ≡ false → (j : ℕ) → Uses c j → j < n
low_use c n is slots j (inl lt) = subst (λ (k : ℕ). j < k) is lt
low_use c n is slots j (inr p) = absurd (let f : false ≡ true = sym slots ∙ p.0 in cc f)

module _ {D : Type 0} (R : D → D → Type 0) (old new : List D) (c : Option Command) (n : ℕ) (is : streams_of c ≡ n) (slots : uses_slots c ≡ false) where
  pub in_use : EachUsed R old new n → EachIn (Uses c) (λ j. R) old new
  in_use each j d used was = each j d (low_use c n is slots j used) was

module _ {D : Type 0} (old new : List D) (c : Option Command) (n : ℕ) (is : streams_of c ≡ n) where
  pub kept : drop n new ≡ drop n old → (j : ℕ) → (Uses c j → ⊥) → slice_get new j ≡ slice_get old j
  kept rest j out = elim (below_or_not j n) [
    | inl lt ↦ absurd (out (inl (subst (λ (k : ℕ). j < k) (sym is) lt)))
    | inr ge ↦ get_dropped new old n j rest (omega (arith, ge))
  ]

module _ {D : Type 0} (G : Ghosts D) (M : Ghosts MemDisk) (s : Input) (o : Output) where
  -- no disk is used
  alone : (old : List D) (c : Option Command) (a : Status) → ((j : ℕ) → Uses c j → ⊥) → Untouched G M s o old old c a
  alone old c a none = record {
    rest = λ j out. refl;
    before = λ e. refl;
    bad_source = λ t refusal r. refl;
    read = λ e j d used was. absurd (none j used);
    calls = λ e behind j d used was. absurd (none j used);
  }

  -- ---- nothing was done

  of_nothing : OnlyNow G → (old : List D) (c : Option Command) → wrote o status.NoMemory [] → Of G M s o old old status.NoMemory c
  of_nothing only_now old None silent = tt
  of_nothing only_now old (Some (Run n m mode optimistic)) silent = record {
    run = λ t load has behind. of.untouched G only_now (choice_of n m mode optimistic) load old o status.NoMemory refl (λ e. silent);
    bad_log = λ fault e. absurd (cc e);
    unfit_told = λ t tells load fault has behind unfit. tt;
    stuck_told = λ t tells load log has behind reads fits none. tt;
    refused = λ fault e. absurd (cc e);
    refused_calls = λ fault e. absurd (cc e);
    opening_fault = λ j e. absurd (cc e);
    write_fault_late = λ e. absurd (cc e);
    moments = λ unborn j d lt was. (d, was, λ t. omega arith);
    done = λ t tells load log order has reads is fits source rose. inr (inl refl);
  }
  of_nothing only_now old (Some (Recover n p)) silent = record { recover = λ t. silent; bad_log = λ fault e. absurd (cc e); bad_log_told = λ t fault is. tt; tangled_told = λ t log is none. tt; done = λ t log order is ordered rose. inr (inl refl) }
  of_nothing only_now old (Some (Drill n m p ending)) silent = record { drill = λ t load has. silent; done = λ t load has source sink. inr (inl refl) }
  of_nothing only_now old (Some (Bench start calls n m)) silent = record { bench = silent; done = λ sink. inr (inl refl) }
  of_nothing only_now old (Some (Checkpoint n p)) silent = record {
    touched = inl (λ j d used was. (d, was, only_none G d));
    written = λ e. absurd (cc e);
    bad_log = λ fault e. absurd (cc e);
    refused = λ fault e. absurd (cc e);
    refused_calls = λ fault e. absurd (cc e);
    bad_log_told = λ t fault is. tt;
    last_told = λ t log held fault reads holds last. tt;
    tangled_told = λ t log held next reads holds free none. tt;
    done = λ t log held next order reads holds free is sink disks. inr (inl refl);
  }
  of_nothing only_now old (Some (Restore n p)) silent = record { restore = λ t. silent; bad_log = λ fault e. absurd (cc e); bad_log_told = λ t fault is. tt; tangled_told = λ t log held reads holds none. tt; done = λ t log held order reads holds is sink disks. inr (inl refl) }
  of_nothing only_now old (Some (Follow n)) silent = record { follow = λ t pieces has. tt; bad_told = λ t pieces fault lines has bad. inr (inr (inl refl)); done = λ t pieces text has is source sink. inr (inl refl) }
  of_nothing only_now old (Some (Inspect n)) silent = record { inspect = λ t. tt; bad_log = λ fault e. absurd (cc e); bad_log_told = λ t fault is. tt; done = λ t log is sink disks. inr (inl refl) }
  of_nothing only_now old (Some (Audit n m)) silent = record { audit = λ t tells load report has. tt; bad_log = λ fault e. absurd (cc e); bad_log_told = λ t tells load report fault has behind is. tt; done = λ t tells load report log has is source sink disks. inr (inl refl) }

  -- memory ran out before anything was done
  pub nothing_done : OnlyNow G → (old : List D) (c : Option Command) → s.left' ≡ s.left → wrote o status.NoMemory [] → Says G M s o old old c status.NoMemory
  nothing_done only_now old c same silent = record {
    causes = record {
      usage = λ e. absurd (cc e);
      usage_told = λ e. inr (inl refl);
      read_fault = λ e. absurd (cc e);
      bad_source = λ e. absurd (cc e);
      bad_source_told = λ t refusal r. inr (inr (inl refl));
      behind_text = λ e. absurd (cc e);
      disk_fault = λ j e. absurd (cc e);
      disk_fault_first = λ j e. absurd (cc e);
      disk_fault_told = λ e. absurd (cc e);
      bad_log = λ fault e. absurd (cc e);
      write_fault = λ e. absurd (cc e);
    };
    written = record {
      source = λ t. (0, omega arith, same);
      source_end = λ t e. absurd (cc e);
      source_unread = λ t e. same;
      refusal = λ e. absurd (cc e);
      disk_line = λ j e. absurd (cc e);
      silent = λ e late. silent;
      silent_text = λ e reads t none. silent;
    };
    untouched = record {
      rest = λ j out. refl;
      before = λ e. refl;
      bad_source = λ t refusal r. refl;
      read = λ e j d used was. (d, was, untouched G d);
      calls = λ e behind. absurd (cc behind);
    };
    of = of_nothing only_now old c silent;
  }

  -- ---- the words are no command

  usage_told : (old : List D) → s.left' ≡ s.left → OneLine o status.Usage → Says G M s o old old None status.Usage
  usage_told old same line = record {
    causes = record {
      usage = λ e. refl;
      usage_told = λ e. inl refl;
      read_fault = λ e. absurd (cc e);
      bad_source = λ e. absurd (cc e);
      bad_source_told = λ t refusal r. absurd r;
      behind_text = λ e. absurd (cc e);
      disk_fault = λ j e. absurd (cc e);
      disk_fault_first = λ j e. absurd (cc e);
      disk_fault_told = λ e. absurd (cc e);
      bad_log = λ fault e. absurd (cc e);
      write_fault = λ e. absurd (cc e);
    };
    written = record {
      source = λ t. (0, omega arith, same);
      source_end = λ t e. absurd (cc e);
      source_unread = λ t e. same;
      refusal = λ e late. line;
      disk_line = λ j e. absurd (cc e);
      silent = λ e. absurd (cc e);
      silent_text = λ e. absurd (cc e);
    };
    untouched = alone old None status.Usage (no_use None refl refl);
    of = tt;
  }

  pub says_usage : OnlyNow G → (old : List D) (a : Status) → s.left' ≡ s.left → TellsFault (wrote o a) (Rose o.faults o.faults') status.Usage a → Says G M s o old old None a
  says_usage only_now old a same (inl told) = subst (λ (x : Status). Says G M s o old old None x) (sym told.0) (usage_told old same told.1)
  says_usage only_now old a same (inr told) = subst (λ (x : Status). Says G M s o old old None x) (sym told.0) (nothing_done only_now old None same told.1)

  -- ---- a command that only reads disks

  pub says_reading : (old new : List D) (c : Option Command) (a : Status) (n : ℕ) → streams_of c ≡ n → uses_slots c ≡ false → reads_source c ≡ false → finds_log c ≡ true → s.left' ≡ s.left →
      HasOnlyRead G o old new a n → Of G M s o old new a c → Says G M s o old new c a
  says_reading old new c a n is slots unread finds same h says = record {
    causes = record {
      usage = λ e. absurd (other ends_recovery a status.Usage h.kind refl e);
      usage_told = λ e. absurd (some_command c finds e);
      read_fault = λ e. absurd (other ends_recovery a status.ReadFault h.kind refl e);
      bad_source = λ e. absurd (no_source a h.kind e);
      bad_source_told = λ t refusal r. absurd (refuses_none c s.left refusal unread r);
      behind_text = λ e reads. absurd (let f : true ≡ false = sym reads ∙ unread in cc f);
      disk_fault = λ j e. (let at = h.disk j e in (inl (subst (λ (k : ℕ). j < k) (sym is) at.0), at.1));
      disk_fault_first = h.stopped;
      disk_fault_told = λ e. in_use (IsClean G.tells G.number G.fails) old new c n is slots (clean_of G.tells G.number G.fails G.short calls_to_read old new n (h.calls (ap is_behind_reading e)));
      bad_log = λ fault e. finds;
      write_fault = h.sink;
    };
    written = record {
      source = λ t. (0, omega arith, same);
      source_end = λ t behind reads. absurd (let f : true ≡ false = sym reads ∙ unread in cc f);
      source_unread = λ t e. same;
      refusal = λ e late. h.refusal e;
      disk_line = λ j e late. h.disk_line j e;
      silent = λ e late. h.silent e;
      silent_text = λ e reads. absurd (let f : true ≡ false = sym reads ∙ unread in cc f);
    };
    untouched = record {
      rest = kept old new c n is h.rest;
      before = λ e. absurd (no_before a h.kind e);
      bad_source = λ t refusal r. absurd (refuses_none c s.left refusal unread r);
      read = λ e. in_use (OnlyRead G.tells G.seen G.may_leave G.moment G.may_leave_since) old new c n is slots h.read;
      calls = λ e behind. in_use (AllCalls G.tells G.number G.fails G.short calls_to_read) old new c n is slots (h.calls behind);
    };
    of = says;
  }

  -- ---- a command that uses no disk

  -- it reads its source
  pub says_fed : (old : List D) (c : Option Command) (a : Status) → streams_of c ≡ 0 → uses_slots c ≡ false → reads_source c ≡ true → (c ≡ None → ⊥) → ((fault : LogFault) → a ≡ status.BadLog fault → finds_log c ≡ true) →
      HasReadSource s c a → (a ≡ status.Usage → ⊥) → ((j : ℕ) → a ≡ status.DiskFault j → ⊥) → (a ≡ status.WriteFault → Rose o.faults o.faults') → Written G M s o old old c a → Of G M s o old old a c → Says G M s o old old c a
  says_fed old c a few slots reads some finds h usage disk sink written says = record {
    causes = record {
      usage = λ e. absurd (usage e);
      usage_told = λ e. absurd (some e);
      read_fault = λ e. (reads, h.read_fault e);
      bad_source = λ e. (reads, h.bad_source e);
      bad_source_told = h.bad_source_told;
      behind_text = λ e r t. h.behind_text e t;
      disk_fault = λ j e. absurd (disk j e);
      disk_fault_first = λ j e. absurd (disk j e);
      disk_fault_told = λ e j d used was. absurd (no_use c few slots j used);
      bad_log = finds;
      write_fault = sink;
    };
    written = written;
    untouched = alone old c a (no_use c few slots);
    of = says;
  }

  refusal_before : (n : ℕ) (a : Status) → ends_following a ≡ true → is_refusal a ≡ true → is_told_late (Some (Follow n)) a ≡ false → is_before_disks a ≡ true
  refusal_before n status.Ok kind e late = cc e
  refusal_before n status.NoMemory kind e late = cc e
  refusal_before n status.WriteFault kind e late = cc e
  refusal_before n (status.DiskFault j) kind e late = cc e
  refusal_before n (status.BadLog fault) kind e late = cc late
  refusal_before n status.Usage kind e late = refl
  refusal_before n (status.BadText at why) kind e late = refl
  refusal_before n status.ReadFault kind e late = refl
  refusal_before n status.TooLong kind e late = refl
  refusal_before n (status.BadFeed at) kind e late = refl
  refusal_before n (status.BadReport number) kind e late = refl

  pub says_follow : (old : List D) (n : ℕ) (a : Status) → HasReadSource s (Some (Follow n)) a → EndsFollowing o a → OfFollow s o a n → Says G M s o old old (Some (Follow n)) a
  says_follow old n a h ends says = says_fed old (Some (Follow n)) a refl refl refl (λ e. cc e) (λ fault e. refl) h
      (λ e. other ends_following a status.Usage ends.kind refl e) (λ j e. other ends_following a (status.DiskFault j) ends.kind refl e) ends.sink
      (record {
        source = h.source;
        source_end = λ t behind reads. h.source_end t behind;
        source_unread = λ t e. absurd (cc e);
        refusal = λ e late. ends.refusal (refusal_before n a ends.kind e late);
        disk_line = λ j e. absurd (other ends_following a (status.DiskFault j) ends.kind refl e);
        silent = λ e late. ends.silent e;
        silent_text = λ e reads t none. ends.silent e;
      })
      says

  -- ---- the measured job

  pub says_bench : (old : List D) (start calls n m : ℕ) (a : Status) → s.left' ≡ s.left → ends_rehearsal a ≡ true → (a ≡ status.WriteFault → Rose o.faults o.faults') → BenchTells start calls (wrote o a) a → Says G M s o old old (Some (Bench start calls n m)) a
  says_bench old start calls n m a same kind sink told = record {
    causes = record {
      usage = λ e. absurd (other ends_rehearsal a status.Usage kind refl e);
      usage_told = λ e. absurd (cc e);
      read_fault = λ e. absurd (other ends_rehearsal a status.ReadFault kind refl e);
      bad_source = λ e. absurd (no_source a (rehearsal_recovers a kind) e);
      bad_source_told = λ t refusal r. absurd r;
      behind_text = λ e reads. absurd (cc reads);
      disk_fault = λ j e. absurd (other ends_rehearsal a (status.DiskFault j) kind refl e);
      disk_fault_first = λ j e. absurd (other ends_rehearsal a (status.DiskFault j) kind refl e);
      disk_fault_told = λ e j d used was. absurd (no_use (Some (Bench start calls n m)) refl refl j used);
      bad_log = λ fault e. absurd (other ends_rehearsal a (status.BadLog fault) kind refl e);
      write_fault = sink;
    };
    written = record {
      source = λ t. (0, omega arith, same);
      source_end = λ t behind reads. absurd (cc reads);
      source_unread = λ t e. same;
      refusal = λ e late. absurd (no_refusal a kind e);
      disk_line = λ j e. absurd (other ends_rehearsal a (status.DiskFault j) kind refl e);
      silent = λ e late. silent e;
      silent_text = λ e reads. absurd (cc reads);
    };
    untouched = alone old (Some (Bench start calls n m)) a (no_use (Some (Bench start calls n m)) refl refl);
    of = record { bench = told; done = λ no_sink. rehearses_well a kind (λ e. no_sink (sink e)) };
  }
    where
      silent : a ≡ status.NoMemory → wrote o a []
      silent e = subst (λ (x : Status). BenchTells start calls (wrote o a) x) e told

  -- ---- a drill

  module _ (n m p : ℕ) (ending : Ending) (a : Status) (kind : ends_drill a ≡ true) where
    abbrev drill : Option Command
    drill = Some (Drill n m p ending)

    drill_refused : (b : Status) → ends_drill b ≡ true → (b ≡ status.TooLong → MAX_WORKLOAD < length s.left) → ((at : ℕ) (why : TextCause) → b ≡ status.BadText at why → HasFault s.left (record { line = at; cause = why })) → is_of_source b ≡ true →
        RefusesSource drill s.left b
    drill_refused (status.BadText at why) k long bad e = bad at why refl
    drill_refused status.TooLong k long bad e = long refl
    drill_refused status.Ok k long bad e = cc e
    drill_refused status.NoMemory k long bad e = cc e
    drill_refused status.WriteFault k long bad e = cc e
    drill_refused (status.DiskFault j) k long bad e = cc e
    drill_refused (status.BadLog fault) k long bad e = cc e
    drill_refused status.Usage k long bad e = cc e
    drill_refused status.ReadFault k long bad e = cc e
    drill_refused (status.BadFeed at) k long bad e = cc k
    drill_refused (status.BadReport number) k long bad e = cc k

    drill_told : (MAX_WORKLOAD < length s.left → Member a (status.TooLong ∷ status.ReadFault ∷ status.NoMemory ∷ [])) → ((fault : TextFault) → HasFault s.left fault → Member a (status.BadText fault.line fault.cause ∷ status.ReadFault ∷ status.NoMemory ∷ [])) →
        (refusal : Status) → RefusesSource drill s.left refusal → Member a (refusal ∷ status.ReadFault ∷ status.NoMemory ∷ [])
    drill_told long bad (status.BadText at why) r = bad (record { line = at; cause = why }) r
    drill_told long bad status.TooLong r = long r
    drill_told long bad status.Ok r = absurd r
    drill_told long bad status.NoMemory r = absurd r
    drill_told long bad status.WriteFault r = absurd r
    drill_told long bad (status.DiskFault j) r = absurd r
    drill_told long bad (status.BadLog fault) r = absurd r
    drill_told long bad status.Usage r = absurd r
    drill_told long bad status.ReadFault r = absurd r
    drill_told long bad (status.BadFeed at) r = absurd r
    drill_told long bad (status.BadReport number) r = absurd r

    pub says_drill : (old : List D) → HasReadSource s drill a → (a ≡ status.WriteFault → Rose o.faults o.faults') → (is_refusal a ≡ true → OneLine o a) → (a ≡ status.NoMemory → wrote o a []) → OfDrill G M s o old old a n m ending → Says G M s o old old drill a
    says_drill old h sink line silent says = says_fed old drill a refl refl refl (λ e. cc e) (λ fault e. absurd (other ends_drill a (status.BadLog fault) kind refl e)) h
        (λ e. other ends_drill a status.Usage kind refl e) (λ j e. other ends_drill a (status.DiskFault j) kind refl e) sink
        (record {
          source = h.source;
          source_end = λ t behind reads. h.source_end t behind;
          source_unread = λ t e. absurd (cc e);
          refusal = λ e late. line e;
          disk_line = λ j e. absurd (other ends_drill a (status.DiskFault j) kind refl e);
          silent = λ e late. silent e;
          silent_text = λ e reads t none. silent e;
        })
        says

    pub read_for_drill : (a ≡ status.ReadFault → s.rose) → (a ≡ status.TooLong → s.tells → MAX_WORKLOAD < length s.left) → (s.tells → MAX_WORKLOAD < length s.left → Member a (status.TooLong ∷ status.ReadFault ∷ status.NoMemory ∷ [])) →
        ((at : ℕ) (why : TextCause) → a ≡ status.BadText at why → s.tells → HasFault s.left (record { line = at; cause = why })) → (s.tells → (fault : TextFault) → HasFault s.left fault → Member a (status.BadText fault.line fault.cause ∷ status.ReadFault ∷ status.NoMemory ∷ [])) →
        (is_behind_text a ≡ true → s.tells → (load : Workload) × HasWorkload s.left load) → (s.tells → (k : ℕ) × (k ≤ MAX_WORKLOAD + 1) × (s.left' ≡ drop k s.left)) → (s.tells → is_behind_end a ≡ true → s.left' ≡ []) → HasReadSource s drill a
    read_for_drill rose long long_told bad bad_told behind source end = record {
      read_fault = rose;
      bad_source = λ e t. drill_refused a kind (λ f. long f t) (λ at why f. bad at why f t) e;
      bad_source_told = λ t. drill_told (long_told t) (bad_told t);
      behind_text = behind;
      source = source;
      source_end = end;
    }

  -- ---- a run

  module _ (n m : ℕ) (mode : LogMode) (optimistic : Bool) where
    abbrev run : Option Command
    run = Some (Run n m mode optimistic)

    -- a text of a workload is not refused
    fits_source : (load : Workload) → HasWorkload s.left load → (refusal : Status) → RefusesSource run s.left refusal → ⊥
    fits_source load has (status.BadText at why) r = not_both s.left load (record { line = at; cause = why }) has r
    fits_source load has status.TooLong r = let short = has.0 in omega (arith, short, r)
    fits_source load has status.Ok r = r
    fits_source load has status.NoMemory r = r
    fits_source load has status.WriteFault r = r
    fits_source load has (status.DiskFault j) r = r
    fits_source load has (status.BadLog fault) r = r
    fits_source load has status.Usage r = r
    fits_source load has status.ReadFault r = r
    fits_source load has (status.BadFeed at) r = r
    fits_source load has (status.BadReport number) r = r

    -- the source was no workload, and so no disk was asked
    module _ (refusal : Status) (kind : ends_text refusal ≡ true) (rose : refusal ≡ status.ReadFault → s.rose) (long : refusal ≡ status.TooLong → s.tells → MAX_WORKLOAD < length s.left)
        (bad : (at : ℕ) (why : TextCause) → refusal ≡ status.BadText at why → s.tells → HasFault s.left (record { line = at; cause = why })) where
      refuses : s.tells → (b : Status) → refusal ≡ b → is_of_source b ≡ true → RefusesSource run s.left b
      refuses t (status.BadText at why) is e = bad at why is t
      refuses t status.TooLong is e = long is t
      refuses t status.Ok is e = cc e
      refuses t status.NoMemory is e = cc e
      refuses t status.WriteFault is e = cc e
      refuses t (status.DiskFault j) is e = cc e
      refuses t (status.BadLog fault) is e = cc e
      refuses t status.Usage is e = cc e
      refuses t status.ReadFault is e = cc e
      refuses t (status.BadFeed at) is e = absurd (other ends_text refusal (status.BadFeed at) kind refl is)
      refuses t (status.BadReport number) is e = absurd (other ends_text refusal (status.BadReport number) kind refl is)

      same_bad : (at at' : ℕ) (why why' : TextCause) → HasFault s.left (record { line = at; cause = why }) → HasFault s.left (record { line = at'; cause = why' }) → status.BadText at why ≡ status.BadText at' why'
      same_bad at at' why why' one two = of_same (record { line = at; cause = why }) (record { line = at'; cause = why' }) (err_is (record { line = at; cause = why }) (record { line = at'; cause = why' }) (sym one.1 ∙ two.1))
        where
          err_is : (x y : TextFault) → ◌≡◌ {A = Result Workload TextFault} (Err x) (Err y) → x ≡ y
          err_is x y e = cc

          of_same : (x y : TextFault) → x ≡ y → status.BadText x.line x.cause ≡ status.BadText y.line y.cause
          of_same x y e = ap (λ (z : TextFault). status.BadText z.line z.cause) e

      -- whatever is told of the text, it is this refusal, or the source or memory failed
      told : s.tells → (b x : Status) → refusal ≡ b → RefusesSource run s.left x → Member b (x ∷ status.ReadFault ∷ status.NoMemory ∷ [])
      told t status.NoMemory x is r = inr (inr (inl refl))
      told t status.ReadFault x is r = inr (inl refl)
      told t status.TooLong x is r = too_long x r
        where
          too_long : (x : Status) → RefusesSource run s.left x → Member status.TooLong (x ∷ status.ReadFault ∷ status.NoMemory ∷ [])
          too_long status.TooLong r = inl refl
          too_long (status.BadText at why) r = absurd (let over = long is t in let under = r.0 in omega (arith, over, under))
          too_long status.Ok r = absurd r
          too_long status.NoMemory r = absurd r
          too_long status.WriteFault r = absurd r
          too_long (status.DiskFault j) r = absurd r
          too_long (status.BadLog fault) r = absurd r
          too_long status.Usage r = absurd r
          too_long status.ReadFault r = absurd r
          too_long (status.BadFeed at) r = absurd r
          too_long (status.BadReport number) r = absurd r
      told t (status.BadText at why) x is r = bad_text x r
        where
          bad_text : (x : Status) → RefusesSource run s.left x → Member (status.BadText at why) (x ∷ status.ReadFault ∷ status.NoMemory ∷ [])
          bad_text status.TooLong r = absurd (let under = (bad at why is t).0 in omega (arith, r, under))
          bad_text (status.BadText at' why') r = inl (sym (same_bad at at' why why' (bad at why is t) r))
          bad_text status.Ok r = absurd r
          bad_text status.NoMemory r = absurd r
          bad_text status.WriteFault r = absurd r
          bad_text (status.DiskFault j) r = absurd r
          bad_text (status.BadLog fault) r = absurd r
          bad_text status.Usage r = absurd r
          bad_text status.ReadFault r = absurd r
          bad_text (status.BadFeed at') r = absurd r
          bad_text (status.BadReport number) r = absurd r
      told t status.Ok x is r = absurd (other ends_text refusal status.Ok kind refl is)
      told t status.WriteFault x is r = absurd (other ends_text refusal status.WriteFault kind refl is)
      told t (status.DiskFault j) x is r = absurd (other ends_text refusal (status.DiskFault j) kind refl is)
      told t (status.BadLog fault) x is r = absurd (other ends_text refusal (status.BadLog fault) kind refl is)
      told t status.Usage x is r = absurd (other ends_text refusal status.Usage kind refl is)
      told t (status.BadFeed at) x is r = absurd (other ends_text refusal (status.BadFeed at) kind refl is)
      told t (status.BadReport number) x is r = absurd (other ends_text refusal (status.BadReport number) kind refl is)

      -- of a workload there is only lack of memory
      only_short : (load : Workload) → HasWorkload s.left load → s.tells → (s.rose → ⊥) → (b : Status) → refusal ≡ b → b ≡ status.NoMemory
      only_short load has t none status.NoMemory is = refl
      only_short load has t none status.ReadFault is = absurd (none (rose is))
      only_short load has t none status.TooLong is = absurd (fits_source load has status.TooLong (long is t))
      only_short load has t none (status.BadText at why) is = absurd (fits_source load has (status.BadText at why) (bad at why is t))
      only_short load has t none status.Ok is = absurd (other ends_text refusal status.Ok kind refl is)
      only_short load has t none status.WriteFault is = absurd (other ends_text refusal status.WriteFault kind refl is)
      only_short load has t none (status.DiskFault j) is = absurd (other ends_text refusal (status.DiskFault j) kind refl is)
      only_short load has t none (status.BadLog fault) is = absurd (other ends_text refusal (status.BadLog fault) kind refl is)
      only_short load has t none status.Usage is = absurd (other ends_text refusal status.Usage kind refl is)
      only_short load has t none (status.BadFeed at) is = absurd (other ends_text refusal (status.BadFeed at) kind refl is)
      only_short load has t none (status.BadReport number) is = absurd (other ends_text refusal (status.BadReport number) kind refl is)

      behind_no_text : (b : Status) → ends_text b ≡ true → is_behind_text b ≡ true → ⊥
      behind_no_text status.Ok k e = cc k
      behind_no_text status.WriteFault k e = cc k
      behind_no_text (status.DiskFault j) k e = cc k
      behind_no_text (status.BadLog fault) k e = cc k
      behind_no_text status.NoMemory k e = cc e
      behind_no_text status.Usage k e = cc e
      behind_no_text (status.BadText at why) k e = cc e
      behind_no_text status.ReadFault k e = cc e
      behind_no_text status.TooLong k e = cc e
      behind_no_text (status.BadFeed at) k e = cc e
      behind_no_text (status.BadReport number) k e = cc e

      end_is_bad : (b : Status) → ends_text b ≡ true → is_behind_end b ≡ true → (at : ℕ) × (why : TextCause) × (b ≡ status.BadText at why)
      end_is_bad (status.BadText at why) k e = (at, why, refl)
      end_is_bad status.Ok k e = absurd (cc k)
      end_is_bad status.WriteFault k e = absurd (cc k)
      end_is_bad (status.DiskFault j) k e = absurd (cc k)
      end_is_bad (status.BadLog fault) k e = absurd (cc k)
      end_is_bad status.NoMemory k e = absurd (cc e)
      end_is_bad status.Usage k e = absurd (cc e)
      end_is_bad status.ReadFault k e = absurd (cc e)
      end_is_bad status.TooLong k e = absurd (cc e)
      end_is_bad (status.BadFeed at) k e = absurd (cc k)
      end_is_bad (status.BadReport number) k e = absurd (cc k)

      read_of_run : (a : Status) → TellsFault (wrote o a) (Rose o.faults o.faults') refusal a → ends_text a ≡ true → (s.tells → (k : ℕ) × (k ≤ MAX_WORKLOAD + 1) × (s.left' ≡ drop k s.left)) →
          ((at : ℕ) (why : TextCause) → refusal ≡ status.BadText at why → s.tells → s.left' ≡ []) → HasReadSource s run a
      read_of_run a tells ends source end = record {
        read_fault = λ e. rose (answers_as (wrote o a) (Rose o.faults o.faults') refusal a status.ReadFault tells e (λ f. cc f));
        bad_source = λ e t. elim tells [
          | inl is ↦ refuses t a (sym is.0) e
          | inr none ↦ absurd (let f : is_of_source status.NoMemory ≡ true = subst (λ (x : Status). is_of_source x ≡ true) none.0 e in cc f)
        ];
        bad_source_told = λ t x r. elim tells [
          | inl is ↦ told t a x (sym is.0) r
          | inr none ↦ inr (inr (inl (sym none.0)))
        ];
        behind_text = λ e t. absurd (behind_no_text a ends e);
        source = source;
        source_end = λ t e. (let at = end_is_bad a ends e in end at.0 at.1 (answers_as (wrote o a) (Rose o.faults o.faults') refusal a (status.BadText at.0 at.1) tells at.2 (λ f. cc f)) t);
      }

      pub says_unread : OnlyNow G → (old : List D) (a : Status) → TellsFault (wrote o a) (Rose o.faults o.faults') refusal a → (s.tells → (k : ℕ) × (k ≤ MAX_WORKLOAD + 1) × (s.left' ≡ drop k s.left)) →
          ((at : ℕ) (why : TextCause) → refusal ≡ status.BadText at why → s.tells → s.left' ≡ []) → Says G M s o old old run a
      says_unread only_now old a tells source end =
          let ended = ends_unread (wrote o a) (Rose o.faults o.faults') refusal a kind tells in
          let h = read_of_run a tells ended.0 source end in record {
            causes = record {
              usage = λ e. absurd (other ends_text a status.Usage ended.0 refl e);
              usage_told = λ e. absurd (cc e);
              read_fault = λ e. (refl, h.read_fault e);
              bad_source = λ e. (refl, h.bad_source e);
              bad_source_told = h.bad_source_told;
              behind_text = λ e r t. h.behind_text e t;
              disk_fault = λ j e. absurd (other ends_text a (status.DiskFault j) ended.0 refl e);
              disk_fault_first = λ j e. absurd (other ends_text a (status.DiskFault j) ended.0 refl e);
              disk_fault_told = λ e. absurd (other ends_text a status.Ok ended.0 refl e);
              bad_log = λ fault e. refl;
              write_fault = λ e. absurd (other ends_text a status.WriteFault ended.0 refl e);
            };
            written = record {
              source = source;
              source_end = λ t behind reads. h.source_end t behind;
              source_unread = λ t e. absurd (cc e);
              refusal = λ e late. told_refusal (wrote o a) (Rose o.faults o.faults') refusal a tells e;
              disk_line = λ j e. absurd (other ends_text a (status.DiskFault j) ended.0 refl e);
              silent = λ e late. absurd (cc late);
              silent_text = λ e reads t none. ended.1 e;
            };
            untouched = record {
              rest = λ j out. refl;
              before = λ e. refl;
              bad_source = λ t x r. refl;
              read = λ e. absurd (cc e);
              calls = λ e. absurd (cc e);
            };
            of = record {
              run = λ t load has behind. of.untouched G only_now (choice_of n m mode optimistic) load old o a (only_memory a ended.0 behind) ended.1;
              bad_log = λ fault e. absurd (other ends_text a (status.BadLog fault) ended.0 refl e);
              unfit_told = λ t tells' load fault has behind unfit. subst (λ (x : Status). EndsAsBad fault x) (sym (only_memory a ended.0 behind)) tt;
              stuck_told = λ t tells' load log has behind reads fits none. subst (λ (x : Status). EndsTangled log x) (sym (only_memory a ended.0 behind)) tt;
              refused = λ fault e. absurd (other ends_text a (status.BadLog fault) ended.0 refl e);
              refused_calls = λ fault e. absurd (other ends_text a (status.BadLog fault) ended.0 refl e);
              opening_fault = λ j e. absurd (other ends_text a (status.DiskFault j) ended.0 refl e);
              write_fault_late = λ e. absurd (other ends_text a status.WriteFault ended.0 refl e);
              moments = λ unborn j d lt was. (d, was, λ t. omega arith);
              done = λ t tells' load log order has reads is fits none rose'. elim tells [
                | inl is' ↦ inr (inl (sym (only_short load has t none a (sym is'.0))))
                | inr none' ↦ inr (inl (sym none'.0))
              ];
            };
          }

    -- the workload was run, or refused for what the disks hold
    pub says_run : (old new : List D) (a : Status) (load : Workload) → (s.tells → HasWorkload s.left load) → (s.tells → s.left' ≡ []) → (s.tells → (k : ℕ) × (k ≤ MAX_WORKLOAD + 1) × (s.left' ≡ drop k s.left)) →
        RunSays G (choice_of n m mode optimistic) load (record { old = old; new = new; sink = o }) a → Says G M s o old new run a
    says_run old new a load has end source q =
        let kind = may_end a q.kind in record {
          causes = record {
            usage = λ e. absurd (other ends_recovery a status.Usage kind refl e);
            usage_told = λ e. absurd (cc e);
            read_fault = λ e. absurd (other ends_recovery a status.ReadFault kind refl e);
            bad_source = λ e. absurd (no_source a kind e);
            bad_source_told = λ t x r. absurd (fits_source load (has t) x r);
            behind_text = λ e r t. (load, has t);
            disk_fault = λ j e. (let at = q.disk j e in (inl at.0, at.1));
            disk_fault_first = q.stopped;
            disk_fault_told = λ e. in_use (IsClean G.tells G.number G.fails) old new run n refl refl (q.clean e);
            bad_log = λ fault e. refl;
            write_fault = q.sink;
          };
          written = record {
            source = source;
            source_end = λ t behind reads. end t;
            source_unread = λ t e. absurd (cc e);
            refusal = λ e late. of.refusal_line q e;
            disk_line = λ j e late. absurd (cc late);
            silent = λ e late. absurd (cc late);
            silent_text = λ e reads t none. absurd (none (load, has t));
          };
          untouched = record {
            rest = kept old new run n refl q.rest;
            before = λ e. absurd (runs_behind a q.kind e);
            bad_source = λ t x r. absurd (fits_source load (has t) x r);
            read = λ e. absurd (cc e);
            calls = λ e. absurd (cc e);
          };
          of = record {
            run = λ t load' has' behind. at t load' has';
            bad_log = λ fault e tells. (load, has, q.bad_log fault e tells);
            unfit_told = λ t tells load' fault has' behind unfit. of.bad_told (at t load' has') tells fault unfit;
            stuck_told = λ t tells load' log has' behind reads fits none. of.tangled_told (at t load' has') tells log reads fits none;
            refused = λ fault e. of.refusal_synced q fault e;
            refused_calls = q.read_alone;
            opening_fault = λ j e tells. of.opening_told q j e tells;
            write_fault_late = q.opened;
            moments = λ unborn. of.not_earlier q unborn;
            done = λ t tells load' log order has' reads is fits none rose.
                recovers_well a kind (λ e. rose.sink (q.sink e)) (λ j e. (let h = q.disk j e in rose.disks j h.0 h.1))
                (of.not_bad (at t load' has') tells log order reads fits is);
          };
        }
      where
        at : s.tells → (load' : Workload) → HasWorkload s.left load' → RunSays G (choice_of n m mode optimistic) load' (record { old = old; new = new; sink = o }) a
        at t load' has' = subst (λ (l : Workload). RunSays G (choice_of n m mode optimistic) l (record { old = old; new = new; sink = o }) a) (same_load s.left load load' (has t) has') q
