-- What a call tells that looks at the log of the first disks, by what reading that log gave.
use Rattle.std.proofs.Common.{ℕ, ◌+◌, ◌<◌, ◌≤◌, ◌≡◌, inl, inr, true, List, [], ◌++◌, length, take, drop, refl, sym, ap, subst, ◌∙◌, arith}
use Rattle.std.specs.Prelude.{Result, None, Ok, Err}
use Rattle.std.proofs.Math.Seq.{take-append_seam, drop-append_seam}
use Rattle.std.proofs.lemmas.List.{length-map, length-take-le}
use Rattle.tau_block.specs.declared.content.Content.{Content}
use Rattle.tau_disk.specs.declared.disk.Disk.{Ghosts}
use Rattle.tau_disk.specs.Disk.{Rose}
use Rattle.tau_disk.specs.Used.{Each, EachUsed, RoseAt, AllCalls, OnlyRead, IsFirstStopped}
use Rattle.tau_run.specs.RunFacts.{WroteFront}
use Rattle.tau_replay.specs.Redone.{IsOrderOf}
use Rattle.tau_scan.specs.declared.fault.LogFault.{LogFault}
use Rattle.tau_scan.specs.declared.fault.ScanRefusal.{ScanRefusal}
use Rattle.tau_scan.specs.declared.fault.ScanRefusal.TheVariants as scan
use Rattle.tau_scan.specs.declared.log.Log.{Log}
use Rattle.tau_scan.specs.Contents.{HasContents, bytes_in}
use Rattle.tau_scan.specs.Outside.{IsRead, calls_to_read}
use Rattle.tau_scan.specs.Reading.{HasRead, IsLog, log_of}
use Rattle.tau_scan.specs.Taken.{Kept}
use Rattle.tau_commands.specs.declared.status.Status.{Status}
use Rattle.tau_commands.specs.declared.status.Status.TheVariants as status
use Rattle.tau_commands.specs.Recovery.{OfRecover, EndsTangled, IsTangle, LogTells, RecoverTells, images_of}
use Rattle.tau_commands.specs.Ends.{OneLine, wrote}
use Rattle.tau_commands.specs.Fault.{is_refusal, TellsFault}
use Rattle.tau_commands.specs.First.{ReadsFirst, TellsOfLog, status_at}
use Rattle.tau_commands.specs.Inspecting.{InspectTells, OfInspect, TellsText}
use Rattle.tau_inspect.specs.Inspection.{inspect_text}
use Rattle.tau_commands.specs.Outside.{Output, Wrote, ends_recovery, ends_rehearsal}
use Rattle.tau_commands.specs.Reads.{HasOnlyRead}
use Rattle.tau_commands.proofs.Ends.{no_refusal, rehearsal_ends, rehearsal_recovers, rehearses_well, nothing_told, recovers_well}
use Rattle.tau_commands.proofs.Recoveries.{each_lent, read_first, rose_among, stopped_among}

-- ---- reading

module _ {D : Type 0} (G : Ghosts D) (old lent : List D) (n : ℕ) (many : n ≤ length old) (long : length lent ≡ n) (read : Each (IsRead G.tells G.seen G.may_leave G.moment G.may_leave_since G.faults G.number G.fails) (take n old) lent) where
  same : take n (lent ++ drop n old) ≡ lent
  same = subst (λ (k : ℕ). take k (lent ++ drop n old) ≡ lent) long (take-append_seam lent (drop n old))

  rest : drop n (lent ++ drop n old) ≡ drop n old
  rest = subst (λ (k : ℕ). drop k (lent ++ drop n old) ≡ drop n old) long (drop-append_seam lent (drop n old))

  only : EachUsed (OnlyRead G.tells G.seen G.may_leave G.moment G.may_leave_since) old (lent ++ drop n old) n
  only = read_first G.tells G.seen G.may_leave G.moment G.may_leave_since G.faults G.number G.fails old (lent ++ drop n old) n
      (subst (λ (ds : List D). Each (IsRead G.tells G.seen G.may_leave G.moment G.may_leave_since G.faults G.number G.fails) (take n old) ds) (sym same) read)

  whole : Each (AllCalls G.tells G.number G.fails G.short calls_to_read) (take n old) lent → EachUsed (AllCalls G.tells G.number G.fails G.short calls_to_read) old (lent ++ drop n old) n
  whole = each_lent (AllCalls G.tells G.number G.fails G.short calls_to_read) old lent n long

  -- a log has as many streams as were read
  width : (log : Log) (contents : List Content) → HasContents G.tells G.seen None (take n old) log contents → length log.elv ≡ n
  width log contents has =
      ap length has.log_of_them.lengths ∙ length-map (bytes_in contents) length ∙ length-map contents (λ (c : Content). c.bytes) ∙ has.many ∙ length-take-le n old many

  pub log_first : (log : Log) (contents : List Content) → HasRead G.tells G.seen None (take n old) (Ok log) → IsLog log → HasContents G.tells G.seen None (take n old) log contents → Each (AllCalls G.tells G.number G.fails G.short calls_to_read) (take n old) lent →
      ReadsFirst G old (lent ++ drop n old) n (Ok log)
  log_first log contents found sound has calls = record {
    read = only;
    rest = rest;
    gives = record {
      sound = sound;
      width = width log contents has;
      whole = whole calls;
      reads = λ t. subst (λ (images : List (List ℕ)). log_of None images ≡ Ok log) (found.as_seen t) found.gives;
    };
  }

  pub refusal_first : {A : Type 0} (result : Result A ScanRefusal) (refusal : ScanRefusal) → result ≡ Err refusal → HasRead G.tells G.seen None (take n old) (Err refusal) → ((j : ℕ) → result ≡ Err (scan.Failed j) → RoseAt G.faults (take n old) lent j) →
      ((j : ℕ) → result ≡ Err (scan.Failed j) → G.tells → IsFirstStopped G.tells G.number G.fails G.short (take n old) lent j) →
      ((fault : LogFault) → result ≡ Err (scan.Bad fault) → Each (AllCalls G.tells G.number G.fails G.short calls_to_read) (take n old) lent) → ReadsFirst G old (lent ++ drop n old) n (Err refusal)
  refusal_first result scan.NoMemory is found rose stopped calls = record { read = only; rest = rest; gives = tt }
  refusal_first result (scan.Failed j) is found rose stopped calls =
      let at = rose_among G.faults old (lent ++ drop n old) n j (subst (λ (ds : List D). RoseAt G.faults (take n old) ds j) (sym same) (rose j is)) in
      record {
        read = only;
        rest = rest;
        gives = record {
          low = at.0;
          rose = at.1;
          stopped = λ t. stopped_among G.tells G.number G.fails G.short old (lent ++ drop n old) n j (subst (λ (ds : List D). IsFirstStopped G.tells G.number G.fails G.short (take n old) ds j) (sym same) (stopped j is t));
        };
      }
  refusal_first result (scan.Bad fault) is found rose stopped calls = record {
    read = only;
    rest = rest;
    gives = record { whole = whole (calls fault is); reads = λ t. subst (λ (images : List (List ℕ)). log_of None images ≡ Err fault) (found.as_seen t) found.gives };
  }

-- ---- telling

same_disk : (j i : ℕ) → status.DiskFault j ≡ status.DiskFault i → j ≡ i
same_disk j i e = cc

same_fault : (a b : LogFault) → status.BadLog a ≡ status.BadLog b → a ≡ b
same_fault a b e = cc

one_reading : (images : List (List ℕ)) (log : Log) (fault : LogFault) → log_of None images ≡ Err fault → log_of None images ≡ Ok log → ⊥
one_reading images log fault bad ok = (let f : Err fault ≡ Ok log = sym bad ∙ ok in cc f)

pub same_err : {A E : Type 0} (r : Result A E) (a b : E) → r ≡ Err a → r ≡ Err b → a ≡ b
same_err r a b one other = cc

pub same_ok : {A E : Type 0} (r : Result A E) (a b : A) → r ≡ Ok a → r ≡ Ok b → a ≡ b
same_ok r a b one other = cc

same_reading : (images : List (List ℕ)) (a b : LogFault) → log_of None images ≡ Err a → log_of None images ≡ Err b → a ≡ b
same_reading images a b one other = same_err (log_of None images) a b one other

one_log : (images : List (List ℕ)) (a b : Log) → log_of None images ≡ Ok a → log_of None images ≡ Ok b → a ≡ b
one_log images a b one other = same_ok (log_of None images) a b one other

-- what is told where there is no log says nothing of these
pub inspect_free : (images : List (List ℕ)) (write : List ℕ → Type 0) (refusal : ScanRefusal) → InspectTells images write (status_at refusal)
inspect_free images write scan.NoMemory = tt
inspect_free images write (scan.Failed j) = tt
inspect_free images write (scan.Bad fault) = tt

-- the text of a log is that of its images
pub inspect_tells : (images : List (List ℕ)) (write : List ℕ → Type 0) (log : Log) → log_of None images ≡ Ok log → (a : Status) → TellsText (inspect_text log) write a → InspectTells images write a
inspect_tells images write log is status.Ok told = (log, is, told)
inspect_tells images write log is status.WriteFault told = (log, is, told)
inspect_tells images write log is status.NoMemory told = tt
inspect_tells images write log is (status.DiskFault j) told = tt
inspect_tells images write log is (status.BadLog fault) told = tt
inspect_tells images write log is status.Usage told = tt
inspect_tells images write log is (status.BadText at why) told = tt
inspect_tells images write log is status.ReadFault told = tt
inspect_tells images write log is status.TooLong told = tt
inspect_tells images write log is (status.BadFeed at) told = tt
inspect_tells images write log is (status.BadReport number) told = tt

recover_tells : (images : List (List ℕ)) (write : List ℕ → Type 0) (log : Log) → log_of None images ≡ Ok log → (a : Status) → LogTells log write a → RecoverTells images write a
recover_tells images write log is status.Ok told = (log, is, told)
recover_tells images write log is status.WriteFault told = (log, is, told)
recover_tells images write log is status.NoMemory told = told
recover_tells images write log is (status.DiskFault j) told = tt
recover_tells images write log is (status.BadLog fault) told = tt
recover_tells images write log is status.Usage told = tt
recover_tells images write log is (status.BadText at why) told = tt
recover_tells images write log is status.ReadFault told = tt
recover_tells images write log is status.TooLong told = tt
recover_tells images write log is (status.BadFeed at) told = tt
recover_tells images write log is (status.BadReport number) told = tt

-- a log without an order is told as tangled
tangled_so : (log : Log) (write : List ℕ → Type 0) → ((order : List Kept) → IsOrderOf log order → ⊥) → (a : Status) → ends_recovery a ≡ true → ((fault : LogFault) → a ≡ status.BadLog fault → IsTangle log fault) → LogTells log write a → EndsTangled log a
tangled_so log write none status.Ok kind tangled told = none told.1.redone.order told.1.redone.is_order
tangled_so log write none status.WriteFault kind tangled told = none told.2.redone.order told.2.redone.is_order
tangled_so log write none status.NoMemory kind tangled told = tt
tangled_so log write none (status.DiskFault j) kind tangled told = tt
tangled_so log write none (status.BadLog fault) kind tangled told = tangled fault refl
tangled_so log write none status.Usage kind tangled told = absurd (cc kind)
tangled_so log write none (status.BadText at why) kind tangled told = absurd (cc kind)
tangled_so log write none status.ReadFault kind tangled told = absurd (cc kind)
tangled_so log write none status.TooLong kind tangled told = absurd (cc kind)
tangled_so log write none (status.BadFeed at) kind tangled told = absurd (cc kind)
tangled_so log write none (status.BadReport number) kind tangled told = absurd (cc kind)

module _ {D : Type 0} (G : Ghosts D) (o : Output) (old new : List D) (n : ℕ) where
  abbrev images : List (List ℕ)
  images = images_of G.seen old n

  abbrev Reads : Result Log ScanRefusal → Type 0
  Reads result = ReadsFirst G old new n result

  -- ---- the log was refused

  none_read : Reads (Err scan.NoMemory) → wrote o status.NoMemory [] → HasOnlyRead G o old new status.NoMemory n
  none_read h silent = record {
    kind = refl;
    disk = λ j e. absurd (cc e);
    stopped = λ j e. absurd (cc e);
    calls = λ e. absurd (cc e);
    refusal = λ e. absurd (cc e);
    disk_line = λ j e. absurd (cc e);
    sink = λ e. absurd (cc e);
    silent = λ e. silent;
    read = h.read;
    rest = h.rest;
  }

  failed_read : (j : ℕ) → Reads (Err (scan.Failed j)) → OneLine o (status.DiskFault j) → HasOnlyRead G o old new (status.DiskFault j) n
  failed_read j h line = record {
    kind = refl;
    disk = λ i e. subst (λ (k : ℕ). (k < n) × RoseAt G.faults old new k) (same_disk j i e) (h.gives.low, h.gives.rose);
    stopped = λ i e t. subst (λ (k : ℕ). IsFirstStopped G.tells G.number G.fails G.short old new k) (same_disk j i e) (h.gives.stopped t);
    calls = λ e. absurd (cc e);
    refusal = λ e. absurd (cc e);
    disk_line = λ i e. line;
    sink = λ e. absurd (cc e);
    silent = λ e. absurd (cc e);
    read = h.read;
    rest = h.rest;
  }

  bad_read : (fault : LogFault) → Reads (Err (scan.Bad fault)) → OneLine o (status.BadLog fault) → HasOnlyRead G o old new (status.BadLog fault) n
  bad_read fault h line = record {
    kind = refl;
    disk = λ j e. absurd (cc e);
    stopped = λ j e. absurd (cc e);
    calls = λ e. h.gives.whole;
    refusal = λ e. line;
    disk_line = λ j e. absurd (cc e);
    sink = λ e. absurd (cc e);
    silent = λ e. absurd (cc e);
    read = h.read;
    rest = h.rest;
  }

  -- what was not read for want of memory tells nothing of the log
  forgotten : (refusal : ScanRefusal) → Reads (Err refusal) → Reads (Err scan.NoMemory)
  forgotten refusal h = record { read = h.read; rest = h.rest; gives = tt }

  abbrev Refuses : ScanRefusal → Status → Type 0
  Refuses refusal a = TellsFault (Wrote o.hears o.held o.held') (Rose o.faults o.faults') (status_at refusal) a

  pub refused_read : (refusal : ScanRefusal) (a : Status) → Reads (Err refusal) → Refuses refusal a → HasOnlyRead G o old new a n
  refused_read refusal a h (inr told) = subst (λ (x : Status). HasOnlyRead G o old new x n) (sym told.0) (none_read (forgotten refusal h) told.1)
  refused_read scan.NoMemory a h (inl told) = subst (λ (x : Status). HasOnlyRead G o old new x n) (sym told.0) (none_read h (nothing_told (Wrote o.hears o.held o.held') (Rose o.faults o.faults') told.1))
  refused_read (scan.Failed j) a h (inl told) = subst (λ (x : Status). HasOnlyRead G o old new x n) (sym told.0) (failed_read j h told.1)
  refused_read (scan.Bad fault) a h (inl told) = subst (λ (x : Status). HasOnlyRead G o old new x n) (sym told.0) (bad_read fault h told.1)

  -- ---- the log was read

  pub log_read : (log : Log) (a : Status) → Reads (Ok log) → ends_recovery a ≡ true → ((j : ℕ) → a ≡ status.DiskFault j → ⊥) → (is_refusal a ≡ true → OneLine o a) → (a ≡ status.WriteFault → Rose o.faults o.faults') → (a ≡ status.NoMemory → wrote o a []) →
      HasOnlyRead G o old new a n
  log_read log a h kind no_disk refusal sink silent = record {
    kind = kind;
    disk = λ j e. absurd (no_disk j e);
    stopped = λ j e. absurd (no_disk j e);
    calls = λ e. h.gives.whole;
    refusal = refusal;
    disk_line = λ j e. absurd (no_disk j e);
    sink = sink;
    silent = silent;
    read = h.read;
    rest = h.rest;
  }

  -- by a call that told a text of it
  pub text_read : (log : Log) (a : Status) → Reads (Ok log) → ends_rehearsal a ≡ true → (a ≡ status.WriteFault → Rose o.faults o.faults') → (a ≡ status.NoMemory → wrote o a []) → HasOnlyRead G o old new a n
  text_read log a h kind sink silent = log_read log a h (rehearsal_recovers a kind) (λ j e. rehearsal_ends a (status.DiskFault j) kind refl e) (λ e. absurd (no_refusal a kind e)) sink silent

  -- ---- a call that redoes nothing

  module _ (Tells : List (List ℕ) → (List ℕ → Type 0) → Status → Type 0) where
    none_of : Tells images (Wrote o.hears o.held o.held') status.NoMemory → TellsOfLog Tells G o old new status.NoMemory n
    none_of told = record { tells = λ t. told; bad_log = λ fault e. absurd (cc e); bad_log_told = λ t fault is. tt; done = λ t log is sink disks. inr (inl refl) }

    failed_of : (j : ℕ) → Reads (Err (scan.Failed j)) → Tells images (Wrote o.hears o.held o.held') (status.DiskFault j) → TellsOfLog Tells G o old new (status.DiskFault j) n
    failed_of j h told = record { tells = λ t. told; bad_log = λ fault e. absurd (cc e); bad_log_told = λ t fault is. tt; done = λ t log is sink disks. absurd (disks j h.gives.low h.gives.rose) }

    bad_of : (fault : LogFault) → Reads (Err (scan.Bad fault)) → Tells images (Wrote o.hears o.held o.held') (status.BadLog fault) → TellsOfLog Tells G o old new (status.BadLog fault) n
    bad_of fault h told = record {
      tells = λ t. told;
      bad_log = λ other e t. subst (λ (x : LogFault). log_of None images ≡ Err x) (same_fault fault other e) (h.gives.reads t);
      bad_log_told = λ t other is. same_reading images fault other (h.gives.reads t) is;
      done = λ t log is. absurd (one_reading images log fault (h.gives.reads t) is);
    }

    pub refused_of : ((refusal : ScanRefusal) → Tells images (Wrote o.hears o.held o.held') (status_at refusal)) → (refusal : ScanRefusal) (a : Status) → Reads (Err refusal) → Refuses refusal a → TellsOfLog Tells G o old new a n
    refused_of free refusal a h (inr told) = subst (λ (x : Status). TellsOfLog Tells G o old new x n) (sym told.0) (none_of (free scan.NoMemory))
    refused_of free scan.NoMemory a h (inl told) = subst (λ (x : Status). TellsOfLog Tells G o old new x n) (sym told.0) (none_of (free scan.NoMemory))
    refused_of free (scan.Failed j) a h (inl told) = subst (λ (x : Status). TellsOfLog Tells G o old new x n) (sym told.0) (failed_of j h (free (scan.Failed j)))
    refused_of free (scan.Bad fault) a h (inl told) = subst (λ (x : Status). TellsOfLog Tells G o old new x n) (sym told.0) (bad_of fault h (free (scan.Bad fault)))

    pub told_of : (log : Log) (a : Status) → Reads (Ok log) → ends_rehearsal a ≡ true → (a ≡ status.WriteFault → Rose o.faults o.faults') → (log_of None images ≡ Ok log → Tells images (Wrote o.hears o.held o.held') a) → TellsOfLog Tells G o old new a n
    told_of log a h kind sink told = record {
      tells = λ t. told (h.gives.reads t);
      bad_log = λ fault e. rehearsal_ends a (status.BadLog fault) kind refl e;
      bad_log_told = λ t fault is. absurd (one_reading images log fault is (h.gives.reads t));
      done = λ t other is no_sink disks. rehearses_well a kind (λ e. no_sink (sink e));
    }

  pub inspects : (a : Status) → TellsOfLog InspectTells G o old new a n → OfInspect G o old new a n
  inspects a h = record { inspect = h.tells; bad_log = h.bad_log; bad_log_told = h.bad_log_told; done = h.done }

  -- ---- a recovery

  none_redone : wrote o status.NoMemory [] → OfRecover G o old new status.NoMemory n
  none_redone silent = record { recover = λ t. silent; bad_log = λ fault e. absurd (cc e); bad_log_told = λ t fault is. tt; tangled_told = λ t log is none. tt; done = λ t log order is ordered rose. inr (inl refl) }

  failed_redone : (j : ℕ) → Reads (Err (scan.Failed j)) → OfRecover G o old new (status.DiskFault j) n
  failed_redone j h = record {
    recover = λ t. tt;
    bad_log = λ fault e. absurd (cc e);
    bad_log_told = λ t fault is. tt;
    tangled_told = λ t log is none. tt;
    done = λ t log order is ordered rose. absurd (rose.disks j h.gives.low h.gives.rose);
  }

  bad_redone : (fault : LogFault) → Reads (Err (scan.Bad fault)) → OfRecover G o old new (status.BadLog fault) n
  bad_redone fault h = record {
    recover = λ t. tt;
    bad_log = λ other e t. inl (subst (λ (x : LogFault). log_of None images ≡ Err x) (same_fault fault other e) (h.gives.reads t));
    bad_log_told = λ t other is. same_reading images fault other (h.gives.reads t) is;
    tangled_told = λ t log is none. absurd (one_reading images log fault (h.gives.reads t) is);
    done = λ t log order is ordered rose. absurd (one_reading images log fault (h.gives.reads t) is);
  }

  pub refused_redone : (refusal : ScanRefusal) (a : Status) → Reads (Err refusal) → Refuses refusal a → OfRecover G o old new a n
  refused_redone refusal a h (inr told) = subst (λ (x : Status). OfRecover G o old new x n) (sym told.0) (none_redone told.1)
  refused_redone scan.NoMemory a h (inl told) = subst (λ (x : Status). OfRecover G o old new x n) (sym told.0) (none_redone (nothing_told (Wrote o.hears o.held o.held') (Rose o.faults o.faults') told.1))
  refused_redone (scan.Failed j) a h (inl told) = subst (λ (x : Status). OfRecover G o old new x n) (sym told.0) (failed_redone j h)
  refused_redone (scan.Bad fault) a h (inl told) = subst (λ (x : Status). OfRecover G o old new x n) (sym told.0) (bad_redone fault h)

  pub log_redone : (log : Log) (a : Status) → Reads (Ok log) → LogTells log (Wrote o.hears o.held o.held') a → ((fault : LogFault) → a ≡ status.BadLog fault → IsTangle log fault × ((order : List Kept) → IsOrderOf log order → ⊥)) → (a ≡ status.WriteFault → Rose o.faults o.faults') →
      ends_recovery a ≡ true → ((j : ℕ) → a ≡ status.DiskFault j → ⊥) → OfRecover G o old new a n
  log_redone log a h told tangled sink kind no_disk = record {
    recover = λ t. recover_tells images (Wrote o.hears o.held o.held') log (h.gives.reads t) a told;
    bad_log = λ fault e t. inr (log, h.gives.reads t, (tangled fault e).0);
    bad_log_told = λ t fault is. absurd (one_reading images log fault is (h.gives.reads t));
    tangled_told = λ t other is none.
        let same_log : other ≡ log = one_log images other log is (h.gives.reads t) in
        subst (λ (l : Log). EndsTangled l a) (sym same_log) (tangled_so log (Wrote o.hears o.held o.held') (λ order ordered. none order (subst (λ (l : Log). IsOrderOf l order) (sym same_log) ordered)) a kind (λ fault e. (tangled fault e).0) told);
    done = λ t other order is ordered rose.
        recovers_well a kind (λ e. rose.sink (sink e)) (λ j e. no_disk j e) (λ fault e. (tangled fault e).1 order (subst (λ (l : Log). IsOrderOf l order) (one_log images other log is (h.gives.reads t)) ordered));
  }
