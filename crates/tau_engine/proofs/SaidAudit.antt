-- What is said of a call of an audit, from what is said of the audit.
use Rattle.std.proofs.Common.{ℕ, true, false, ◌≡◌, inl, inr, refl, sym, ap, ◌∙◌, subst, List, [], Option}
use Rattle.std.specs.Prelude.{Some, slice_get}
use Rattle.tau_disk.specs.declared.disk.Disk.{Ghosts}
use Rattle.tau_disk.specs.declared.memory.MemDisk.{MemDisk}
use Rattle.tau_disk.specs.Used.{OnlyRead, AllCalls, IsClean}
use Rattle.tau_disk.proofs.Calls.{untouched}
use Rattle.tau_scan.specs.Outside.{calls_to_read}
use Rattle.tau_words.specs.declared.command.Command.{Command}
use Rattle.tau_words.specs.declared.command.Command.TheVariants.{Audit}
use Rattle.tau_commands.specs.declared.status.Status.{Status}
use Rattle.tau_commands.specs.declared.status.Status.TheVariants as status
use Rattle.tau_commands.specs.Auditing.{EndsAuditing, OfAudit}
use Rattle.tau_commands.specs.Cases.{ends_case}
use Rattle.tau_commands.specs.Outside.{Input, Output, ends_recovery, is_behind_reading}
use Rattle.tau_commands.specs.Reads.{HasReadSource}
use Rattle.tau_commands.specs.Sources.{HasSource, RefusesSource}
use Rattle.tau_engine.specs.Top.{Says}
use Rattle.tau_commands.proofs.OneSource.{not_refused}
use Rattle.tau_commands.proofs.Recoveries.{clean_of}
use Rattle.tau_engine.proofs.Said.{in_use, kept, no_before}
use Rattle.tau_commands.proofs.Ends.{other}

-- before any disk was asked no command did its work
not_read : (a : Status) → ends_case a ≡ true → is_behind_reading a ≡ true → ⊥
not_read status.NoMemory kind e = cc e
not_read status.ReadFault kind e = cc e
not_read status.TooLong kind e = cc e
not_read (status.BadText line why) kind e = cc e
not_read (status.BadReport number) kind e = cc e
not_read status.Usage kind e = cc e
not_read (status.BadFeed at) kind e = cc e
not_read (status.DiskFault j) kind e = cc e
not_read status.Ok kind e = cc kind
not_read status.WriteFault kind e = cc kind
not_read (status.BadLog fault) kind e = cc kind

-- a source that has what an audit asks is not refused
fits_source : (n m : ℕ) (text : List ℕ) (refusal : Status) → HasSource (Some (Audit n m)) text → RefusesSource (Some (Audit n m)) text refusal → ⊥
fits_source n m text refusal (load, report, has) r = not_refused n m text load report refusal has r

module _ {D : Type 0} (G : Ghosts D) (M : Ghosts MemDisk) (s : Input) (o : Output) (old new : List D) (n m : ℕ) (a : Status) where
  abbrev asked : Option Command
  asked = Some (Audit n m)

  pub says_audit : HasReadSource s asked a → EndsAuditing G s o old new a n m → OfAudit G s o old new a n m → Says G M s o old new asked a
  says_audit h (inl unread) says = record {
    causes = record {
      usage = λ e. absurd (other ends_case a status.Usage unread.kind refl e);
      usage_told = λ e. absurd (cc e);
      read_fault = λ e. (refl, h.read_fault e);
      bad_source = λ e. (refl, h.bad_source e);
      bad_source_told = h.bad_source_told;
      behind_text = λ e reads. h.behind_text e;
      disk_fault = λ j e. absurd (other ends_case a (status.DiskFault j) unread.kind refl e);
      disk_fault_first = λ j e. absurd (other ends_case a (status.DiskFault j) unread.kind refl e);
      disk_fault_told = λ e. absurd (other ends_case a status.Ok unread.kind refl e);
      bad_log = λ fault e. refl;
      write_fault = λ e. absurd (other ends_case a status.WriteFault unread.kind refl e);
    };
    written = record {
      source = h.source;
      source_end = λ t e reads. h.source_end t e;
      source_unread = λ t e. absurd (cc e);
      refusal = λ e late. unread.refusal e;
      disk_line = λ j e. absurd (other ends_case a (status.DiskFault j) unread.kind refl e);
      silent = λ e late. unread.silent e;
      silent_text = λ e reads t none. unread.silent e;
    };
    untouched = record {
      rest = λ j out. ap (λ (ds : List D). slice_get ds j) unread.untouched;
      before = λ e. unread.untouched;
      bad_source = λ t refusal r. unread.untouched;
      read = λ e j d used was. (d, ap (λ (ds : List D). slice_get ds j) unread.untouched ∙ was, untouched G d);
      calls = λ e behind. absurd (not_read a unread.kind behind);
    };
    of = says;
  }
  says_audit h (inr (has, read)) says = record {
    causes = record {
      usage = λ e. absurd (other ends_recovery a status.Usage read.kind refl e);
      usage_told = λ e. absurd (cc e);
      read_fault = λ e. (refl, h.read_fault e);
      bad_source = λ e. (refl, h.bad_source e);
      bad_source_told = h.bad_source_told;
      behind_text = λ e reads. h.behind_text e;
      disk_fault = λ j e. (let at = read.disk j e in (inl at.0, at.1));
      disk_fault_first = read.stopped;
      disk_fault_told = λ e. in_use (IsClean G.tells G.number G.fails) old new asked n refl refl (clean_of G.tells G.number G.fails G.short calls_to_read old new n (read.calls (ap is_behind_reading e)));
      bad_log = λ fault e. refl;
      write_fault = read.sink;
    };
    written = record {
      source = h.source;
      source_end = λ t e reads. h.source_end t e;
      source_unread = λ t e. absurd (cc e);
      refusal = λ e late. read.refusal e;
      disk_line = λ j e late. read.disk_line j e;
      silent = λ e late. read.silent e;
      silent_text = λ e reads t none. read.silent e;
    };
    untouched = record {
      rest = kept old new asked n refl read.rest;
      before = λ e. absurd (no_before a read.kind e);
      bad_source = λ t refusal r. absurd (fits_source n m s.left refusal (has t) r);
      read = λ e. in_use (OnlyRead G.tells G.seen G.may_leave G.moment G.may_leave_since) old new asked n refl refl read.read;
      calls = λ e behind. in_use (AllCalls G.tells G.number G.fails G.short calls_to_read) old new asked n refl refl (read.calls behind);
    };
    of = says;
  }
