-- What is said of a call of a command that uses the slots, from what is said of the command.
use Rattle.std.proofs.Common.{ℕ, true, false, ◌≡◌, ◌<◌, ◌≤◌, ◌⊎◌, inl, inr, refl, sym, ap, ◌∙◌, subst, List, arith}
use Rattle.std.specs.Prelude.{Option, Some, None, slice_get}
use Rattle.tau_base.specs.declared.limits.TheConstants.{MAX_STREAMS}
use Rattle.tau_disk.specs.declared.disk.Disk.{Ghosts}
use Rattle.tau_disk.specs.declared.memory.MemDisk.{MemDisk}
use Rattle.tau_disk.specs.Disk.{Rose}
use Rattle.tau_scan.specs.declared.fault.LogFault.{LogFault}
use Rattle.tau_words.specs.declared.command.Command.{Command}
use Rattle.tau_words.specs.declared.command.Command.TheVariants.{Checkpoint, Restore}
use Rattle.tau_commands.specs.declared.status.Status.{Status}
use Rattle.tau_commands.specs.declared.status.Status.TheVariants as status
use Rattle.tau_commands.specs.Checkpoints.{HasEnded, HasReadAll, IsUsed}
use Rattle.tau_engine.specs.Commands.{Of}
use Rattle.tau_commands.specs.Outside.{Input, Output, ends_recovery, is_behind_reading}
use Rattle.tau_engine.specs.Kinds.{only_reads, reads_source, streams_of, tells_before, uses_slots, writes_at_end}
use Rattle.tau_engine.specs.Top.{Says, Uses, finds_log}
use Rattle.tau_engine.proofs.Said.{no_before, refuses_none, some_command}
use Rattle.tau_commands.proofs.Ends.{no_source, other}

module _ {D : Type 0} (G : Ghosts D) (M : Ghosts MemDisk) (s : Input) (o : Output) (old new : List D) (c : Option Command) (a : Status) (n : ℕ) (streams : streams_of c ≡ n) (slots : uses_slots c ≡ true) (unread : reads_source c ≡ false) (finds : finds_log c ≡ true)
    (same : s.left' ≡ s.left) where
  used_of : (j : ℕ) → Uses c j → IsUsed n j
  used_of j (inl low) = inl (subst (λ (k : ℕ). j < k) streams low)
  used_of j (inr slot) = inr slot.1

  use_of : (j : ℕ) → IsUsed n j → Uses c j
  use_of j (inl low) = inl (subst (λ (k : ℕ). j < k) (sym streams) low)
  use_of j (inr slot) = inr (slots, slot)

  -- it puts bytes into a slot, or it at most reads, and reads all
  pub says_slots : HasEnded G o old new a n → (only_reads c ≡ true → HasReadAll G old new a n) → Of G M s o old new a c → Says G M s o old new c a
  says_slots h reads says = record {
    causes = record {
      usage = λ e. absurd (other ends_recovery a status.Usage h.kind refl e);
      usage_told = λ e. absurd (some_command c finds e);
      read_fault = λ e. absurd (other ends_recovery a status.ReadFault h.kind refl e);
      bad_source = λ e. absurd (no_source a h.kind e);
      bad_source_told = λ t refusal r. absurd (refuses_none c s.left refusal unread r);
      behind_text = λ e r. absurd (let f : true ≡ false = sym r ∙ unread in cc f);
      disk_fault = λ j e. (let at = h.disk j e in (use_of j at.0, at.1));
      disk_fault_first = h.stopped;
      disk_fault_told = λ e j d used was. h.clean (ap is_behind_reading e) j d (used_of j used) was;
      bad_log = λ fault e. finds;
      write_fault = h.sink;
    };
    written = record {
      source = λ t. (0, omega arith, same);
      source_end = λ t behind r. absurd (let f : true ≡ false = sym r ∙ unread in cc f);
      source_unread = λ t e. same;
      refusal = λ e late. h.refusal e;
      disk_line = λ j e late. h.disk_line j e;
      silent = λ e late. h.silent e;
      silent_text = λ e r. absurd (let f : true ≡ false = sym r ∙ unread in cc f);
    };
    untouched = record {
      rest = λ j out. h.rest j (λ used. out (use_of j used));
      before = λ e. absurd (no_before a h.kind e);
      bad_source = λ t refusal r. absurd (refuses_none c s.left refusal unread r);
      read = λ e j d used was. (let r = reads e in r.read j d (used_of j used) was);
      calls = λ e behind j d used was. (let r = reads e in r.calls behind j d (used_of j used) was);
    };
    of = says;
  }
