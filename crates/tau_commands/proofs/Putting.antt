-- A checkpoint is written into its slot, and told.
use Rattle.std.proofs.Common.{ℕ, true, ◌+◌, ◌<◌, ◌≤◌, ◌≡◌, List, [], length, take, refl, inl, inr, sym, ap, subst, ◌∙◌, arith}
use Rattle.std.specs.Prelude.{Some, slice_get}
use Rattle.std.proofs.Math.ListN.{set}
use Rattle.tau_base.specs.declared.limits.TheConstants.{MAX_STREAMS}
use Rattle.tau_disk.specs.declared.disk.Disk.{Ghosts}
use Rattle.tau_disk.specs.Used.{OfDisk}
use Rattle.tau_disk.proofs.Places.{get_set_other, get_set_same}
use Rattle.tau_run.specs.RunFacts.{WroteFront}
use Rattle.tau_scan.specs.declared.fault.LogFault.{LogFault}
use Rattle.tau_commands.specs.declared.checkpoints.Ready.{Ready}
use Rattle.tau_commands.specs.declared.status.Status.{Status}
use Rattle.tau_commands.specs.declared.status.Status.TheVariants as status
use Rattle.tau_commands.specs.Checkpoints.{CheckpointTells, checkpoint_text, has_written}
use Rattle.tau_commands.specs.Fault.{TellsFault, fault_text}
use Rattle.tau_commands.specs.Finding.{FailsToPut, HasPut, IsWritable, PutsInto, Writes}

module _ {D : Type 0} (G : Ghosts D) (ready : Ready) (slots : List D) (d e : D) (low : ready.slot < length slots) (here : slice_get slots ready.slot ≡ Some d) (writes : Writes G ready.slot ready.value d e) (wrote : List ℕ → Type 0) (rose : Type 0) where
  abbrev now : List D
  now = set slots ready.slot e

  at_slot : (R : D → D → Type 0) → R d e → OfDisk R slots now ready.slot
  at_slot R r = (d, e, here, get_set_same slots ready.slot e low, r)

  others : (i : ℕ) → (i ≡ ready.slot → ⊥) → slice_get now i ≡ slice_get slots i
  others i other = get_set_other slots ready.slot i e other

  pub put_short : wrote [] → PutsInto G ready slots now wrote rose status.NoMemory
  put_short silent = record {
    kind = refl;
    no_bad = λ fault x. absurd (cc x);
    disk = λ j x. absurd (cc x);
    silent = λ x. silent;
    sink = λ x. absurd (cc x);
    others = others;
    here = at_slot (Writes G ready.slot ready.value) writes;
    written = λ x. absurd (cc x);
  }

  disk_is : (i j : ℕ) → status.DiskFault i ≡ status.DiskFault j → i ≡ j
  disk_is i j x = cc

  failed_at : FailsToPut G d e → WroteFront wrote rose (fault_text (status.DiskFault (MAX_STREAMS + ready.slot))) → PutsInto G ready slots now wrote rose (status.DiskFault (MAX_STREAMS + ready.slot))
  failed_at fails line = record {
    kind = refl;
    no_bad = λ fault x. absurd (cc x);
    disk = λ j x. (sym (disk_is (MAX_STREAMS + ready.slot) j x), at_slot (FailsToPut G) fails, line);
    silent = λ x. absurd (cc x);
    sink = λ x. absurd (cc x);
    others = others;
    here = at_slot (Writes G ready.slot ready.value) writes;
    written = λ x. absurd (cc x);
  }

  pub put_failed : FailsToPut G d e → (answer : Status) → TellsFault wrote rose (status.DiskFault (MAX_STREAMS + ready.slot)) answer → PutsInto G ready slots now wrote rose answer
  put_failed fails answer (inl told) = subst (λ (s : Status). PutsInto G ready slots now wrote rose s) (sym told.0) (failed_at fails told.1)
  put_failed fails answer (inr none) = subst (λ (s : Status). PutsInto G ready slots now wrote rose s) (sym none.0) (put_short none.1)

  module _ (writable : IsWritable ready) (put : HasPut G ready.slot ready.value d e) where
    pub put_done : wrote ready.text.items → PutsInto G ready slots now wrote rose status.Ok
    put_done told = record {
      kind = refl;
      no_bad = λ fault x. absurd (cc x);
      disk = λ j x. absurd (cc x);
      silent = λ x. absurd (cc x);
      sink = λ x. absurd (cc x);
      others = others;
      here = at_slot (Writes G ready.slot ready.value) writes;
      written = λ x. (at_slot (HasPut G ready.slot ready.value) put, subst (λ (l : List ℕ). wrote l) writable.text told);
    }

    pub put_cut : (k : ℕ) × (k < length ready.text.items) × wrote (take k ready.text.items) → rose → PutsInto G ready slots now wrote rose status.WriteFault
    put_cut part cause = record {
      kind = refl;
      no_bad = λ fault x. absurd (cc x);
      disk = λ j x. absurd (cc x);
      silent = λ x. absurd (cc x);
      sink = λ x. cause;
      others = others;
      here = at_slot (Writes G ready.slot ready.value) writes;
      written = λ x. (at_slot (HasPut G ready.slot ready.value) put, subst (λ (l : List ℕ). (k : ℕ) × (k < length l) × wrote (take k l)) writable.text part);
    }
