-- Streams that were just opened are of format 1.
use Rattle.std.proofs.Common.{ℕ, ◌≤◌, ◌≡◌, List, length, sym, subst, arith}
use Rattle.tau_base.specs.declared.format.Format.{Format}
use Rattle.tau_base.specs.declared.format.Format.TheVariants.{One, Two}
use Rattle.tau_base.specs.Modes.{most_streams}
use Rattle.tau_disk.specs.declared.disk.Disk.{Ghosts}
use Rattle.tau_stream.specs.declared.writer.Writer.{Writer}
use Rattle.tau_stream.specs.Writer.{IsReady}
use Rattle.tau_open.specs.Opening.{AreOpened}
use Rattle.tau_text.specs.declared.load.Workload.{Workload}
use Rattle.tau_run.specs.Start.{catalogue_of}
use Rattle.tau_run.specs.Writers.{AreNew}

-- every format has room for the streams of the first
pub low_streams : (f : Format) (n : ℕ) → n ≤ most_streams One → n ≤ most_streams f
low_streams One n few = few
low_streams Two n few = omega (arith, few)

-- no format has room for more workers than there may be
pub few_workers : (f : Format) (m : ℕ) → m ≤ most_streams f → m ≤ 32
few_workers One m few = omega (arith, few)
few_workers Two m few = few

-- their writers are new
pub are_new : {D : Type 0} {G : Ghosts D} (n : ℕ) (load : Workload) (old mid : List D) (ws : List (Writer D G)) → AreOpened G n (catalogue_of load) old mid ws → (f : Format) → One ≡ f → AreNew f (λ j. catalogue_of load) ws
are_new {D} {G} n load old mid ws streams f is j w e =
    let b = streams.begun j w e in
    record {
      works = b.works;
      durable = b.durable;
      left = b.left;
      ready = λ t. subst (λ (g : Format). IsReady g (length ws) j w (catalogue_of load)) is (subst (λ (k : ℕ). IsReady One k j w (catalogue_of load)) (sym streams.count) (b.ready t));
    }
