-- Writers that were just opened, and an opening that says so of two of them.
use Rattle.std.proofs.Common.{ℕ, zero, suc, ◌<◌, ◌≤◌, ◌≡◌, List, [], ◌∷◌, length, sym, ap, subst, ◌∙◌, arith}
use Rattle.std.specs.Prelude.{slice_index}
use Rattle.tau_base.specs.declared.format.Format.TheVariants.{One}
use Rattle.tau_disk.specs.declared.disk.Disk.{Ghosts}
use Rattle.tau_stream.specs.declared.writer.Writer.{Writer}
use Rattle.tau_stream.specs.Writer.{IsReady}
use Rattle.tau_open.specs.Opening.{AreOpened}
use Rattle.tau_text.specs.declared.load.Workload.{Workload}
use Rattle.tau_core.specs.declared.opening.Opening.{Opening}
use Rattle.tau_core.specs.Opens.{Fits}
use Rattle.tau_run.specs.Start.{catalogue_of}
use Rattle.tau_run.specs.Writers.{AreNew, IsBegun}

pub are_new : {D : Type 0} {G : Ghosts D} (n : ℕ) (load : Workload) (old mid : List D) (ws : List (Writer D G)) → AreOpened G n (catalogue_of load) old mid ws → AreNew One (λ j. catalogue_of load) ws
are_new {D} {G} n load old mid ws streams j w e =
    let b = streams.begun j w e in
    record {
      works = b.works;
      durable = b.durable;
      left = b.left;
      ready = λ t. subst (λ (k : ℕ). IsReady One k j w (catalogue_of load)) (sym streams.count) (b.ready t);
    }

both_end : (end size j : ℕ) → size ≡ end → j < 2 → size ≡ slice_index (end ∷ end ∷ []) j
both_end end size zero e lt = e
both_end end size (suc zero) e lt = e
both_end end size (suc (suc j)) e lt = absurd (omega (arith, lt))

low : (end j : ℕ) → slice_index (0 ∷ 0 ∷ []) j ≤ slice_index (end ∷ end ∷ []) j
low end zero = omega arith
low end (suc zero) = omega arith
low end (suc (suc j)) = omega arith

module _ (o : Opening) (end count : ℕ) (ends : o.ends ≡ end ∷ end ∷ []) where
  pub fits : o.floor ≡ 0 ∷ 0 ∷ [] → o.anchors.items ≡ count ∷ 0 ∷ [] → Fits o
  fits floor anchors = record {
    floor = ap (length {A = ℕ}) floor ∙ sym (ap (length {A = ℕ}) ends);
    covered = λ j. subst (λ (v : List ℕ). slice_index v j ≤ slice_index o.ends j) (sym floor) (subst (λ (v : List ℕ). slice_index (0 ∷ 0 ∷ []) j ≤ slice_index v j) (sym ends) (low end j));
    anchors = ap (length {A = ℕ}) anchors ∙ sym (ap (length {A = ℕ}) ends);
  }

  pub begun : {D : Type 0} {G : Ghosts D} (load : Workload) (ws : List (Writer D G)) → AreNew One (λ j. catalogue_of load) ws → length ws ≡ 2 → length (catalogue_of load) ≡ end → IsBegun One (λ j. catalogue_of load) ws o
  begun load ws new two size = record {
    count = two ∙ sym (ap (length {A = ℕ}) ends);
    long = λ j lt. subst (λ (v : List ℕ). length (catalogue_of load) ≡ slice_index v j) (sym ends) (both_end end (length (catalogue_of load)) j size (subst (λ (v : List ℕ). j < length v) ends lt));
    new = new;
  }
