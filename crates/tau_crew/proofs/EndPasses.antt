-- Managers and the clerk make their last passes.
use Rattle.std.proofs.Common.{ℕ, zero, suc, ◌<◌, ◌≡◌, inl, inr, List, [], ◌∷◌, length, refl, sym, ap, subst, ◌∙◌, arith}
use Rattle.std.specs.Prelude.{Some, slice_get, slice_set}
use Rattle.std.proofs.lemmas.Bool.{cases_eq}
use Rattle.atomic_table.specs.Seated.{TableId}
use Rattle.tau_base.specs.Modes.{format_of}
use Rattle.tau_disk.specs.declared.disk.Disk.{Ghosts}
use Rattle.tau_stream.specs.declared.writer.Writer.{Writer}
use Rattle.tau_core.specs.State.{Plain}
use Rattle.tau_core.specs.Opens.{Opened}
use Rattle.tau_core.specs.declared.state.Load.{Load}
use Rattle.tau_core.proofs.Lists.{got_other, got_same}
use Rattle.tau_crew.specs.declared.clerk.ClerkJob.{ClerkJob}
use Rattle.tau_crew.specs.declared.manager.ManagerJob.{ManagerJob}
use Rattle.tau_crew.specs.ClerkJobs.{ClerkGoes, IsClerkJob}
use Rattle.tau_crew.specs.Ending.{AreManagersBack, IsClerkBack, IsManagerBack}
use Rattle.tau_crew.specs.Jobs.{CanManage, IsSameManager, KeepsManager}
use Rattle.tau_base.proofs.Lists.{some_at, got_within}

length_set : {A : Type 0} (xs : List A) (j : ℕ) (x : A) → length (slice_set xs j x) ≡ length xs
length_set [] j x = refl
length_set (y ∷ xs) zero x = refl
length_set (y ∷ xs) (suc j) x = ap suc (length_set xs j x)

module _ {D : Type 0} {G : Ghosts D} (first : Plain) (table : TableId) (bases : ℕ → List ℕ) (ws : List (Writer D G)) (jobs : List (ManagerJob D G)) (m : AreManagersBack first table bases ws jobs) (j : ℕ) (job : ManagerJob D G) (at : slice_get jobs j ≡ Some job) where
  low_at : j < first.load.streams
  low_at = let low = got_within jobs j job at in let n = m.count in omega (arith, low, n)

  pub writer_of : (w : Writer D G) × (slice_get ws j ≡ Some w)
  writer_of = some_at ws j (let low = low_at in let n = m.writers in omega (arith, low, n))

  pub back_at : IsManagerBack first table bases j writer_of.0 job
  back_at = m.each j writer_of.0 job writer_of.1 at

  pub stream_at : job.seat.stream ≡ job.stream
  stream_at = back_at.at ∙ sym back_at.stream

  pub there_at : (l : Load) → l ≡ first.load → Opened first.load first → job.stream < length l.opening.anchors.items
  there_at l same o = subst (λ (x : Load). job.stream < length x.opening.anchors.items) (sym same) (let low = low_at in let s = back_at.stream in let n = o.stands.sound.opened in omega (arith, low, s, n))

  pub manage_at : CanManage job
  manage_at = record { format = format_of first.load.mode; n = first.load.streams; j = j; base = bases j; w0 = writer_of.0; manager = back_at.manager }

  -- the manager went on
  pub managers_set : (job' : ManagerJob D G) → KeepsManager job job' → IsSameManager job job' → AreManagersBack first table bases ws (slice_set jobs j job')
  managers_set job' keeps same = record {
    count = length_set jobs j job' ∙ m.count;
    writers = m.writers;
    long = m.long;
    each = λ i w x is there. elim (cases_eq i j) [
      | inl e ↦
          (let here : Some job' ≡ Some x = sym (got_same jobs j job' (got_within jobs j job at)) ∙ ap (slice_get (slice_set jobs j job')) (sym e) ∙ there in
          let it : job' ≡ x = cc here in
          let b = m.each j w job (ap (slice_get ws) (sym e) ∙ is) at in
          subst (λ (k : ℕ). IsManagerBack first table bases k w x) (sym e)
          (subst (λ (y : ManagerJob D G). IsManagerBack first table bases j w y) it
          (record {
            own = same.table ∙ b.own;
            opened = same.opened ∙ b.opened;
            at = same.at ∙ b.at;
            stream = same.stream ∙ b.stream;
            ready = b.ready;
            manager = keeps (format_of first.load.mode) first.load.streams j (bases j) w b.manager;
          })))
      | inr ne ↦ m.each i w x is (sym (got_other jobs j i job' ne) ∙ there)
    ];
  }

-- the clerk went on
pub clerk_on : (first : Plain) (table : TableId) (l : Load) (job job' : ClerkJob) → l ≡ first.load → IsClerkBack first table job → ClerkGoes l job job' → IsClerkJob job' → IsClerkBack first table job'
clerk_on first table l job job' same b goes keeps = record {
  own = goes.same.table ∙ b.own;
  opened = goes.same.opened ∙ b.opened;
  clerk = keeps;
  tells = (subst (λ (x : Load). ClerkGoes x job job') same goes).tells b.tells;
}
