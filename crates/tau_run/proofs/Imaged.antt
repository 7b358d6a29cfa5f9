-- What the laws say of what stops may leave, over whatever relations say it.
use Rattle.std.proofs.Common.{ℕ, ◌+◌, ◌<◌, ◌≤◌, ◌≡◌, List, ◌++◌, length, refl, ap, subst, ◌∙◌, Option, arith}
use Rattle.std.specs.Prelude.{Some, None, slice_get, slice_index}
use Rattle.std.proofs.lemmas.List.{length-append}
use Rattle.tau_base.specs.declared.value.LogMode.{LogMode}
use Rattle.tau_base.specs.Modes.{format_of}
use Rattle.tau_block.specs.Image.{HasContent}
use Rattle.tau_model.specs.History.{Act}
use Rattle.tau_machine.specs.Hands.{Txn}
use Rattle.tau_machine.specs.State.{Core}
use Rattle.tau_text.specs.declared.load.Workload.{Workload}
use Rattle.tau_core.specs.declared.state.Load.{Load}
use Rattle.tau_scan.specs.Sound.{IsSound}
use Rattle.tau_run.specs.Start.{old_at, opened_at}
use Rattle.tau_run.specs.Run.{Run, AllAcked}
use Rattle.tau_run.specs.RecoveredFacts.{IsImaged, IsAcknowledged, IsEnded}
use Rattle.tau_run.specs.CoreRun.{IsRunOf, IsCourse}
use Rattle.tau_run.specs.StopsLeave.{HasFront, IsLeft, IsOver}
use Rattle.tau_run.proofs.Durable.{durable_waits}
use Rattle.tau_run.proofs.Each.{one_content}
use Rattle.tau_run.proofs.Results.{contents_law, images_law, acked_law, ends_law}
use Rattle.tau_base.proofs.Lists.{got_within}

-- What a stop now may leave of streams that were opened with this. `rose` are the streams whose disk failed.
pub record Leaves (n : ℕ) (first : ℕ → List ℕ) (l : Load) (s : Core) (now : ℕ → List ℕ → Type 0) (rose : ℕ → Type 0) : Type 0 where
  -- whatever it leaves reaches what is persisted
  pub present : (j : ℕ) (x : List ℕ) → j < n → now j x → (bytes : List ℕ) × HasFront n j (first j) l s bytes x × (slice_index s.plv j ≤ length (first j) + length bytes)
  -- and it may leave no more than that
  pub reached : (j : ℕ) (x : List ℕ) → j < n → now j x → (y content : List ℕ) × now j y × HasContent (format_of l.mode) n j content y × (length content ≡ slice_index s.plv j)
  pub stopped : (j at : ℕ) → (s.streams j).stop ≡ Some at → rose j

module _ (n m : ℕ) (mode : LogMode) (load : Workload) (l : Load) (K : List (Act Txn)) (s : Core) (run : Run) (c : IsCourse n m mode load run.start l K s) (is : IsRunOf n l K s load run) where
  within : (images : List (List ℕ)) (j : ℕ) (image : List ℕ) → length images ≡ n → slice_get images j ≡ Some image → j < n
  within images j image count e = subst (λ (k : ℕ). j < k) count (got_within images j image e)

  pub imaged : (in_order : Type 0) (past : ℕ → List ℕ → Type 0) →
      (in_order → IsSound (format_of mode) run.start.old run.start.log run.start.base × ((j : ℕ) (x : List ℕ) → j < n → past j x → IsLeft n j (old_at run.start j) (opened_at load run.start j) l s x)) → IsImaged n mode load in_order past run
  imaged in_order past left =
      let w = contents_law n m mode load l K s run c is in record {
        opened = w.0;
        whole = w.1.0;
        reads = w.1.1;
        records = w.1.2;
        each = λ u images from. images_law n m mode load l K s run c is (left u).0 images from.0 (λ j image e. (left u).1 j image (within images j image from.0 e) (from.1 j image e));
      }

  module _ (now : ℕ → List ℕ → Type 0) (rose : ℕ → Type 0) (leaves : Leaves n (opened_at load run.start) l s now rose) where
    pub acknowledged : IsAcknowledged n load now run
    acknowledged images from log reads x q e =
        acked_law n m mode load l K s run c is images from.0 (λ j image f. leaves.present j image (within images j image from.0 f) (from.1 j image f)) log reads x q e

    going : (j : ℕ) → (rose j → ⊥) → (s.streams j).stop ≡ None
    going j none = by_stop (s.streams j).stop refl
      where
        by_stop : (o : Option ℕ) → (s.streams j).stop ≡ o → (s.streams j).stop ≡ None
        by_stop None e = e
        by_stop (Some end) e = absurd (none (leaves.stopped j end e))

    pub ended : IsOver n s → (((j : ℕ) → j < n → (s.streams j).stop ≡ None) → AllAcked load run) → IsEnded n mode load now rose run
    ended over complete =
        let law = ends_law n m mode load l K s run c is over in
        subst (λ (k : LogMode). IsEnded n k load now rose run) c.load_is.mode_is (record {
          durable = s.plv;
          least = λ j x content lt q has.
              (let p = leaves.present j x lt q in
              let first : List ℕ = opened_at load run.start j in
              let same = one_content (format_of l.mode) n j x content (first ++ p.0) has p.1.has in
              let long : length content ≡ length first + length p.0 = ap length same ∙ length-append first p.0 in
              let reach = p.2 in
              omega (arith, long, reach));
          reached = leaves.reached;
          acked = law.0;
          waits = durable_waits n m mode load l K s run c is;
          uncovered = λ d q j lt gap. (let at = law.1 d q j lt gap in leaves.stopped j at.0 at.1);
          flushed = λ j x lt none q. (let p = leaves.present j x lt q in law.2 j lt (going j none) x p.0 p.1 p.2);
          all = λ none. complete (λ j lt. going j (none j lt));
        })
