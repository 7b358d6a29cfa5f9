-- From the close of a desk, and what the loops know of their own, to the end of a run in threads.
use Rattle.std.proofs.Common.{ℕ, ◌+◌, ◌-◌, ◌<◌, ◌≤◌, ◌≡◌, inl, inr, false, List, [], ◌∷◌, map, length, refl, sym, ap, subst, ◌∙◌, arith, slice_index}
use Rattle.std.specs.Prelude.{Option, Some, None, slice_get, slice_index_or, ◌==◌}
use Rattle.std.specs.List.{filter}
use Rattle.std.proofs.Math.Nat.{mod-lt}
use Rattle.std.proofs.lemmas.Bool.{eq-eqb}
use Rattle.tau_base.specs.Modes.{format_of}
use Rattle.tau_model.proofs.ReportOrder.{member_filter_in}
use Rattle.tau_base.specs.Vectors.{AtMost, covers}
use Rattle.tau_base.proofs.Vectors.{at_most_itself}
use Rattle.tau_disk.specs.declared.disk.Disk.{Ghosts}
use Rattle.tau_stream.specs.declared.writer.Writer.{Writer}
use Rattle.tau_stream.specs.Writer.{disk_of, has_failed}
use Rattle.tau_outbox.specs.declared.Piece.{Piece}
use Rattle.tau_model.specs.History.{Act, Member}
use Rattle.tau_machine.specs.Hands.{Hand, Txn}
use Rattle.tau_machine.specs.Worker.{Worker}
use Rattle.tau_machine.specs.State.{Core, Item, Ticket}
use Rattle.tau_machine.specs.Pieces.{placed_in}
use Rattle.tau_machine.specs.Accounts.{in_worker, in_calls, in_hand, in_committed}
use Rattle.tau_machine.specs.Invariant.{Invariant}
use Rattle.tau_machine.proofs.Results.{run_theorem}
use Rattle.tau_core.specs.Opens.{calls_of, nothing}
use Rattle.tau_core.specs.Pieces.{IsPieceOf, Paired}
use Rattle.tau_core.specs.State.{Plain}
use Rattle.tau_core.specs.View.{core_of, setting_of, worker_of}
use Rattle.tau_core.specs.declared.state.Load.{Load}
use Rattle.tau_occ.specs.declared.style.Style.{Style}
use Rattle.tau_run.specs.Run.{pair_of}
use Rattle.tau_rule.specs.Knows.{Knows}
use Rattle.tau_rule.specs.Role.{Managed, Share}
use Rattle.tau_rule.specs.Rule.{IsManaged, IsShare, Now, anchors_at, clerk_role, manager_role}
use Rattle.tau_crew_facts.specs.Writers.{BecameDurable, HasWritten}
use Rattle.tau_crew_facts.specs.Telling.{IsTelling}
use Rattle.tau_crew_facts.specs.Spacing.{IsSpacing}
use Rattle.tau_crew_facts.specs.Ends.{AreLasting, IsLoose, IsClosed, IsThreadEnd, AreApart, stopped_by, stops_of}
use Rattle.tau_crew_facts.specs.Closing.{IsClosing, ManagerApart, ManagerKnows, WorkerDone, ManagerDone, ClerkDone, EndsBy, covered_count}
use Rattle.tau_crew_facts.proofs.Telling.{pending_own}
use Rattle.tau_crew_facts.proofs.Done.{gathered_by_views, told_by_views}
use Rattle.tau_base.proofs.Logic.{below_or_not, some_is}
use Rattle.tau_base.proofs.Lists.{same_list, got_within, some_at}
use Rattle.tau_crew_facts.proofs.RunExists.{no_members}
use Rattle.tau_model.proofs.Assembling.{member_mapped}
use Rattle.tau_run.specs.Keeping.{NoneLost}
use Rattle.tau_run.specs.StopsLeave.{IsOver, NamesLowest}
use Rattle.tau_run.specs.Writers.{EachOf}
use Rattle.tau_crew_facts.proofs.Stops.{works_at}

rest_unplaced : (o : Option Hand) → o ≡ None → placed_in o ≡ None
rest_unplaced o e = ap placed_in e

-- a worker that is not there
abbrev rest_of : Worker
rest_of = record { waiting = []; hand = None; left = []; committed = [] }

module _ (first : Plain) {style : Style} (v : Knows) (workers : ℕ → Worker) (managers : ℕ → Managed) (acked : List (List Ticket)) (c : Now) (k : IsClosing first style v workers managers acked c) where
  abbrev l : Load
  l = first.load

  abbrev s : Core
  s = c.core

  abbrev K : List (Act Txn)
  K = k.meets.reached.joined

  abbrev seen : List ℕ
  seen = v.seen

  inv : Invariant (setting_of l) K s
  inv = run_theorem (setting_of l) (core_of first nothing) k.meets.reached.events K s k.meets.reached.run

  some : 1 ≤ l.workers
  some = k.meets.opened.stands.sound.workers_low

  worker_is : (w : ℕ) → w < l.workers → s.workers w ≡ workers w
  worker_is w lt =
      let r = k.worker w lt in
      (subst (λ (x : Share). IsShare l w x c) r.2 (k.roles w r.0 r.1).0).1

  manager_is : (j : ℕ) → j < l.streams → IsManaged l j (managers j) c
  manager_is j lt =
      let r = k.manager j lt in
      let (i, e, there, m) = subst (λ (x : Share). IsShare l (manager_role l j) x c) r.2 (k.roles (manager_role l j) r.0 r.1).0 in
      subst (λ (x : ℕ). IsManaged l x (managers j) c) (let same : i ≡ j = omega (arith, e) in same) m

  clerk_is_there : (w : ℕ) → w < l.workers → s.acked w ≡ slice_index_or acked w []
  clerk_is_there w lt =
      let r = k.clerk in
      (subst (λ (x : Share). IsShare l (clerk_role l) x c) r.2 (k.roles (clerk_role l) r.0 r.1).0).1 w lt

  seen_is_that : seen ≡ s.plv
  seen_is_that =
      let r = k.clerk in
      let wide : length seen ≡ l.streams = k.sees.wide (clerk_role l) r.0 r.1 in
      same_list seen s.plv (wide ∙ sym inv.agrees.good.count_plv)
      (λ j lt. (let there : j < l.streams = omega (arith, lt, wide) in let m = k.manager j there in k.sees.own j m.0 there m.1))

  stored_is : (j : ℕ) → slice_index seen j ≡ slice_index s.plv j
  stored_is j = ap (λ (p : List ℕ). slice_index p j) seen_is_that

  loose_at : ((w : ℕ) → w < l.workers → IsLoose (workers w).hand) → (w : ℕ) → IsLoose (s.workers w).hand
  loose_at loose w = elim (below_or_not w l.workers) [
    | inl lt ↦ subst (λ (worker : Worker). IsLoose worker.hand) (sym (worker_is w lt)) (loose w lt)
    | inr le ↦ subst (λ (worker : Worker). IsLoose worker.hand) (sym (k.meets.beyond w le)) tt
  ]

  -- what the clerk has told is persisted, whatever it had seen
  pub telling_now : (other : List ℕ) (acks : List (ℕ × List ℕ)) → IsTelling l acked other acks → IsTelling l acked seen acks
  telling_now other acks t = record {
    each = t.each;
    licensed = λ a m.
        (let u : ℕ = worker_of l.workers a.0 in
        let lt : u < l.workers = mod-lt (a.0 - 1) {m = l.workers} (omega (arith, some)) in
        let mine : Member a (filter (λ (b : ℕ × List ℕ). worker_of l.workers b.0 == u) acks) = member_filter_in (λ (b : ℕ × List ℕ). worker_of l.workers b.0 == u) acks a m (eq-eqb u u refl) in
        let told : Member a (map pair_of (s.acked u)) = subst (λ (xs : List (ℕ × List ℕ)). Member a xs) (t.each u lt ∙ ap (map pair_of) (sym (clerk_is_there u lt))) mine in
        let k = member_mapped pair_of a (s.acked u) told in
        subst (λ (v : List ℕ). AtMost a.1 v) (sym seen_is_that) (subst (λ (b : ℕ × List ℕ). AtMost b.1 s.plv) k.2 (inv.agrees.good.acked u k.0 k.1).0));
  }

  module _ {D : Type 0} {G : Ghosts D} (bases : ℕ → List ℕ) (ws ws' : List (Writer D G)) (acks : List (ℕ × List ℕ)) (count : length ws ≡ l.streams) (loose : (w : ℕ) → w < l.workers → IsLoose (workers w).hand)
      (managed : EachOf (λ j w w'. ManagerKnows l seen j (bases j) (managers j) w w') ws ws') (telling : IsTelling l acked seen acks) where
    closed : IsClosed first style s
    closed = record {
      opened = k.meets.opened;
      events = k.meets.reached.events;
      joined = K;
      run = k.meets.reached.run;
      held = k.meets.reached.held;
      going = k.meets.going;
      loose = loose_at loose;
      boxes = λ w lt. (let b = k.box w lt in (b.0.pieces, b.2.posted));
    }

    low : (j : ℕ) (w : Writer D G) → slice_get ws j ≡ Some w → j < l.streams
    low j w is = let lt = got_within ws j w is in omega (arith, lt, count)

    -- each position that was stored is one of those of its manager
    pub lasts : AreLasting l k.meets.reached.events ws'
    lasts j upto m w' is t =
        let there : j < length ws = (let lt = got_within ws' j w' is in let same = managed.count in omega (arith, lt, same)) in
        let w = some_at ws j there in
        let x = managed.each j w.0 w.1 in
        let stored : Member upto (managers j).stored = subst (λ (us : List ℕ). Member upto us) (manager_is j (omega (arith, there, count))).stored (k.meets.stored j upto m) in
        subst (λ (v : Writer D G). BecameDurable G (format_of l.mode) l.streams j (disk_of v) upto) (some_is x.0 w' (sym x.1 ∙ is)) (x.2.lasts t upto stored)

    -- at whatever end
    pub thread_end : IsThreadEnd bases first style s ws ws' acks
    unfolding closed
    thread_end = record {
      closed = closed;
      count = count;
      managers = record {
        count = managed.count;
        each = λ j w is.
            (let x = managed.each j w is in
            let g = manager_is j (low j w is) in (
              x.0,
              x.1,
              record {
                taken = (managers j).taken;
                own = (managers j).own;
                moved = g.moved;
                posted = g.own;
                ready = x.2.ready;
                written = subst (λ (d : ℕ). HasWritten (format_of l.mode) l.streams j (bases j) (managers j).taken d w x.0) (stored_is j) x.2.written;
              },
            ));
      };
      lasts = lasts;
      clerk = record {
        told = λ w lt. telling.each w lt ∙ ap (map pair_of) (sym (clerk_is_there w lt));
        seen = seen;
        low = subst (λ (p : List ℕ). AtMost seen p) seen_is_that (at_most_itself seen);
        licensed = telling.licensed;
      };
    }

    -- the managers have kept their distance
    pub thread_apart : ((j : ℕ) → j < l.streams → ManagerApart l seen j (bases j) (managers j)) → AreApart bases l s
    thread_apart apart j lt =
        subst (λ (vs : List (List ℕ)). IsSpacing (slice_index l.opening.anchors.items j) (length (bases j)) (slice_index s.plv j) (map (λ (p : List ℕ). slice_index p j) vs)) (sym (manager_is j lt).anchors)
        (subst (λ (d : ℕ). IsSpacing (slice_index l.opening.anchors.items j) (length (bases j)) d (map (λ (p : List ℕ). slice_index p j) (managers j).anchors)) (stored_is j) (apart j lt))

    -- where it went to its end
    module _ (done : (w : ℕ) → w < l.workers → WorkerDone l w (workers w)) (flushed : (j : ℕ) (w' : Writer D G) → slice_get ws' j ≡ Some w' → has_failed w' ≡ false → ManagerDone l seen workers j (managers j))
        (told : (w : ℕ) → w < l.workers → ClerkDone seen (workers w) (slice_index_or acked w []))
        (nothing_left : NamesLowest l.streams (stops_of ws' s.plv) None → (w : ℕ) → w < l.workers → ((workers w).waiting ≡ []) × ((workers w).left ≡ [])) where
      writer_after : (j : ℕ) → j < l.streams → (w' : Writer D G) × (slice_get ws' j ≡ Some w')
      writer_after j lt = some_at ws' j (let b = managed.count in omega (arith, lt, b, count))

      rests : (w : ℕ) → (s.workers w).hand ≡ None
      rests w = elim (below_or_not w l.workers) [
        | inl lt ↦ ap (λ (worker : Worker). worker.hand) (worker_is w lt) ∙ (done w lt).rests
        | inr le ↦ ap (λ (worker : Worker). worker.hand) (k.meets.beyond w le)
      ]

      pending_beyond : (w : ℕ) → l.workers ≤ w → (s.outboxes w).pending ≡ []
      pending_beyond w le = no_members (s.outboxes w).pending (λ t q.
          (let own = pending_own l K s inv w t q in
          let lt : worker_of l.workers t.number < l.workers = mod-lt (t.number - 1) {m = l.workers} (omega (arith, some)) in
          absurd (omega (arith, own, lt, le))))

      -- each number waits at the opening, and each worker still accounts for its own
      none_lost : NoneLost (length l.calls) s
      none_lost i lo hi =
          let (w, waits) = k.meets.opened.waits i lo hi in
          elim (below_or_not w l.workers) [
            | inl lt ↦
                let at_first : 1 ≤ in_calls i (calls_of l w) = at_opening w i lt waits in
                let all = (done w lt).kept i in
                let same = ap (in_worker i) (worker_is w lt) in
                (w, omega (arith, all, same, at_first))
            | inr le ↦ absurd (not_beyond w i le waits)
          ]
        where
          start : Core
          start = core_of first nothing

          at_opening : (w i : ℕ) → w < l.workers → 1 ≤ in_worker i (start.workers w) → 1 ≤ in_calls i (calls_of l w)
          at_opening w i lt h =
              let a = ap (in_hand i) (k.meets.opened.opening.hands w) in
              let b = ap (in_calls i) (k.meets.opened.opening.left w) in
              let d = ap (in_committed i) (k.meets.opened.opening.committed w) in
              let e = ap (in_calls i) (k.meets.opened.waiting w lt) in
              let all : in_calls i (start.workers w).waiting + in_hand i (start.workers w).hand + in_calls i (start.workers w).left + in_committed i (start.workers w).committed ≡ in_worker i (start.workers w) = refl in
              omega (arith, a, b, d, e, all, h)

          not_beyond : (w i : ℕ) → l.workers ≤ w → 1 ≤ in_worker i (start.workers w) → ⊥
          not_beyond w i le h =
              let own : worker_of l.workers i ≡ w = k.meets.opened.opening.whose w i h in
              let lt : worker_of l.workers i < l.workers = mod-lt (i - 1) {m = l.workers} (omega (arith, some)) in
              omega (arith, own, lt, le)

      thread_over : IsOver l.streams (stopped_by ws' s)
      thread_over = record {
        rests = rests;
        persisted = λ j lt none.
            (let (w', is) = writer_after j lt in
            let d = flushed j w' is (works_at ws' s.plv j w' is none) in
            let g = manager_is j lt in
            sym (stored_is j) ∙ d.durable ∙ sym g.gathered
            ∙ gathered_by_views l K s inv some j lt (λ w. rest_unplaced (s.workers w).hand (rests w)) (own_none j lt d.own)
            (λ w call there stream m. subst (λ (upto : ℕ). EndsBy upto call.spot) (sym g.gathered) (d.placed w call there stream (subst (λ (worker : Worker). Member call worker.committed) (worker_is w there) m))));
        told = λ w. elim (below_or_not w l.workers) [
          | inl lt ↦ told_by_views l K s inv w (rests w) (enough w lt)
          | inr le ↦ ap (filter (λ (t : Ticket). covers s.plv t.lv)) (pending_beyond w le)
        ];
        done = λ works w. elim (below_or_not w l.workers) [
          | inl lt ↦ (let h = nothing_left works w lt in (ap (λ (worker : Worker). worker.waiting) (worker_is w lt) ∙ h.0, ap (λ (worker : Worker). worker.left) (worker_is w lt) ∙ h.1))
          | inr le ↦ (ap (λ (worker : Worker). worker.waiting) (k.meets.beyond w le), ap (λ (worker : Worker). worker.left) (k.meets.beyond w le))
        ];
      }
        where
          own_none : (j : ℕ) → j < l.streams → (managers j).own ≡ [] → (s.streams j).posted ≡ []
          own_none j lt e = paired_none (s.streams j).posted (subst (λ (ps : List Piece). Paired (IsPieceOf l (anchors_at s)) ps (s.streams j).posted) e (manager_is j lt).own)
            where
              paired_none : (ys : List Item) → Paired (IsPieceOf l (anchors_at s)) [] ys → ys ≡ []
              paired_none [] h = refl
              paired_none (y ∷ ys) h = absurd h

          enough : (w : ℕ) → w < l.workers → covered_count s.plv (s.workers w).committed ≤ length (s.acked w)
          enough w lt =
              let a = told w lt in
              let b = ap (λ (p : List ℕ). covered_count p (workers w).committed) seen_is_that in
              let d = ap (λ (worker : Worker). covered_count s.plv worker.committed) (worker_is w lt) in
              let e = ap (length {A = Ticket}) (clerk_is_there w lt) in
              omega (arith, a, b, d, e)

      pub thread_done : IsOver l.streams (stopped_by ws' s) × NoneLost (length l.calls) s
      thread_done = (thread_over, none_lost)
