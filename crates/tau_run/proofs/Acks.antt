-- What a run by turns has told are the acknowledgements of each worker, in their order.
use Rattle.std.proofs.Common.{ℕ, ◌+◌, true, false, ◌≡◌, inl, inr, List, [], ◌∷◌, ◌++◌, map, refl, sym, ap, subst, ◌∙◌, arith}
use Rattle.std.specs.Prelude.{◌==◌}
use Rattle.std.specs.List.{filter}
use Rattle.std.proofs.lemmas.Bool.{cases_eq, eq-eqb, ne_eqb}
use Rattle.std.proofs.lemmas.List.{append-nil, map-append}
use Rattle.tau_model.specs.History.{Act, Member}
use Rattle.tau_model.proofs.Orders.{member_front, member_back, member_reordered}
use Rattle.tau_machine.specs.Hands.{Txn, act_in}
use Rattle.tau_machine.specs.Accounts.{in_committed, in_worker, in_calls, in_hand, joined_list}
use Rattle.tau_machine.specs.State.{Setting, Ticket, Core, ticket_of}
use Rattle.tau_machine.specs.Invariant.{Invariant}
use Rattle.tau_machine.specs.Events.{Event, Lock, Busy, Quit, Commit, Post, Free, FirstFree, Done, DoneReading, Drop, Gather, PlaceAnchor, Persist, Ack, Stop, Resume, Leads, Gathered, stop, record_first, anchor_first}
use Rattle.tau_machine.specs.Runs.{IsOpening}
use Rattle.tau_machine.proofs.Accounts.{committed_append}
use Rattle.tau_shard.proofs.At.{at_other}
use Rattle.tau_machine.proofs.Runs.{run_invariant}
use Rattle.tau_run.specs.Run.{pair_of}
use Rattle.tau_run.specs.Turns.{Progress, begun, Goes, Tells}
use Rattle.tau_run.proofs.Counts.{count_member, count_tickets}
use Rattle.tau_run.proofs.Led.{IsLed, IsQuiet, goes_led, tells_led, begun_led}
use Rattle.tau_run.proofs.Lists.{filter_append}

gathered_acked : (set : Setting) (j : ℕ) (s s' : Core) → Gathered set j s s' → s'.acked ≡ s.acked
gathered_acked set j s s' stop = refl
gathered_acked set j s s' (record_first {m = m} w g more) = gathered_acked set j m s' more ∙ ap (λ (x : Core). x.acked) g.after
gathered_acked set j s s' (anchor_first {m = m} g more) = gathered_acked set j m s' more ∙ ap (λ (x : Core). x.acked) g.after

-- a quiet event acknowledges nothing
quiet_acked : (set : Setting) (e : Event) (s s' : Core) (new : List (Act Txn)) → IsQuiet e → Leads set e s s' new → s'.acked ≡ s.acked
quiet_acked set (Lock w) s s' new q r = ap (λ (x : Core). x.acked) r.0.after
quiet_acked set (Busy w) s s' new q r = ap (λ (x : Core). x.acked) r.0.after
quiet_acked set (Quit w up) s s' new q r = ap (λ (x : Core). x.acked) r.0.after
quiet_acked set (Commit w) s s' new q r = ap (λ (x : Core). x.acked) r.1.after
quiet_acked set (Post w) s s' new q r = ap (λ (x : Core). x.acked) r.0.after
quiet_acked set (Free w) s s' new q r = ap (λ (x : Core). x.acked) r.0.after
quiet_acked set (FirstFree w) s s' new q r = ap (λ (x : Core). x.acked) r.3.after ∙ ap (λ (x : Core). x.acked) r.2.after
quiet_acked set (Done w) s s' new q r = ap (λ (x : Core). x.acked) r.0.after
quiet_acked set (DoneReading w) s s' new q r = ap (λ (x : Core). x.acked) r.3.after ∙ ap (λ (x : Core). x.acked) r.2.after
quiet_acked set (Drop i v) s s' new q r = ap (λ (x : Core). x.acked) r.0.after
quiet_acked set (Gather j) s s' new q r = gathered_acked set j s s' r.0
quiet_acked set (PlaceAnchor j v) s s' new q r = ap (λ (x : Core). x.acked) r.0.after
quiet_acked set (Persist j upto) s s' new q r = ap (λ (x : Core). x.acked) r.0.after
quiet_acked set (Ack w v) s s' new q r = absurd q
quiet_acked set (Stop j upto) s s' new q r = ap (λ (x : Core). x.acked) r.0.after
quiet_acked set (Resume w) s s' new q r = ap (λ (x : Core). x.acked) r.0.after

-- a pending call is of its worker
pending_own : (set : Setting) (K : List (Act Txn)) (s : Core) → Invariant set K s → (w : ℕ) (k : Ticket) → Member k (s.outboxes w).pending → set.worker_of k.number ≡ w
pending_own set K s g w k q =
    let acc = g.agrees.accounts w in
    let there : Member k (map ticket_of acc.ended) = member_reordered (map ticket_of acc.ended) ((s.outboxes w).pending ++ s.acked w) acc.tickets k (member_front k (s.outboxes w).pending (s.acked w) q) in
    let one = count_member (λ (x : Ticket). x.number) k.number k (map ticket_of acc.ended) there refl in
    let a = count_tickets k.number acc.ended in
    let b = ap (in_committed k.number) acc.committed in
    let c = committed_append k.number acc.ended (joined_list (act_in (s.workers w).hand)) in
    let f : in_calls k.number (s.workers w).waiting + in_hand k.number (s.workers w).hand + in_calls k.number (s.workers w).left + in_committed k.number (s.workers w).committed ≡ in_worker k.number (s.workers w) = refl in
    acc.whose k.number (omega (arith, one, a, b, c, f))

-- what was told are the acknowledgements of each worker
abbrev pub AreTold : Setting → Progress → Type 0
AreTold set p = (w : ℕ) → filter (λ (a : ℕ × List ℕ). set.worker_of a.0 == w) p.told ≡ map pair_of (p.state.acked w)

pub record IsTold (set : Setting) (opening : Core) (p : Progress) : Type 0 where
  pub led : IsLed set opening p
  pub told : AreTold set p

module _ (set : Setting) (m n : ℕ) (opening : Core) (opens : IsOpening set opening) where
  pub goes_told : (e : Event) (p p' : Progress) → IsQuiet e → IsTold set opening p → Goes set m n e p p' → IsTold set opening p'
  goes_told e p p' q t g = record {
    led = goes_led set m n opening e p p' q t.led g;
    told = λ w. ap (filter (λ (a : ℕ × List ℕ). set.worker_of a.0 == w)) g.told ∙ t.told w ∙ ap (λ (f : ℕ → List Ticket). map pair_of (f w)) (sym (quiet_acked set e p.state p'.state g.new q g.leads));
  }

  pub tells_told : (w : ℕ) (p p' : Progress) → IsTold set opening p → Tells set m n w p p' → IsTold set opening p'
  tells_told w p p' t g = record { led = tells_led set m n opening w p p' t.led g; told = by_worker }
    where
      own : set.worker_of g.ticket.number ≡ w
      own =
          pending_own set p.joined p.state (run_invariant set opening p.events p.joined p.state (record { opens = opens; leads = t.led.leads })) w g.ticket
          (subst (λ (ks : List Ticket). Member g.ticket ks) (sym g.is) (member_back g.ticket g.front (g.ticket ∷ g.back) (inl refl)))

      more : (u : ℕ) → filter (λ (a : ℕ × List ℕ). set.worker_of a.0 == u) p'.told ≡ map pair_of (p.state.acked u) ++ filter (λ (a : ℕ × List ℕ). set.worker_of a.0 == u) (pair_of g.ticket ∷ [])
      more u =
          ap (filter (λ (a : ℕ × List ℕ). set.worker_of a.0 == u)) g.told ∙ filter_append (λ (a : ℕ × List ℕ). set.worker_of a.0 == u) p.told (pair_of g.ticket ∷ [])
          ∙ ap (λ (l : List (ℕ × List ℕ)). l ++ filter (λ (a : ℕ × List ℕ). set.worker_of a.0 == u) (pair_of g.ticket ∷ [])) (t.told u)

      by_worker : (u : ℕ) → filter (λ (a : ℕ × List ℕ). set.worker_of a.0 == u) p'.told ≡ map pair_of (p'.state.acked u)
      by_worker u = elim (cases_eq u w) [
        | inl same ↦
            let mine : (set.worker_of g.ticket.number == u) ≡ true = eq-eqb (set.worker_of g.ticket.number) u (own ∙ sym same) in
            let one : filter (λ (a : ℕ × List ℕ). set.worker_of a.0 == u) (pair_of g.ticket ∷ []) ≡ pair_of g.ticket ∷ [] = rw mine refl in
            more u ∙ ap (λ (l : List (ℕ × List ℕ)). map pair_of (p.state.acked u) ++ l) one ∙ sym (map-append pair_of (p.state.acked u) (g.ticket ∷ []))
            ∙ subst (λ (v : ℕ). map pair_of (p.state.acked v ++ g.ticket ∷ []) ≡ map pair_of (p'.state.acked v)) (sym same) (ap (map pair_of) (sym g.acked))
        | inr other ↦
            let not_mine : (set.worker_of g.ticket.number == u) ≡ false = ne_eqb (set.worker_of g.ticket.number) u (λ e. other (sym e ∙ own)) in
            let none : filter (λ (a : ℕ × List ℕ). set.worker_of a.0 == u) (pair_of g.ticket ∷ []) ≡ [] = rw not_mine refl in
            let a = g.leads.0 in
            let same : p'.state.acked u ≡ p.state.acked u = ap (λ (x : Core). x.acked u) a.after ∙ at_other w (p.state.acked w ++ a.ticket ∷ []) p.state.acked u other in
            more u ∙ ap (λ (l : List (ℕ × List ℕ)). map pair_of (p.state.acked u) ++ l) none ∙ append-nil (map pair_of (p.state.acked u)) ∙ ap (map pair_of) (sym same)
      ]

  pub begun_told : IsTold set opening (begun opening)
  begun_told = record { led = begun_led set opening; told = λ w. ap (map pair_of) (sym (opens.acked w)) }
