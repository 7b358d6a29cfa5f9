-- What an event of a worker leaves of the others, and of streams; and that nobody else changes a worker.
use Rattle.std.proofs.Common.{ℕ, ◌≡◌, Bool, List, refl, ap, ◌∙◌}
use Rattle.std.specs.Prelude.{is_some, ◌&&◌, ◌||◌, not, nat_lt}
use Rattle.std.specs.List.{list_any}
use Rattle.tau_base.specs.declared.limits.TheConstants.{SHARDS}
use Rattle.tau_model.specs.History.{Act}
use Rattle.tau_machine.specs.Hands.{Txn}
use Rattle.tau_machine.specs.Worker.{Worker}
use Rattle.tau_machine.specs.State.{Setting, Core, Stream}
use Rattle.tau_machine.specs.Events.{Event, Lock, Busy, Quit, Commit, Post, Free, FirstFree, Done, DoneReading, Drop, Gather, PlaceAnchor, Persist, Ack, Stop, Resume, Leads, Gathered, stop, record_first, anchor_first}
use Rattle.tau_shard.proofs.At.{at_other}
use Rattle.tau_run.specs.Run.{below}
use Rattle.tau_run.specs.Turns.{Progress, IsOwn, is_raised, is_empty}
use Rattle.tau_step.specs.TurnParts.{OneByOne, DropOf, WorkedPart, ManagedPart, AnchoredPart, Clerked, has_work}
use Rattle.tau_step.proofs.Turning.{worked_part_keep, managed_keep, anchored_keep, clerked_keep, removed_keep}

-- an event of a worker leaves the streams
pub own_streams : (set : Setting) (w : ℕ) (e : Event) (s s' : Core) (new : List (Act Txn)) → IsOwn w e → Leads set e s s' new → s'.streams ≡ s.streams
own_streams set w (Lock u) s s' new o q = ap (λ (c : Core). c.streams) q.0.after
own_streams set w (Busy u) s s' new o q = ap (λ (c : Core). c.streams) q.0.after
own_streams set w (Quit u up) s s' new o q = ap (λ (c : Core). c.streams) q.0.after
own_streams set w (Commit u) s s' new o q = ap (λ (c : Core). c.streams) q.1.after
own_streams set w (Post u) s s' new o q = ap (λ (c : Core). c.streams) q.0.after
own_streams set w (Free u) s s' new o q = ap (λ (c : Core). c.streams) q.0.after
own_streams set w (FirstFree u) s s' new o q = ap (λ (c : Core). c.streams) q.3.after ∙ ap (λ (c : Core). c.streams) q.2.after
own_streams set w (Done u) s s' new o q = ap (λ (c : Core). c.streams) q.0.after
own_streams set w (DoneReading u) s s' new o q = ap (λ (c : Core). c.streams) q.3.after ∙ ap (λ (c : Core). c.streams) q.2.after
own_streams set w (Drop i v) s s' new o q = absurd o
own_streams set w (Gather j) s s' new o q = absurd o
own_streams set w (PlaceAnchor j v) s s' new o q = absurd o
own_streams set w (Persist j upto) s s' new o q = absurd o
own_streams set w (Ack u v) s s' new o q = absurd o
own_streams set w (Stop j upto) s s' new o q = absurd o
own_streams set w (Resume u) s s' new o q = absurd o

-- and the other workers
module _ (set : Setting) (w u : ℕ) (ne : u ≡ w → ⊥) where
  apart : (v : ℕ) → v ≡ w → u ≡ v → ⊥
  apart v e q = ne (q ∙ e)

  pub own_others : (e : Event) (s s' : Core) (new : List (Act Txn)) → IsOwn w e → Leads set e s s' new → s'.workers u ≡ s.workers u
  own_others (Lock v) s s' new o q = ap (λ (c : Core). c.workers u) q.0.after ∙ at_other v _ s.workers u (apart v o)
  own_others (Busy v) s s' new o q = ap (λ (c : Core). c.workers u) q.0.after ∙ at_other v _ s.workers u (apart v o)
  own_others (Quit v up) s s' new o q = ap (λ (c : Core). c.workers u) q.0.after ∙ at_other v _ s.workers u (apart v o.0)
  own_others (Commit v) s s' new o q = ap (λ (c : Core). c.workers u) q.1.after ∙ at_other v _ s.workers u (apart v o)
  own_others (Post v) s s' new o q = ap (λ (c : Core). c.workers u) q.0.after ∙ at_other v _ s.workers u (apart v o)
  own_others (Free v) s s' new o q = ap (λ (c : Core). c.workers u) q.0.after ∙ at_other v _ s.workers u (apart v o)
  own_others (Done v) s s' new o q = ap (λ (c : Core). c.workers u) q.0.after ∙ at_other v _ s.workers u (apart v o)
  own_others (FirstFree v) s s' new o q = ap (λ (c : Core). c.workers u) q.3.after ∙ at_other v _ q.0.workers u (apart v o) ∙ ap (λ (c : Core). c.workers u) q.2.after ∙ at_other v _ s.workers u (apart v o)
  own_others (DoneReading v) s s' new o q = ap (λ (c : Core). c.workers u) q.3.after ∙ at_other v _ q.0.workers u (apart v o) ∙ ap (λ (c : Core). c.workers u) q.2.after ∙ at_other v _ s.workers u (apart v o)
  own_others (Drop i v) s s' new o q = absurd o
  own_others (Gather j) s s' new o q = absurd o
  own_others (PlaceAnchor j v) s s' new o q = absurd o
  own_others (Persist j upto) s s' new o q = absurd o
  own_others (Ack k v) s s' new o q = absurd o
  own_others (Stop j upto) s s' new o q = absurd o
  own_others (Resume k) s s' new o q = absurd o

-- an event that changes no worker
abbrev pub IsElsewhere : Event → Type 0
IsElsewhere (Drop i v) = Unit {0}
IsElsewhere (Gather j) = Unit {0}
IsElsewhere (PlaceAnchor j v) = Unit {0}
IsElsewhere (Persist j upto) = Unit {0}
IsElsewhere (Ack w v) = Unit {0}
IsElsewhere (Stop j upto) = Unit {0}
IsElsewhere _ = ⊥

gathered_workers : (set : Setting) (j : ℕ) (s s' : Core) → Gathered set j s s' → s'.workers ≡ s.workers
gathered_workers set j s s' stop = refl
gathered_workers set j s s' (record_first {m = m} w q more) = gathered_workers set j m s' more ∙ ap (λ (c : Core). c.workers) q.after
gathered_workers set j s s' (anchor_first {m = m} q more) = gathered_workers set j m s' more ∙ ap (λ (c : Core). c.workers) q.after

pub elsewhere : (set : Setting) (e : Event) (s s' : Core) (new : List (Act Txn)) → IsElsewhere e → Leads set e s s' new → s'.workers ≡ s.workers
elsewhere set (Lock u) s s' new o q = absurd o
elsewhere set (Busy u) s s' new o q = absurd o
elsewhere set (Quit u up) s s' new o q = absurd o
elsewhere set (Commit u) s s' new o q = absurd o
elsewhere set (Post u) s s' new o q = absurd o
elsewhere set (Free u) s s' new o q = absurd o
elsewhere set (FirstFree u) s s' new o q = absurd o
elsewhere set (Done u) s s' new o q = absurd o
elsewhere set (DoneReading u) s s' new o q = absurd o
elsewhere set (Drop i v) s s' new o q = ap (λ (c : Core). c.workers) q.0.after
elsewhere set (Gather j) s s' new o q = gathered_workers set j s s' q.0
elsewhere set (PlaceAnchor j v) s s' new o q = ap (λ (c : Core). c.workers) q.0.after
elsewhere set (Persist j upto) s s' new o q = ap (λ (c : Core). c.workers) q.0.after
elsewhere set (Ack u v) s s' new o q = ap (λ (c : Core). c.workers) q.0.after
elsewhere set (Stop j upto) s s' new o q = ap (λ (c : Core). c.workers) q.0.after
elsewhere set (Resume u) s s' new o q = absurd o

module _ (set : Setting) (m n : ℕ) (P P' : Progress) where
  pub worked_streams : (w : ℕ) (whole : Bool) → WorkedPart set m n whole w P P' → P'.state.streams ≡ P.state.streams
  worked_streams w whole h = worked_part_keep set m n (λ s s'. s'.streams ≡ s.streams) (λ s. refl) (λ s t u a b. b ∙ a) (IsOwn w) (λ e s s' new o q. own_streams set w e s s' new o q) w (λ e o. o) whole P P' h

  pub worked_others : (w u : ℕ) → (u ≡ w → ⊥) → (whole : Bool) → WorkedPart set m n whole w P P' → P'.state.workers u ≡ P.state.workers u
  worked_others w u ne whole h = worked_part_keep set m n (λ s s'. s'.workers u ≡ s.workers u) (λ s. refl) (λ s t v a b. b ∙ a) (IsOwn w) (λ e s s' new o q. own_others set w u ne e s s' new o q) w (λ e o. o) whole P P' h

  pub managed_workers : (j : ℕ) (whole : Bool) → ManagedPart set m n whole j P P' → P'.state.workers ≡ P.state.workers
  managed_workers j whole h = managed_keep set m n (λ s s'. s'.workers ≡ s.workers) (λ s. refl) (λ s t u a b. b ∙ a) IsElsewhere (elsewhere set) j tt (λ u. tt) (λ u. tt) whole P P' h

  pub anchored_workers : (j : ℕ) (whole : Bool) → AnchoredPart set m n whole j P P' → P'.state.workers ≡ P.state.workers
  anchored_workers j whole h = anchored_keep set m n (λ s s'. s'.workers ≡ s.workers) (λ s. refl) (λ s t u a b. b ∙ a) IsElsewhere (elsewhere set) j (λ v. tt) whole P P' h

  pub clerked_workers : (whole : Bool) → Clerked set m n whole P P' → P'.state.workers ≡ P.state.workers
  clerked_workers whole h = clerked_keep set m n (λ s s'. s'.workers ≡ s.workers) (λ s. refl) (λ s t u a b. b ∙ a) IsElsewhere (elsewhere set) (λ w v. tt) whole P P' h

  pub removed_workers : (whole : Bool) → OneByOne set m n (DropOf set m n) whole (below SHARDS) P P' → P'.state.workers ≡ P.state.workers
  removed_workers whole h = removed_keep set m n (λ s s'. s'.workers ≡ s.workers) (λ s. refl) (λ s t u a b. b ∙ a) IsElsewhere (elsewhere set) (λ i v. tt) whole P P' h

-- so who has something to do has it still
module _ (set : Setting) (m n : ℕ) (s s' : Core) where
  pub raised_same : s'.streams ≡ s.streams → is_raised set m n s' ≡ is_raised set m n s
  raised_same e = ap (λ (f : ℕ → Stream). list_any (λ j. is_some (f j).stop) (below n)) e

  pub work_same : (u : ℕ) → s'.workers u ≡ s.workers u → is_raised set m n s' ≡ is_raised set m n s → has_work set m n s' u ≡ has_work set m n s u
  work_same u e r =
      ap (λ (wk : Worker). nat_lt u m && (is_some wk.hand || (not (is_raised set m n s') && not (is_empty wk.waiting)))) e
      ∙ ap (λ (b : Bool). nat_lt u m && (is_some (s.workers u).hand || (not b && not (is_empty (s.workers u).waiting)))) r
