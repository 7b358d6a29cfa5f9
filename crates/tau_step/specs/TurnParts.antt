-- What a turn does in the style Locking, whole or a first part of it.
use Rattle.std.specs.Prelude.{ℕ, ◌≡◌, ◌⊎◌, ◌&&◌, ◌||◌, not, nat_lt, Bool, true, false, is_some, List, [], ◌∷◌}
use Rattle.std.specs.List.{list_any}
use Rattle.tau_base.specs.Vectors.{covers}
use Rattle.tau_base.specs.declared.limits.TheConstants.{SHARDS}
use Rattle.tau_machine.specs.State.{Setting, Ticket, Core}
use Rattle.tau_machine.specs.Events.{Event, Drop}
use Rattle.tau_machine.specs.Waits.{BusyHasHolder}
use Rattle.tau_text.specs.declared.load.Turn.{Turn}
use Rattle.tau_text.specs.declared.load.Turn.TheVariants as turn
use Rattle.tau_run.specs.Run.{below}
use Rattle.tau_run.specs.Turns as run
use Rattle.tau_run.specs.Turns.{Progress, Stays, IfSo, IsOwn, is_empty}

-- m workers, n streams
module _ (set : Setting) (m n : ℕ) where
  -- the worker has something to do: a call in hand, or a call to begin and no disk has failed
  abbrev pub has_work : Core → ℕ → Bool
  has_work s w = nat_lt w m && (is_some (s.workers w).hand || (not (run.is_raised set m n s) && not (is_empty (s.workers w).waiting)))

  abbrev pub is_busy : Core → Bool
  is_busy s = list_any (has_work s) (below m)

  -- the next action of the worker
  abbrev pub Worked : ℕ → Progress → Progress → Type 0
  Worked w p p' =
      IfSo (has_work p.state w)
      ((e : Event) × IsOwn w e × (q : run.Goes set m n e p p') × run.NamesNewest set m n e p.state q.new × BusyHasHolder set e p.state × run.QuitsLowest set m n e p.state p'.state q.new q.leads)
      (Stays p p')

  -- the manager gathers and flushes
  abbrev pub Managed : ℕ → Progress → Progress → Type 0
  Managed j p p' = IfSo (run.is_going set m n p.state j) ((q : Progress) × run.Gathers set m n j p q × run.Flushed set m n j q p') (Stays p p')

  -- all pending calls of the worker that are persisted are acknowledged, in the order in which they were put; `whole` is false where it was left undone
  pub data Cleared (w : ℕ) : Bool → Progress → Progress → Type 0 where
    none : {p : Progress} → list_any (λ (k : Ticket). covers p.state.plv k.lv) (p.state.outboxes w).pending ≡ false → Cleared w true p p
    next : {whole : Bool} {p q p' : Progress} → run.Tells set m n w p q → Cleared w whole q p' → Cleared w whole p p'
    cut : {p : Progress} → Cleared w false p p

  -- the steps of these, one after another; of a part the last one may be left undone
  abbrev pub OneByOne : {A : Type 0} → (Bool → A → Progress → Progress → Type 0) → Bool → List A → Progress → Progress → Type 0
  OneByOne step whole [] p p' = Stays p p'
  OneByOne step true (x ∷ xs) p p' = (q : Progress) × step true x p q × OneByOne step true xs q p'
  OneByOne step false (x ∷ xs) p p' = step false x p p' ⊎ ((q : Progress) × step true x p q × OneByOne step false xs q p')

  -- the clerk goes through the workers
  abbrev pub Clerked : Bool → Progress → Progress → Type 0
  Clerked whole p p' = OneByOne (λ b w. Cleared w b) whole (below m) p p'

  abbrev pub DropOf : Bool → ℕ → Progress → Progress → Type 0
  DropOf true i p p' = run.Goes set m n (Drop i p.state.plv) p p'
  DropOf false i p p' = Stays p p'

  -- a part of a turn that is one event, or a gathering and a flush
  abbrev pub WorkedPart : Bool → ℕ → Progress → Progress → Type 0
  WorkedPart true w p p' = Worked w p p'
  WorkedPart false w p p' = Stays p p'

  abbrev pub ManagedPart : Bool → ℕ → Progress → Progress → Type 0
  ManagedPart true j p p' = Managed j p p'
  ManagedPart false j p p' = Stays p p' ⊎ IfSo (run.is_going set m n p.state j) (run.Gathers set m n j p p') (Stays p p')

  abbrev pub AnchoredPart : Bool → ℕ → Progress → Progress → Type 0
  AnchoredPart true j p p' = run.Anchored set m n j p p'
  AnchoredPart false j p p' = Stays p p'

  -- one turn, whole or a part of it
  abbrev pub Turned : Bool → Turn → Progress → Progress → Type 0
  Turned whole (turn.Worker w) p p' = WorkedPart whole w p p'
  Turned whole (turn.Manager j) p p' = ManagedPart whole j p p'
  Turned whole (turn.Anchor j) p p' = AnchoredPart whole j p p'
  Turned whole turn.Clerk p p' = Clerked whole p p'
  Turned whole turn.Drop p p' = OneByOne DropOf whole (below SHARDS) p p'
