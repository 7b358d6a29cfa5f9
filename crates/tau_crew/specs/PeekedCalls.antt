-- What an optimistic worker commits is what its call came to on the values that it peeked.
use Rattle.std.specs.Prelude.{◌≡◌, false, Some, List, [], ◌∷◌, ◌++◌}
use Rattle.tau_base.specs.declared.value.Key.{Key}
use Rattle.tau_base.specs.declared.value.Value.{Value}
use Rattle.tau_proc.specs.Effect.{Effect}
use Rattle.tau_machine.specs.Hands.{Hand, Running}
use Rattle.tau_machine.specs.Stage.{Ends, Wants, stage}
use Rattle.tau_txn.specs.Txn.{hand_in, leaves_in}
use Rattle.tau_core.specs.State.{Plain}
use Rattle.tau_run.specs.Fits.{Fits}
use Rattle.tau_desk.specs.Peeks.{LocksSeenOn}
use Rattle.tau_desk.specs.Seats.{PlainWorkerSeat}
use Rattle.tau_desk.specs.Works.{BeginsNext, QuitsOn}
use Rattle.tau_desk.specs.declared.work.Acted.TheVariants as acted

module _ (origin : Plain) where
  -- what was peeked fits the call on the seat: one that runs has seen under its locks the first of it, one that quits has nothing peeked
  abbrev pub FitsPeeked : List (Key × Value) → PlainWorkerSeat → Type 0
  FitsPeeked seen s = Fits origin.load.procs seen (hand_in origin.load.procs s.work.txn)

  -- The steps of an optimistic worker keep it so, and a call that has all its values commits what it came to on those peeked.
  pub record PeekedIsCommitted : Type 0 where
    pub begins : (s s' : PlainWorkerSeat) → BeginsNext origin.load s.work s'.work → FitsPeeked [] s'
    pub peeks : (seen reads : List (Key × Value)) (s : PlainWorkerSeat) (h : Hand) (key : Key) (value : Value) → hand_in origin.load.procs s.work.txn ≡ Some h → h.phase ≡ Running → stage origin.load.procs h.call.call seen ≡ Wants reads key → FitsPeeked seen s → FitsPeeked (seen ++ (key, value) ∷ []) s
    pub locks : (seen : List (Key × Value)) (s s' : PlainWorkerSeat) → LocksSeenOn origin seen s s' acted.Went → FitsPeeked seen s → FitsPeeked seen s'
    pub busy : (seen : List (Key × Value)) (s s' : PlainWorkerSeat) → LocksSeenOn origin seen s s' acted.Busy → FitsPeeked seen s → FitsPeeked [] s'
    pub quits : (s s' : PlainWorkerSeat) → leaves_in s.work.txn ≡ false → QuitsOn origin.load s s' acted.Went → FitsPeeked [] s → FitsPeeked [] s'
    pub commits : (seen : List (Key × Value)) (s : PlainWorkerSeat) (h : Hand) (e : Effect) → hand_in origin.load.procs s.work.txn ≡ Some h → h.phase ≡ Running → stage origin.load.procs h.call.call h.seen ≡ Ends e → FitsPeeked seen s →
        (h.seen ≡ seen) × (stage origin.load.procs h.call.call seen ≡ Ends e)
