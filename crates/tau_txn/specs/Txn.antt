-- A worker with its call in hand, as plain data, and what the core's worker shows of it.
use Rattle.std.specs.Prelude.{ℕ, ◌%◌, Bool, true, false, Option, Some, None, List, [], replicate}
use Rattle.tau_base.specs.declared.value.Key.{Key}
use Rattle.tau_base.specs.declared.value.Mode.{Mode}
use Rattle.tau_base.specs.declared.value.LogMode.{LogMode}
use Rattle.tau_proc.specs.declared.proc.Proc.{Proc}
use Rattle.tau_machine.specs.Hands as theory
use Rattle.tau_machine.specs.Worker.{Worker}
use Rattle.tau_txn.specs.declared.standing.Standing.{Standing}
use Rattle.tau_txn.specs.declared.standing.Standing.TheVariants.{Running, Quitting, Placed, Freeing, LeftOver}
use Rattle.tau_txn.specs.Hand.{PlainHand}
use Rattle.tau_txn.specs.Read.{hand_of}
use Rattle.tau_txn.specs.Steps.{worker_with}
use Rattle.tau_txn.specs.Progress.{IsRunBy}

-- the worker's number, how many streams there are, what records hold, and the call in hand
pub record PlainTxn : Type 0 where
  pub worker : ℕ
  pub width : ℕ
  pub mode : LogMode
  pub hand : Option PlainHand

-- a call that is left over is no longer in the hand of the core's worker
abbrev pub shown : List Proc → ℕ → Standing → PlainHand → Option theory.Hand
shown procs w LeftOver h = None
shown procs w _ h = Some (hand_of procs w h)

abbrev pub shown_of : List Proc → ℕ → Option PlainHand → Option theory.Hand
shown_of procs w None = None
shown_of procs w (Some h) = shown procs w h.standing h

-- the hand of the core's worker
abbrev pub hand_in : List Proc → PlainTxn → Option theory.Hand
hand_in procs t = shown_of procs t.worker t.hand

abbrev pub worker_in : List Proc → ℕ → Worker → Option PlainHand → Worker
worker_in procs w wk None = record wk { hand = None }
worker_in procs w wk (Some h) = worker_with procs w wk h

-- the core's worker with this in hand, or after the others that are left over
abbrev pub worker_of : List Proc → Worker → PlainTxn → Worker
worker_of procs wk t = worker_in procs t.worker wk t.hand

-- the call in hand is one of these procedures', and has come as far as the values seen lead
abbrev pub runs_in : List Proc → Option PlainHand → Type 0
runs_in procs None = Unit {0}
runs_in procs (Some h) = IsRunBy procs h

abbrev pub RunsBy : List Proc → PlainTxn → Type 0
RunsBy procs t = runs_in procs t.hand

-- the stream of the worker's records
abbrev pub stream_in : PlainTxn → ℕ
stream_in t = t.worker % t.width

-- what the calls of a worker answer for the call in hand

abbrev pub number_by : Option PlainHand → Option ℕ
number_by None = None
number_by (Some h) = Some h.number

abbrev pub number_in : PlainTxn → Option ℕ
number_in t = number_by t.hand

abbrev pub dep_by : ℕ → Option PlainHand → List ℕ
dep_by width None = replicate width 0
dep_by width (Some h) = h.dep

abbrev pub dep_in : PlainTxn → List ℕ
dep_in t = dep_by t.width t.hand

-- the number of the anchor that the record names, 0 for none
abbrev pub anchor_by : Option PlainHand → ℕ
anchor_by None = 0
anchor_by (Some h) = h.anchor

abbrev pub anchor_in : PlainTxn → ℕ
anchor_in t = anchor_by t.hand

-- the bytes of the record, none before there is one
abbrev pub bytes_by : Option PlainHand → List ℕ
bytes_by None = []
bytes_by (Some h) = h.bytes

abbrev pub bytes_in : PlainTxn → List ℕ
bytes_in t = bytes_by t.hand

-- the keys that it holds, ascending
abbrev pub held_by : Option PlainHand → List (Key × Mode)
held_by None = []
held_by (Some h) = h.held

abbrev pub held_in : PlainTxn → List (Key × Mode)
held_in t = held_by t.hand

-- whether it is to be given up
abbrev pub leaves_by : Option PlainHand → Bool
leaves_by None = false
leaves_by (Some h) = h.leaves

abbrev pub leaves_in : PlainTxn → Bool
leaves_in t = leaves_by t.hand

-- whether the call has joined the committed ones
abbrev pub joined_by : Standing → Bool
joined_by Running = false
joined_by Quitting = false
joined_by Placed = true
joined_by Freeing = true
joined_by LeftOver = false

abbrev pub joined_of : Option PlainHand → Bool
joined_of None = false
joined_of (Some h) = joined_by h.standing

abbrev pub has_joined : PlainTxn → Bool
has_joined t = joined_of t.hand

-- the vector that it frees its keys with
abbrev pub lv_by : Standing → PlainHand → List ℕ
lv_by Running h = h.dep
lv_by Quitting h = h.dep
lv_by Placed h = h.lv
lv_by Freeing h = h.lv
lv_by LeftOver h = h.dep

abbrev pub lv_of_hand : ℕ → Option PlainHand → List ℕ
lv_of_hand width None = replicate width 0
lv_of_hand width (Some h) = lv_by h.standing h

abbrev pub lv_in : PlainTxn → List ℕ
lv_in t = lv_of_hand t.width t.hand
