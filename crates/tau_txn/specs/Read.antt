-- A call in hand, as the hand of a worker of the theory.
use Rattle.std.specs.Prelude.{ℕ, ◌+◌, List, [], length}
use Rattle.tau_base.specs.declared.value.Value.TheVariants.{Absent}
use Rattle.tau_proc.specs.declared.proc.Proc.{Proc}
use Rattle.tau_proc.specs.declared.reply.Reply.TheVariants as reply
use Rattle.tau_proc.specs.Effect.{Effect}
use Rattle.tau_model.specs.History.{Act}
use Rattle.tau_machine.specs.Stage.{Stage, Wants, Ends, stage}
use Rattle.tau_machine.specs.Hands as theory
use Rattle.tau_txn.specs.declared.standing.Standing.{Standing}
use Rattle.tau_txn.specs.declared.standing.Standing.TheVariants.{Running, Quitting, Placed, Freeing, LeftOver}
use Rattle.tau_txn.specs.Hand.{PlainHand}

-- what a call that has ended does
abbrev pub effect_in : Stage → Effect
effect_in (Wants rs k) = record { reads = rs; writes = []; reply = reply.Ok Absent }
effect_in (Ends e) = e

abbrev pub effect_of : List Proc → PlainHand → Effect
effect_of procs h = effect_in (stage procs h.call h.seen)

-- the act that a worker's call is from its commit on
abbrev pub act_in : List Proc → ℕ → PlainHand → Act theory.Txn
act_in procs w h = record {
  call = record { call = record { number = h.number; call = h.call }; worker = w; place = record { stream = h.stream; start = h.start; past = h.past; dep = h.dep }; anchor = h.anchor };
  effect = effect_of procs h;
}

-- a call that is left over is no longer in hand
abbrev pub phase_in : List Proc → ℕ → Standing → PlainHand → theory.Phase
phase_in procs w Running h = theory.Running
phase_in procs w Quitting h = theory.Quitting
phase_in procs w Placed h = theory.Placed (act_in procs w h)
phase_in procs w Freeing h = theory.Freeing (act_in procs w h)
phase_in procs w LeftOver h = theory.Quitting

abbrev pub hand_of : List Proc → ℕ → PlainHand → theory.Hand
hand_of procs w h = record {
  call = record { number = h.number; call = h.call };
  tries = h.tries;
  given_up = h.given_up;
  phase = phase_in procs w h.standing h;
  dep = h.dep;
  held = h.held;
  seen = h.seen;
}

-- the act that an updating call becomes by a place that starts here
abbrev pub placed_act : List Proc → ℕ → ℕ → ℕ → PlainHand → Act theory.Txn
placed_act procs w stream start h = act_in procs w (record h { stream = stream; start = start; past = start + length h.bytes })

-- the act that a read-only call becomes
abbrev pub reading_act : List Proc → ℕ → PlainHand → Act theory.Txn
reading_act procs w h = act_in procs w (record h { anchor = 0; stream = 0; start = 0; past = 0 })
