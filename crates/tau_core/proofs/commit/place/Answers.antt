use Rattle.std.proofs.Common.{ℕ, ◌<◌, List, length, refl, sym, ap, subst, arith}
use Rattle.tau_base.specs.Modes.{format_of}
use Rattle.tau_base.proofs.Modes.{streams_most}
use Rattle.tau_core.specs.Plain.{PlainSeat}
use Rattle.tau_core.specs.State.{Plain, plain}
use Rattle.tau_core.specs.Stands.{anchors_at}
use Rattle.tau_core.specs.Pieces.{Names}
use Rattle.tau_core.specs.Commits.{MakesRoom}
use Rattle.tau_core.proofs.Lists.{set_got}
use Rattle.tau_txn.specs.declared.action.Action.TheVariants as action
use Rattle.tau_core.proofs.PhaseLaws.{means_phase}
use Rattle.tau_core.proofs.commit.place.Goals as goal
use Rattle.tau_base.proofs.Lists.{some_at}

no_room : (p : Plain) (w : ℕ) → w < length p.seats → MakesRoom w p p
no_room p w lt =
    let found = some_at p.seats w lt in
    record { seat = found.0; outbox = found.0.outbox; is = found.1; pieces = refl; room = (omega arith); after = ap (λ (l : List PlainSeat). record p { seats = l }) (sym (set_got p.seats w found.0 found.1)) }

pub returns-then-start : goal.returns-then-start
returns-then-start c = (
  no_room (plain c.args.state.now) c.args.worker (let e = c.requires.sound.seats in let l = c.requires.there in omega arith),
  λ s e.
      let o = c.requires.sound.seat c.args.worker s e in
      let at = c.requires.at s e in
      means_phase c.args.state.now.load.procs s.txn (action.Commit at.0) at.2 o.txn.leaving o.txn.stays,
)

pub returns-then-not-newest : goal.returns-then-not-newest
returns-then-not-newest c = (
  no_room (plain c.args.state.now) c.args.worker (let e = c.requires.sound.seats in let l = c.requires.there in omega arith),
  λ s e.
      let o = c.requires.sound.seat c.args.worker s e in
      let at = c.requires.at s e in
      means_phase c.args.state.now.load.procs s.txn (action.Commit at.0) at.2 o.txn.leaving o.txn.stays,
)

pub place_above-requires-clause-names : goal.place_above-requires-clause-names
place_above-requires-clause-names c =
    subst (λ (j : ℕ). Names c.args.state.now.load j (anchors_at (plain c.args.state.now) j) c.newest.new.named.number c.newest.new.named.lv) c.stream_of-stream.ensures.same (c.newest.ensures.names c.if-not-newest.false)

pub zero-requires-clause-high : goal.zero-requires-clause-high
zero-requires-clause-high c = omega (arith, c.requires.sound.streams_high, streams_most (format_of c.args.state.now.load.mode))
