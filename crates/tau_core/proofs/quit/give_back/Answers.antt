use Rattle.std.proofs.Common.{ℕ, ◌≡◌, Bool, true, false, inl, inr, refl, sym, ap, subst, ◌∙◌}
use Rattle.std.specs.Prelude.{slice_set}
use Rattle.tau_base.specs.Shards.{shard_number}
use Rattle.tau_txn.specs.declared.action.Action.{Action}
use Rattle.tau_txn.specs.Next.{IsForWent}
use Rattle.tau_machine.specs.Worker.{hand_quit, settled}
use Rattle.tau_core.specs.State.{Plain, plain}
use Rattle.tau_core.proofs.Found.{seat_in, found_seat, found_whole, found_shard_of}
use Rattle.tau_core.proofs.Hands.{some_hand}
use Rattle.tau_core.proofs.Holders.{is_held}
use Rattle.tau_core.proofs.Leaving.{leaving}
use Rattle.tau_core.proofs.quit.give_back.Goals as goal

pub quit-requires-clause-held : goal.quit-requires-clause-held
quit-requires-clause-held c =
    let g = c.requires.stood in
    let is = found_whole c.args.state.now c.args.worker c.index_mut-seat.result.now g.2.sound c.requires.there c.index_mut-seat.ensures.value in
    let at = c.requires.at c.index_mut-seat.result.now is in
    let m = at.1 in
    let shard_is = found_shard_of c.args.state.now c.args.key c.shard_of.result c.from.result c.index_mut-part.result.now g.2.sound c.from.ensures c.shard_of.ensures.same c.shard_of.ensures.small c.index_mut-part.ensures.value in
    is_held (plain c.args.state.now) g.0 g.1 g.2 c.args.worker c.index_mut-seat.result.now m.hand c.index_mut-part.result.now c.args.key m.mode is m.is shard_is m.held

pub went-requires-clause-rest : goal.went-requires-clause-rest
went-requires-clause-rest c =
    let g = c.requires.stood in
    let is = found_seat c.args.state.now c.args.worker c.index_mut-seat.result.now c.seat.inside g.2.sound c.requires.there c.index_mut-seat.ensures.value c.seat.view_is in
    let at = c.requires.at (seat_in c.seat.inside) is in
    subst (λ (a : Action). IsForWent a) (sym at.0) tt

pub went-requires-clause-run : goal.went-requires-clause-run
went-requires-clause-run c =
    let g = c.requires.stood in
    let is = found_seat c.args.state.now c.args.worker c.index_mut-seat.result.now c.seat.inside g.2.sound c.requires.there c.index_mut-seat.ensures.value c.seat.view_is in
    let o = g.2.sound.seat c.args.worker (seat_in c.seat.inside) is in
    o.txn.runs

pub leave-requires-clause-room : goal.leave-requires-clause-room
leave-requires-clause-room c =
    let g = c.requires.stood in
    let is = found_seat c.args.state.now c.args.worker c.index_mut-seat.result.now c.seat.inside g.2.sound c.requires.there c.index_mut-seat.ensures.value c.seat.view_is in
    let o = g.2.sound.seat c.args.worker (seat_in c.seat.inside) is in
    let at = c.requires.at (seat_in c.seat.inside) is in
    let m = at.1 in
    λ e. o.store.leaves (some_hand c.args.state.now.load.procs c.seat.inside.txn m.hand m.is)

pub returns : goal.returns
returns c =
    let g = c.requires.stood in
    let is = found_seat c.args.state.now c.args.worker c.index_mut-seat.result.now c.seat.inside g.2.sound c.requires.there c.index_mut-seat.ensures.value c.seat.view_is in
    let o = g.2.sound.seat c.args.worker (seat_in c.seat.inside) is in
    let at = c.requires.at (seat_in c.seat.inside) is in
    let m = at.1 in
    let number : c.from.result ≡ shard_number c.args.key = c.from.ensures ∙ c.shard_of.ensures.same in
    let shard_is = found_shard_of c.args.state.now c.args.key c.shard_of.result c.from.result c.index_mut-part.result.now g.2.sound c.from.ensures c.shard_of.ensures.same c.shard_of.ensures.small c.index_mut-part.ensures.value in
    let p : Plain = plain c.args.state.now in
    let settles = leaving c.args.state.now.load c.args.worker (seat_in c.seat.inside) c.leave.new.seat m.hand (hand_quit m.hand c.args.key false) c.went.new.self o m.is refl refl c.went.ensures.same
    (λ wk. c.went.ensures.quit wk m.hand c.args.key at.0 m.is ∙ ap (λ (b : Bool). settled c.seat.inside.txn.width wk (hand_quit m.hand c.args.key b)) o.txn.leaving ∙ ap (λ (n : ℕ). settled n wk (hand_quit m.hand c.args.key false)) o.txn.width) c.went.ensures.runs (c.went.ensures.stays o.txn.leaving) c.leave.ensures in
    record {
      seat = seat_in c.seat.inside;
      shard = c.index_mut-part.result.now;
      hand = m.hand;
      key = c.args.key;
      mode = m.mode;
      new = c.leave.new.seat;
      quit = c.quit.new.self;
      is = is;
      shard_is = shard_is;
      hand_is = m.is;
      phase = elim m.phase [ inl e ↦ e | inr e ↦ absurd (let bad : true ≡ false = sym e.1 ∙ o.txn.leaving in cc) ];
      held = m.held;
      lowest = m.lowest;
      quits = c.quit.ensures;
      settles = settles.worker;
      keeps = settles.keeps;
      sound = settles.sound;
      after = ap (λ (n : ℕ). record p { seats = slice_set p.seats c.args.worker c.leave.new.seat; shards = slice_set p.shards n c.quit.new.self }) number;
    }
