use Rattle.std.proofs.Common.{◌≡◌, length, refl, sym, ap, ◌∙◌}
use Rattle.std.specs.Prelude.{Some, slice_get}
use Rattle.std.proofs.lemmas.Option.{slice_get_read}
use Rattle.tau_core.proofs.Found.{seat_in}
use Rattle.tau_core.proofs.begin.undo.Goals as goal

pub give_up-requires : goal.give_up-requires
give_up-requires c =
    let is : slice_get c.args.state.now.seats.items c.args.worker ≡ Some (seat_in c.seat.inside) =
    slice_get_read c.args.state.now.seats.items (length c.args.state.now.seats.items) c.args.worker c.index_mut-seat.result.now refl c.requires.there c.index_mut-seat.ensures.value ∙ ap Some (sym c.seat.view_is) in
    (c.requires.fresh (seat_in c.seat.inside) is).0

pub returns : goal.returns
returns c =
    let is : slice_get c.args.state.now.seats.items c.args.worker ≡ Some (seat_in c.seat.inside) =
    slice_get_read c.args.state.now.seats.items (length c.args.state.now.seats.items) c.args.worker c.index_mut-seat.result.now refl c.requires.there c.index_mut-seat.ensures.value ∙ ap Some (sym c.seat.view_is) in
    record {
      seat = seat_in c.seat.inside;
      new = record (seat_in c.seat.inside) { txn = c.give_up.new.self; next = c.args.mark.next; again = c.args.mark.again };
      is = is;
      gone = c.give_up.ensures.gone (c.requires.fresh (seat_in c.seat.inside) is).1;
      same = c.give_up.ensures.same;
      others = refl;
      after = refl;
    }
