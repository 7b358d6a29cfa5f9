use Rattle.std.proofs.Common.{◌≡◌, ◌<◌, ℕ, List, length, refl, sym, ap, subst, ◌∙◌}
use Rattle.std.specs.Prelude.{Some, slice_get, slice_set}
use Rattle.std.proofs.lemmas.Option.{slice_get_read, slice_get_within}
use Rattle.tau_core.specs.Plain.{PlainSeat}
use Rattle.tau_core.specs.State.{plain}
use Rattle.tau_core.proofs.Found.{seat_in}
use Rattle.tau_core.proofs.resume.take_back.Goals as goal

pub index_mut-seat-requires : goal.index_mut-seat-requires
index_mut-seat-requires c = subst (λ (n : ℕ). c.args.left.worker < n) (sym c.args.state.now.seats.ok.0) (slice_get_within c.args.state.now.seats.items c.args.left.worker c.requires.there.seat c.requires.there.is)

pub remove-requires : goal.remove-requires
remove-requires c =
    let there = c.requires.there in
    let within : c.args.left.worker < length c.args.state.now.seats.items = slice_get_within c.args.state.now.seats.items c.args.left.worker there.seat there.is in
    let is : slice_get c.args.state.now.seats.items c.args.left.worker ≡ Some (seat_in c.seat.inside) =
    slice_get_read c.args.state.now.seats.items (length c.args.state.now.seats.items) c.args.left.worker c.index_mut-seat.result.now refl within c.index_mut-seat.ensures.value ∙ ap Some (sym c.seat.view_is) in
    let same : there.seat ≡ seat_in c.seat.inside = (let f : Some there.seat ≡ Some (seat_in c.seat.inside) = sym there.is ∙ is in cc) in
    subst (λ (s : PlainSeat). c.args.left.at < length s.left) same (slice_get_within there.seat.left c.args.left.at c.args.left.number there.number)

pub returns : goal.returns
returns c =
    let there = c.requires.there in
    let within : c.args.left.worker < length c.args.state.now.seats.items = slice_get_within c.args.state.now.seats.items c.args.left.worker there.seat there.is in
    let is : slice_get c.args.state.now.seats.items c.args.left.worker ≡ Some (seat_in c.seat.inside) =
    slice_get_read c.args.state.now.seats.items (length c.args.state.now.seats.items) c.args.left.worker c.index_mut-seat.result.now refl within c.index_mut-seat.ensures.value ∙ ap Some (sym c.seat.view_is) in
    let same : there.seat ≡ seat_in c.seat.inside = (let f : Some there.seat ≡ Some (seat_in c.seat.inside) = sym there.is ∙ is in cc) in
    record {
      seat = seat_in c.seat.inside;
      room = c.remove.new.self.room;
      is = is;
      number = subst (λ (s : PlainSeat). slice_get s.left c.args.left.at ≡ Some c.args.left.number) same there.number;
      rooms = c.remove.ensures.room;
      after = ap (λ (l : List ℕ). record (plain c.args.state.now) { seats = slice_set c.args.state.now.seats.items c.args.left.worker (record (seat_in c.seat.inside) { again = Some c.args.left.number; left = l; room = c.remove.new.self.room }) }) c.remove.ensures.numbers;
    }
