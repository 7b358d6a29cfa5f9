use Rattle.std.proofs.Common.{◌≡◌, ◌+◌, ◌<◌, ◌⊎◌, inl, inr, true, false, sym, ap, ◌∙◌}
use Rattle.std.specs.Prelude.{slice_index}
use Rattle.tau_core.specs.State.{Plain}
use Rattle.tau_desk.specs.Looks.{LooksOver}
use Rattle.tau_desk.specs.Seats.{PlainClerkSeat}
use Rattle.tau_desk.proofs.Words.{looks_on, sees_again}
use Rattle.tau_desk.proofs.seat.ClerkSeat.look_all.Goals as goal
use Rattle.tau_desk.proofs.seat.ClerkSeat.look_all.Goals.{then-looks, else-looks}

pub loop-stream-preserved : goal.loop-stream-preserved
loop-stream-preserved c =
    let key : Plain = c.args.desk.now.table.shared.key.value in
    let now : PlainClerkSeat = c.loop-stream.self in
    let new : PlainClerkSeat = c.looks.new.self in
    let first : PlainClerkSeat = c.args.self.now in
    let o = c.loop-stream.invariant in
    let e = c.looks.ensures in
    let on : ((c.if-looks.rose ≡ true) → (c.loop-stream.rose ≡ true) ⊎ (slice_index now.seen c.loop-stream.stream < slice_index new.seen c.loop-stream.stream)) → LooksOver key first.me.0 (c.loop-stream.stream + 1) first.seen new.seen c.if-looks.rose =
    looks_on key first.me now.me c.loop-stream.stream first.seen now.seen new.seen c.loop-stream.rose c.if-looks.rose o.looks o.sees e.sees.up e.others e.stands in record {
      sees = sees_again first.me now.me new.me first.seen now.seen new.seen o.sees e.sees;
      rest = e.rest ∙ ap (λ (s : PlainClerkSeat). record s { me = new.me; seen = new.seen }) o.rest;
      none = λ no. elim c.if-looks.branch [
        | then-looks w ↦ absurd (let bad : true ≡ false = sym w.rose-is ∙ no in cc)
        | else-looks w ↦ e.none w.if-looks.false ∙ o.none (sym w.rose-is ∙ no)
      ];
      looks = on (λ yes. elim c.if-looks.branch [
        | then-looks w ↦ inr (e.rose w.if-looks.true)
        | else-looks w ↦ inl (sym w.rose-is ∙ yes)
      ]);
    }
