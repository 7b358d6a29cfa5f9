-- A call that was begun and undone left nothing.
use Rattle.std.proofs.Common.{ℕ, ◌<◌, ◌≡◌, ◌⊎◌, inl, inr, List, length, refl, sym, ap, subst, ◌∙◌, Option}
use Rattle.std.specs.Prelude.{Some, None, slice_get, slice_set}
use Rattle.std.proofs.lemmas.Option.{slice_get_within}
use Rattle.tau_model.specs.History.{Act}
use Rattle.tau_machine.specs.Hands.{Txn}
use Rattle.tau_txn.specs.Hand.{PlainHand}
use Rattle.tau_txn.specs.Txn.{PlainTxn}
use Rattle.tau_core.specs.Plain.{PlainSeat}
use Rattle.tau_core.specs.State.{Plain}
use Rattle.tau_core.specs.View.{Hidden}
use Rattle.tau_core.specs.Stands.{Stands}
use Rattle.tau_core.specs.Steps.{Unmoved}
use Rattle.tau_core.specs.Workers.{StaysShort}
use Rattle.tau_core.specs.Begins.{RoomMade, BeginsNext, Undone}
use Rattle.tau_core.specs.Firsts.{Rests}
use Rattle.tau_core.proofs.Lists.{got_same, set_got}
use Rattle.tau_core.proofs.GatheredItems.{set_set}
use Rattle.tau_core.proofs.Starts.{room_core, room_stands}
use Rattle.tau_core.proofs.WorkerSteps.{short_unmoved}

-- room alone was made
pub room_unmoved : (p p' : Plain) (K : List (Act Txn)) (h : Hidden) (g : Stands p K h) (w : ℕ) → RoomMade w p p' → Unmoved p p' K h
room_unmoved p p' K h g w q = record { hidden = h; taken = refl; same = room_core p p' K h g w q; stands = room_stands p p' K h g w q; load = ap (λ (x : Plain). x.load) q.after }

pub unmoved_on : (p m p' : Plain) (K : List (Act Txn)) (h : Hidden) (a : Unmoved p m K h) → Unmoved m p' K a.hidden → Unmoved p p' K h
unmoved_on p m p' K h a b = record { hidden = b.hidden; taken = b.taken ∙ a.taken; same = b.same ∙ a.same; stands = b.stands; load = b.load ∙ a.load }

module _ (roomy begun : Plain) (w n : ℕ) (q : BeginsNext w n roomy begun) (rests : Rests roomy w) where
  within : w < length roomy.seats
  within = slice_get_within roomy.seats w q.seat q.is

  -- the seat is as it was
  undone_seat : (tried p' : Plain) (u : Undone w q.seat.next q.seat.again tried p') → tried.seats ≡ begun.seats → u.new ≡ q.seat
  undone_seat tried p' u same =
      let got : slice_get tried.seats w ≡ Some q.new = ap (λ (l : List PlainSeat). slice_get l w) (same ∙ ap (λ (x : Plain). x.seats) q.after) ∙ got_same roomy.seats w q.new within in
      let seat_is : q.new ≡ u.seat = (let f : Some q.new ≡ Some u.seat = sym got ∙ u.is in cc) in
      let none : q.seat.txn.hand ≡ None = rests q.seat q.is in
      let txn : u.new.txn ≡ q.seat.txn =
      u.same ∙ (λ i. record (sym seat_is i).txn { hand = u.gone i }) ∙ ap (λ (t : PlainTxn). record t { hand = None }) q.same ∙ ap (λ (o : Option PlainHand). record q.seat.txn { hand = o }) (sym none) in
      u.others ∙ ap (λ (x : PlainSeat). record x { txn = u.new.txn; next = q.seat.next; again = q.seat.again }) (sym seat_is ∙ q.others) ∙ ap (λ (t : PlainTxn). record q.seat { txn = t }) txn

  undone_seats : (tried p' : Plain) (u : Undone w q.seat.next q.seat.again tried p') → (same : tried.seats ≡ begun.seats) → slice_set tried.seats w u.new ≡ roomy.seats
  undone_seats tried p' u same =
      ap (λ (l : List PlainSeat). slice_set l w u.new) (same ∙ ap (λ (x : Plain). x.seats) q.after) ∙ set_set roomy.seats w q.new u.new
      ∙ ap (slice_set roomy.seats w) (undone_seat tried p' u same) ∙ set_got roomy.seats w q.seat q.is

  pub undone_same : (p' : Plain) → Undone w q.seat.next q.seat.again begun p' → p' ≡ roomy
  undone_same p' u = u.after ∙ (λ i. record (q.after i) { seats = undone_seats begun p' u refl i })

  pub undone_short : (tried p' : Plain) → StaysShort begun tried → Undone w q.seat.next q.seat.again tried p' → StaysShort roomy p'
  undone_short tried p' s u =
      let shards : begun.shards ≡ roomy.shards = ap (λ (x : Plain). x.shards) q.after in
      record {
        i = s.i;
        shard = s.shard;
        kept = s.kept;
        is = ap (λ l. slice_get l s.i) (sym shards) ∙ s.is;
        kept_is = s.kept_is;
        after = u.after ∙ (λ k. record (s.after k) { seats = undone_seats tried p' u (ap (λ (x : Plain). x.seats) s.after) k })
            ∙ (λ k. record (q.after k) { seats = roomy.seats; shards = slice_set (shards k) s.i s.kept });
      }

-- what was begun and found to be elsewhere, or met lack of memory, left nothing
pub undone_unmoved : (p p' : Plain) (K : List (Act Txn)) (h : Hidden) (g : Stands p K h) (w n : ℕ) (a : (roomy : Plain) × RoomMade w p roomy × ((p' ≡ roomy) ⊎ StaysShort roomy p')) → Unmoved p p' K h
undone_unmoved p p' K h g w n a =
    let made = room_unmoved p a.0 K h g w a.1 in
    by_end made a.2
  where
    by_end : (m : Unmoved p a.0 K h) → (p' ≡ a.0) ⊎ StaysShort a.0 p' → Unmoved p p' K h
    by_end m (inl e) = subst (λ (x : Plain). Unmoved p x K h) (sym e) m
    by_end m (inr s) = unmoved_on p a.0 p' K h m (short_unmoved a.0 p' K m.hidden m.stands s)
