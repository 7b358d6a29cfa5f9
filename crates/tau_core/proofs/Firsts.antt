-- An event that begins a call.
use Rattle.std.proofs.Common.{ℕ, ◌≡◌, true, false, List, [], length, refl, sym, ap, subst, ◌∙◌, Option}
use Rattle.std.specs.Prelude.{Some, None, is_some, slice_get}
use Rattle.tau_proc.specs.declared.proc.Proc.{Proc}
use Rattle.tau_machine.specs.Hands.{Txn, Hand, Running, Placed, Freeing}
use Rattle.tau_model.specs.History.{Act}
use Rattle.tau_machine.specs.Worker.{fresh}
use Rattle.tau_txn.specs.declared.standing.Standing.{Standing}
use Rattle.tau_txn.specs.declared.standing.Standing.TheVariants as standing
use Rattle.tau_txn.specs.Hand.{PlainHand}
use Rattle.tau_txn.specs.Read.{hand_of, phase_in, act_in}
use Rattle.tau_txn.specs.Txn.{PlainTxn, shown, shown_of, hand_in, has_joined, joined_of, joined_by, held_in, held_by}
use Rattle.std.proofs.lemmas.Option.{slice_get_within}
use Rattle.tau_core.specs.Plain.{PlainSeat}
use Rattle.tau_core.specs.State.{Plain}
use Rattle.tau_core.specs.Stands.{Stood, Sound}
use Rattle.tau_core.specs.Begins.{next_number, HasNext, RoomMade, IsRoomy, BeginsNext, Undone, seat_at}
use Rattle.tau_core.specs.Firsts.{BegunFrom, BegunUndone, Rests}
use Rattle.tau_core.specs.declared.begin.Mark.{Mark}
use Rattle.tau_core.specs.declared.event.Outcome.{Outcome}
use Rattle.tau_core.proofs.Lists.{got_same}
use Rattle.tau_core.proofs.Begins.{carried, begins_carried}
use Rattle.tau_core.proofs.Starts.{begins_of, room_stands}

apart_placed : (a : Act Txn) → Placed a ≡ Running → ⊥
apart_placed a e = cc

apart_freeing : (a : Act Txn) → Freeing a ≡ Running → ⊥
apart_freeing a e = cc

-- a call that has just begun has not joined, and holds no key
pub fresh_at : (procs : List Proc) (t : PlainTxn) (h : Hand) → hand_in procs t ≡ Some h → h.phase ≡ Running → h.held ≡ [] → (has_joined t ≡ false) × (held_in t ≡ [])
fresh_at procs t h e phase held = by_case t.hand e
  where
    at : (st : Standing) (x : PlainHand) → x.standing ≡ st → shown procs t.worker st x ≡ Some h → (joined_by st ≡ false) × (x.held ≡ [])
    at standing.Running x s f = (let g : hand_of procs t.worker x ≡ h = cc in (refl, ap (λ (y : Hand). y.held) g ∙ held))
    at standing.Quitting x s f = (let g : hand_of procs t.worker x ≡ h = cc in (refl, ap (λ (y : Hand). y.held) g ∙ held))
    at standing.Placed x s f =
        (let g : hand_of procs t.worker x ≡ h = cc in
        let bad : phase_in procs t.worker standing.Placed x ≡ Running = ap (λ (st : Standing). phase_in procs t.worker st x) (sym s) ∙ ap (λ (y : Hand). y.phase) g ∙ phase in
        absurd (apart_placed (act_in procs t.worker x) bad))
    at standing.Freeing x s f =
        (let g : hand_of procs t.worker x ≡ h = cc in
        let bad : phase_in procs t.worker standing.Freeing x ≡ Running = ap (λ (st : Standing). phase_in procs t.worker st x) (sym s) ∙ ap (λ (y : Hand). y.phase) g ∙ phase in
        absurd (apart_freeing (act_in procs t.worker x) bad))
    at standing.LeftOver x s f = cc

    by_case : (o : Option PlainHand) → shown_of procs t.worker o ≡ Some h → (joined_of o ≡ false) × (held_by o ≡ [])
    by_case None f = cc
    by_case (Some x) f = at x.standing x refl f

module _ (p p' : Plain) (w n : ℕ) (q : RoomMade w p p') where
  room_seat : (s : PlainSeat) → slice_get p'.seats w ≡ Some s → (s.txn ≡ q.seat.txn) × (s.next ≡ q.seat.next) × (s.again ≡ q.seat.again)
  room_seat s e =
      let roomier : PlainSeat = record q.seat { pending = q.pending; room = q.left } in
      let got : slice_get p'.seats w ≡ Some roomier = ap (λ (x : Plain). slice_get x.seats w) q.after ∙ got_same p.seats w roomier (slice_get_within p.seats w q.seat q.is) in
      let same : roomier ≡ s = (let f : Some roomier ≡ Some s = sym got ∙ e in cc) in
      (ap (λ (x : PlainSeat). x.txn) (sym same), ap (λ (x : PlainSeat). x.next) (sym same), ap (λ (x : PlainSeat). x.again) (sym same))

  pub room_rests : Rests p w → Rests p' w
  room_rests r s e = ap (λ (t : PlainTxn). t.hand) (room_seat s e).0 ∙ r q.seat q.is

  pub room_next : HasNext p w n → HasNext p' w n
  room_next r s e =
      let m = room_seat s e in
      (λ i. next_number (length (load_same i).calls) (record s { next = m.1 i; again = m.2 i })) ∙ r q.seat q.is
    where
      load_same : p'.load ≡ p.load
      load_same = ap (λ (x : Plain). x.load) q.after

-- the state after the beginning is sound
begun_sound : (p p' : Plain) (w n : ℕ) (g : Stood p) → BeginsNext w n p p' → IsRoomy w p → HasNext p w n → Rests p w → Sound p'
begun_sound p p' w n g q roomy next rests = (begins_carried p p' g.0 g.1 w (begins_of p p' g.0 g.1 g.2 w n q roomy next rests) (carried p g.0 g.1 g.2)).sound

-- and its seat has just begun
begun_seat : (p p' : Plain) (w n : ℕ) (g : Stood p) (q : BeginsNext w n p p') → (s : PlainSeat) → slice_get p'.seats w ≡ Some s → seat_at s
begun_seat p p' w n g q s e =
    let got : slice_get p'.seats w ≡ Some q.new = ap (λ (x : Plain). slice_get x.seats w) q.after ∙ got_same p.seats w q.new (slice_get_within p.seats w q.seat q.is) in
    let same : q.new ≡ s = (let f : Some q.new ≡ Some s = sym got ∙ e in cc) in
    subst (λ (x : PlainSeat). seat_at x) same (fresh_at p.load.procs q.new.txn (fresh q.seat.txn.width (record { number = n; call = q.call }) 0) q.begun refl refl)

room_stood : (p p' : Plain) (w : ℕ) → Stood p → RoomMade w p p' → Stood p'
room_stood p p' w g q = (g.0, g.1, room_stands p p' g.0 g.1 g.2 w q)

pub room_sound : (p p' : Plain) (w : ℕ) → Stood p → RoomMade w p p' → Sound p'
room_sound p p' w g q = (room_stood p p' w g q).2.sound

-- a call is begun in the room that was made for it: p before, r with the room, b with the call begun
pub begun_from : (p r b : Plain) (w n : ℕ) (mark : Mark) → Stood p → (made : RoomMade w p r) → IsRoomy w r → BeginsNext w n r b → ((s : PlainSeat) → slice_get r.seats w ≡ Some s → mark ≡ record { next = s.next; again = s.again }) →
    HasNext p w n → Rests p w → BegunFrom w n p mark b
begun_from p r b w n mark stood made roomy begins marks next rests =
    let g : Stood r = room_stood p r w stood made in
    record {
      as_begun = record { roomy = r; made = made; enough = roomy; begins = begins };
      marked = marks begins.seat begins.is;
      sound = begun_sound r b w n g begins roomy (room_next p r w n made next) (room_rests p r w n made rests);
      fresh = λ t same s e. begun_seat r b w n g begins s (ap (λ (l : List PlainSeat). slice_get l w) (sym same) ∙ e);
    }

-- it is begun, and undone by the mark
pub first_undone : (inner : Plain → ℕ → Outcome → Plain → Type 0) (p b t p' : Plain) (w n : ℕ) (o : Outcome) (mark : Mark) → BegunFrom w n p mark b → inner b w o t → Undone w mark.next mark.again t p' → BegunUndone inner w n p o p'
first_undone inner p b t p' w n o mark q refused undone = record {
  begun = b;
  tried = t;
  as_begun = q.as_begun;
  refused = refused;
  undone = subst (λ (m : Mark). Undone w m.next m.again t p') q.marked undone;
}

pub none_some : (o : Option PlainHand) → is_some o ≡ false → o ≡ None
none_some None e = refl
none_some (Some h) e = cc

pub some_none : (o : Option PlainHand) → is_some o ≡ true → o ≡ None → ⊥
some_none None e f = cc
some_none (Some h) e f = cc
