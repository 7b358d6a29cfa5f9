-- The act of a call that frees its keys, and the room of the committed calls.
use Rattle.std.proofs.Common.{ℕ, ◌+◌, ◌≡◌, ◌≤◌, Bool, true, false, inl, inr, List, [], ◌∷◌, ◌++◌, refl, sym, ap, subst, ◌∙◌, Option, arith}
use Rattle.std.specs.Prelude.{Some, None, slice_get, slice_set, is_some, if◌then◌else◌}
use Rattle.tau_proc.specs.declared.proc.Proc.{Proc}
use Rattle.tau_model.specs.History.{Act}
use Rattle.tau_model.specs.declared.committed.Committed.{Committed}
use Rattle.tau_machine.specs.Hands.{Txn, Hand, Phase, Running, Quitting, Placed, Freeing, act_of, committed_of}
use Rattle.tau_txn.specs.declared.standing.Standing.{Standing}
use Rattle.tau_txn.specs.declared.standing.Standing.TheVariants as standing
use Rattle.tau_txn.specs.Hand.{PlainHand}
use Rattle.tau_txn.specs.Read.{act_in, phase_in, hand_of}
use Rattle.tau_txn.specs.Txn.{PlainTxn, shown, shown_of, hand_in, number_in, number_by}
use Rattle.tau_txn.specs.Next.{FreesBy, Reads}
use Rattle.tau_core.specs.declared.state.Load.{Load}
use Rattle.tau_core.specs.Plain.{PlainSeat}
use Rattle.tau_core.specs.State.{Plain}
use Rattle.tau_core.specs.Stands.{is_open, open_calls}
use Rattle.tau_core.specs.Frees.{JoinsBy}
use Rattle.tau_core.proofs.Seats.{one_open, open_set}

-- what is kept of a call that frees its keys, put after the others
pub kept_into : (procs : List Proc) (t : PlainTxn) (hand : Hand) (act : Act Txn) (b : Bool) (old new : List Committed) → FreesBy procs b t.worker hand act →
    ((a : Act Txn) → act_of hand.phase ≡ Some a → new ≡ old ++ committed_of a ∷ []) → ((a : Act Txn) → Reads procs t.worker hand a → new ≡ old ++ committed_of a ∷ []) → new ≡ old ++ committed_of act ∷ []
kept_into procs t hand act true old new q joined reading = joined act (ap act_of q)
kept_into procs t hand act false old new q joined reading = reading act q

pub joins_on : (l : Load) (w : ℕ) (hand : Hand) (act : Act Txn) (b : Bool) (t : PlainTxn) → t.worker ≡ w → b ≡ true → FreesBy l.procs b t.worker hand act → JoinsBy l w hand act []
joins_on l w hand act true t e f q = inl (q, refl)
joins_on l w hand act false t e f q = absurd (let bad : false ≡ true = f in cc)

pub joins_new : (l : Load) (w : ℕ) (hand : Hand) (act : Act Txn) (b : Bool) (t : PlainTxn) → t.worker ≡ w → b ≡ false → FreesBy l.procs b t.worker hand act → JoinsBy l w hand act (committed_of act ∷ [])
joins_new l w hand act true t e f q = absurd (let bad : true ≡ false = f in cc)
joins_new l w hand act false t e f q = inr (subst (λ (n : ℕ). Reads l.procs n hand act) e q, refl)

pub one_none : (l : Load) (s : PlainSeat) (h : Hand) (t : Act Txn) → hand_in l.procs s.txn ≡ Some h → act_of h.phase ≡ Some t → one_open l s ≡ 0
one_none l s h t is joined =
    let e : is_open (hand_in l.procs s.txn) ≡ false = ap is_open is ∙ ap (λ (o : Option (Act Txn)). if is_some o then false else true) joined in
    rw e refl

pub one_one : (l : Load) (s : PlainSeat) (h : Hand) → hand_in l.procs s.txn ≡ Some h → h.phase ≡ Running → one_open l s ≡ 1
one_one l s h is runs =
    let e : is_open (hand_in l.procs s.txn) ≡ true = ap is_open is ∙ ap (λ p. is_open (Some (record h { phase = p }))) runs in
    rw e refl

module _ (p : Plain) (w : ℕ) (seat new : PlainSeat) (hand : Hand) (act : Act Txn) (is : slice_get p.seats w ≡ Some seat) (hand_is : hand_in p.load.procs seat.txn ≡ Some hand)
    (none : one_open p.load new ≡ 0) where
  -- nothing joins, and nobody needs more room
  pub rooms_on : open_calls p.load p.seats ≤ p.room → open_calls p.load (slice_set p.seats w new) ≤ p.room
  rooms_on room = let o = open_set p.load p.seats w seat new is in omega arith

  -- where the call joins by this there is room for it, and enough is left
  pub room_new : hand.phase ≡ Running → open_calls p.load p.seats ≤ p.room → 1 ≤ p.room
  room_new runs room = let o = open_set p.load p.seats w seat new is in let e = one_one p.load seat hand hand_is runs in omega arith

  pub rooms_new : (left : ℕ) → hand.phase ≡ Running → open_calls p.load p.seats ≤ p.room → p.room ≤ left + 1 → open_calls p.load (slice_set p.seats w new) ≤ left
  rooms_new left runs room more = let o = open_set p.load p.seats w seat new is in let e = one_one p.load seat hand hand_is runs in omega arith

pub joined_none : (l : Load) (s : PlainSeat) (h : Hand) (t : Act Txn) → hand_in l.procs s.txn ≡ Some h → h.phase ≡ Freeing t → one_open l s ≡ 0
joined_none l s h t is e = one_none l s h t is (ap act_of e)

pub reads_phase : (procs : List Proc) (b : Bool) (w : ℕ) (hand : Hand) (act : Act Txn) → b ≡ false → FreesBy procs b w hand act → hand.phase ≡ Running
reads_phase procs true w hand act f q = absurd (let bad : true ≡ false = f in cc)
reads_phase procs false w hand act f q = q.phase

-- a call that has joined the committed ones and frees its keys
pub freeing_on : (procs : List Proc) (b : Bool) (w : ℕ) (hand : Hand) (act : Act Txn) → b ≡ true → FreesBy procs b w hand act → hand.phase ≡ Freeing act
freeing_on procs true w hand act f q = q
freeing_on procs false w hand act f q = absurd (let bad : false ≡ true = f in cc)

-- has the number of its act
pub number_freed : (procs : List Proc) (t : PlainTxn) (hand : Hand) (act : Act Txn) → hand_in procs t ≡ Some hand → hand.phase ≡ Freeing act → number_in t ≡ Some act.call.call.number
number_freed procs t hand act is freeing = by_hand t.hand is
  where
    by_phase : (st : Standing) (x : PlainHand) → phase_in procs t.worker st x ≡ Freeing act → x.number ≡ act.call.call.number
    by_phase standing.Running x e = absurd (let bad : ◌≡◌ {A = Phase} Running (Freeing act) = e in cc)
    by_phase standing.Quitting x e = absurd (let bad : ◌≡◌ {A = Phase} Quitting (Freeing act) = e in cc)
    by_phase standing.Placed x e = absurd (let bad : ◌≡◌ {A = Phase} (Placed (act_in procs t.worker x)) (Freeing act) = e in cc)
    by_phase standing.Freeing x e = (let f : ◌≡◌ {A = Phase} (Freeing (act_in procs t.worker x)) (Freeing act) = e in let g : act_in procs t.worker x ≡ act = cc in ap (λ (y : Act Txn). y.call.call.number) g)
    by_phase standing.LeftOver x e = absurd (let bad : ◌≡◌ {A = Phase} Quitting (Freeing act) = e in cc)

    by_standing : (st : Standing) (x : PlainHand) → shown procs t.worker st x ≡ Some hand → hand_of procs t.worker x ≡ hand
    by_standing standing.Running x e = cc
    by_standing standing.Quitting x e = cc
    by_standing standing.Placed x e = cc
    by_standing standing.Freeing x e = cc
    by_standing standing.LeftOver x e = absurd (let bad : None ≡ Some hand = e in cc)

    by_hand : (o : Option PlainHand) → shown_of procs t.worker o ≡ Some hand → number_by o ≡ Some act.call.call.number
    by_hand None e = absurd (let bad : None ≡ Some hand = e in cc)
    by_hand (Some x) e = ap Some (by_phase x.standing x (ap (λ (y : Hand). y.phase) (by_standing x.standing x e) ∙ freeing))

-- a call in hand has its number
pub number_hand : (procs : List Proc) (t : PlainTxn) (hand : Hand) → hand_in procs t ≡ Some hand → number_in t ≡ Some hand.call.number
number_hand procs t hand is = by_hand t.hand is
  where
    by_standing : (st : Standing) (x : PlainHand) → shown procs t.worker st x ≡ Some hand → x.number ≡ hand.call.number
    by_standing standing.Running x e = (let f : hand_of procs t.worker x ≡ hand = cc in ap (λ (y : Hand). y.call.number) f)
    by_standing standing.Quitting x e = (let f : hand_of procs t.worker x ≡ hand = cc in ap (λ (y : Hand). y.call.number) f)
    by_standing standing.Placed x e = (let f : hand_of procs t.worker x ≡ hand = cc in ap (λ (y : Hand). y.call.number) f)
    by_standing standing.Freeing x e = (let f : hand_of procs t.worker x ≡ hand = cc in ap (λ (y : Hand). y.call.number) f)
    by_standing standing.LeftOver x e = absurd (let bad : None ≡ Some hand = e in cc)

    by_hand : (o : Option PlainHand) → shown_of procs t.worker o ≡ Some hand → number_by o ≡ Some hand.call.number
    by_hand None e = absurd (let bad : None ≡ Some hand = e in cc)
    by_hand (Some x) e = ap Some (by_standing x.standing x e)

-- that of a read-only call which joins by this is that of its act
pub number_reads : (procs : List Proc) (b : Bool) (w : ℕ) (hand : Hand) (act : Act Txn) → b ≡ false → FreesBy procs b w hand act → hand.call.number ≡ act.call.call.number
number_reads procs true w hand act f q = absurd (let bad : true ≡ false = f in cc)
number_reads procs false w hand act f q = ap (λ (y : Act Txn). y.call.call.number) (sym q.is)

pub none_open : (l : Load) (s : PlainSeat) → hand_in l.procs s.txn ≡ None → one_open l s ≡ 0
none_open l s gone = let e : is_open (hand_in l.procs s.txn) ≡ false = ap is_open gone in rw e refl
