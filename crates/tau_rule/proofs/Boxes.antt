-- A worker's events on its outbox: the step, and Post.
use Rattle.std.proofs.Common.{◌≡◌, ℕ, ◌+◌, ◌<◌, ◌≤◌, inl, inr, List, [], ◌∷◌, ◌++◌, Option, length, refl, sym, ap, ◌∙◌, subst, arith, length-append}
use Rattle.std.specs.Prelude.{Some, None}
use Rattle.tau_shown.proofs.Steps.{gives_part}
use Rattle.tau_model.specs.History.{Act, Member}
use Rattle.tau_machine.specs.Hands.{Txn, Hand, Placed, Freeing}
use Rattle.tau_shard.specs.Shard.{at}
use Rattle.tau_machine.specs.Worker.{Worker}
use Rattle.tau_machine.specs.Pieces.{placed_in, placed_of}
use Rattle.tau_machine.specs.State.{Outbox, Item, Record, past_of}
use Rattle.tau_machine.specs.Events.{Event, Post, Leads, with_worker, with_outbox}
use Rattle.tau_shard.proofs.At.{at_same, at_other}
use Rattle.tau_outbox.specs.declared.Piece.{Piece}
use Rattle.tau_txn.specs.Txn.{PlainTxn}
use Rattle.tau_outbox.specs.Pieces as outbox
use Rattle.tau_outbox.specs.Pieces.{PlainOutbox}
use Rattle.tau_ack.specs.Pending.{PlainPending}
use Rattle.tau_core.specs.State.{Plain}
use Rattle.tau_core.specs.View.{setting_of, tickets}
use Rattle.tau_rule.specs.Role.{Share, Working, Managing, Clerking, Role}
use Rattle.tau_core.specs.Pieces.{IsPieceOf, Paired}
use Rattle.tau_rule.specs.Knows.{Knows}
use Rattle.tau_occ.specs.declared.style.Style.{Style}
use Rattle.tau_rule.specs.Holders.{BusyHasCause}
use Rattle.tau_rule.specs.Rule.{PersistsNone, Now, IsPart, IsShare, IsRole, IsOutbox, Sees, Meets, anchors_at, word_of, hand_of, has, part_count, outbox_part}
use Rattle.tau_rule.specs.Steps.{ComesHome, handed, first_role, worker_in_share, next_worker, Sat}
use Rattle.tau_rule.specs.Boxes.{BoxOf, box_in, with_box, StepsBox, told_box}
use Rattle.tau_rule.specs.declared.part.Part.{Part}
use Rattle.tau_rule.specs.declared.part.Part.TheVariants as part
use Rattle.tau_rule.proofs.Turns.{Turn, reached_invariant, more, reached_on, stored_on, handed_sees, share_worker, one_role, role_alone, alone}

-- the seat has its outbox in hand, and this event leaves it so
pub record GivesBox (origin : Plain) (e : Event) (m : Sat) (q : Part) (w : ℕ) (wk' : Worker) (spare : ℕ × ℕ) : Type 0 where
  pub taken : Part
  pub role : Role
  pub worker : Worker
  pub before : PlainOutbox × PlainPending
  pub after : PlainOutbox × PlainPending
  pub held : m.0.hand ≡ Some (outbox_part w, taken)
  pub carried : m.1 ≡ (outbox_part w, None) ∷ []
  pub roles : m.0.roles ≡ (w, role) ∷ []
  pub share : role.share ≡ Working worker
  pub was : box_in taken ≡ Some before
  pub is : box_in q ≡ Some after
  pub there : w < origin.load.workers
  pub records : spare.0 ≤ after.0.room
  pub calls : spare.1 ≤ after.1.room
  pub steps : StepsBox origin e m.0 w worker wk' before after
  pub none : PersistsNone e

module _ (origin : Plain) where
  pub part_box : (c : Now) (w : ℕ) (p : Part) (b : PlainOutbox × PlainPending) → box_in p ≡ Some b → IsPart origin.load (outbox_part w) p c → IsOutbox origin.load b.0 b.1 (anchors_at c.core) (c.core.outboxes w)
  part_box c w (part.Shard x) b is h = cc
  part_box c w (part.Outbox o p) b is h =
      let same : w ≡ h.0 = (let e = h.1 in omega arith) in
      let it : (o.value, p.value) ≡ b = cc in
      subst (λ (z : ℕ × (PlainOutbox × PlainPending)). IsOutbox origin.load z.1.0 z.1.1 (anchors_at c.core) (c.core.outboxes z.0)) (λ i. (sym same i, it i)) h.3
  part_box c w (part.Anchor number lv) b is h = cc

  pub box_part : (c : Now) (w : ℕ) (p : Part) (b : PlainOutbox × PlainPending) → box_in p ≡ Some b → w < origin.load.workers → IsOutbox origin.load b.0 b.1 (anchors_at c.core) (c.core.outboxes w) → (c.spare w).0 ≤ b.0.room → (c.spare w).1 ≤ b.1.room → IsPart origin.load (outbox_part w) p c
  box_part c w (part.Shard x) b is low h r s = cc
  box_part c w (part.Outbox o p) b is low h r s =
      let it : b ≡ (o.value, p.value) = cc in
      let all = subst (λ (z : PlainOutbox × PlainPending). IsOutbox origin.load z.0 z.1 (anchors_at c.core) (c.core.outboxes w) × ((c.spare w).0 ≤ z.0.room) × ((c.spare w).1 ≤ z.1.room)) it (h, r, s) in
      (w, refl, low, all.0, all.1, all.2)
  box_part c w (part.Anchor number lv) b is low h r s = cc

  module _ (c : Now) (w : ℕ) (old : Role) (wk : Worker) (box : Outbox) (spare : ℕ × ℕ) (wide : w < origin.load.workers) where
    abbrev pub on_box : Now
    on_box = record { core = with_outbox (with_worker c.core w wk) w box; raised = c.raised; spare = at w spare c.spare; stored = c.stored }

    parts_stay : (j : ℕ) (p : Part) → (j ≡ outbox_part w → ⊥) → IsPart origin.load j p c → IsPart origin.load j p on_box
    parts_stay j (part.Shard b) apart h = h
    parts_stay j (part.Outbox o p) apart h =
        let other : h.0 ≡ w → ⊥ = (λ e. apart (h.1 ∙ ap outbox_part e)) in (
          h.0,
          h.1,
          h.2,
          subst (λ (z : Outbox). IsOutbox origin.load o.value p.value (anchors_at c.core) z) (sym (at_other w box c.core.outboxes h.0 other)) h.3,
          subst (λ (z : ℕ × ℕ). z.0 ≤ o.value.room) (sym (at_other w spare c.spare h.0 other)) h.4,
          subst (λ (z : ℕ × ℕ). z.1 ≤ p.value.room) (sym (at_other w spare c.spare h.0 other)) h.5,
        )
    parts_stay j (part.Anchor number lv) apart h = h

    shares_stay : (u : ℕ) (x : Share) → (u ≡ w → ⊥) → IsShare origin.load u x c → IsShare origin.load u x on_box
    shares_stay u (Working x) apart h = (h.0, at_other w wk c.core.workers u apart ∙ h.1)
    shares_stay u (Managing g) apart h = (h.0, h.1, h.2, record { moved = h.3.moved; gathered = h.3.gathered; anchors = h.3.anchors; own = h.3.own; stored = h.3.stored })
    shares_stay u (Clerking acked) apart h = h

    pub on_box_sees : (v : Knows) → Sees origin c v → Sees origin on_box v
    on_box_sees v h = record { opened = h.opened; wide = h.wide; low = h.low; own = h.own; read = h.read; found = h.found }

    pub on_box_turn : {style : Style} (e : Event) (new : List (Act Txn)) → Meets origin style c → IsRole origin.load w old c → Leads (setting_of origin.load) e c.core on_box.core new → BusyHasCause (setting_of origin.load) style e c.core → PersistsNone e → Turn origin style c on_box (outbox_part w) w (with_box old wk spare)
    on_box_turn e new meets mine leads holder none = record {
      parts = λ j p low apart h. parts_stay j p apart h;
      mine = ((wide, at_same w wk c.core.workers), mine.1, at_same w spare c.spare);
      others = λ u x apart h. (shares_stay u x.share apart h.0, h.1, at_other w spare c.spare u apart ∙ h.2);
      sight = λ v lacks h. on_box_sees v h;
      kept = record {
        reached = reached_on origin e c.core on_box.core new meets.reached leads holder;
        stored = stored_on c.stored meets.reached.events e meets.stored none;
        going = meets.going;
        fits = λ j low. more _ _ (length meets.reached.joined) (length (meets.reached.joined ++ new)) _ (meets.fits j low) (let a = length-append meets.reached.joined new in omega arith);
        anchors = meets.anchors;
        opened = meets.opened;
        limited = meets.limited;
        beyond = λ u low. at_other w wk c.core.workers u (λ e. omega arith) ∙ meets.beyond u low;
        shards = meets.shards;
        streams = meets.streams;
      };
    }

-- an outbox comes home, with an event of its worker
pub gives_box : (origin : Plain) {style : Style} (id : ℕ) (v : Knows) (carried : List (ℕ × Option Part)) (q : Part) (w : ℕ) (wk' : Worker) (spare : ℕ × ℕ) (e : Event) (g : GivesBox origin e (v, carried) q w wk' spare) → v.opened ≡ Some origin
    → ComesHome origin style id v (outbox_part w) q (handed v w (with_box g.role wk' spare))
gives_box origin {style} id v carried q w wk' spare e g opened =
    let y : Role = with_box g.role wk' spare in
    gives_part (IsPart origin.load) (IsRole origin.load) (word_of origin.load) hand_of has (Sees origin) (Meets origin style) (part_count origin.load) (origin.load.streams + origin.load.streams + 1) id (outbox_part w) v (handed v w y) g.taken q w g.role y g.held (one_role v w g.role g.roles) refl
    (role_alone w y) (λ u z h. alone w y u z h)
    (λ c m part mine seen.
    let worker = share_worker origin w g.role.share g.worker c g.share mine.0 in
    let led = g.steps style c m seen worker.1 (part_box origin c w g.taken g.before g.was part) in
    let c' : Now = on_box origin c w g.role wk' led.0 spare g.there in (
      c',
      on_box_turn origin c w g.role wk' led.0 spare g.there e led.1 m mine led.2 led.4 g.none,
      box_part origin c' w q g.after g.is g.there (subst (λ (z : Outbox). IsOutbox origin.load g.after.0 g.after.1 (anchors_at c.core) z) (sym (at_same w led.0 c.core.outboxes)) led.3)
          (subst (λ (z : ℕ × ℕ). z.0 ≤ g.after.0.room) (sym (at_same w spare c.spare)) g.records) (subst (λ (z : ℕ × ℕ). z.1 ≤ g.after.1.room) (sym (at_same w spare c.spare)) g.calls),
      handed_sees origin c' v w g.role y g.there opened (one_role v w g.role g.roles) (on_box_sees origin c w g.role wk' led.0 spare g.there v seen),
      (λ i low. refl),
    ))
    (λ found m. m ≡ (handed v w y, []))
    (λ m. refl)

pub paired_snoc : {A B : Type 0} (R : A → B → Type 0) (xs : List A) (ys : List B) (x : A) (y : B) → Paired R xs ys → R x y → Paired R (xs ++ x ∷ []) (ys ++ y ∷ [])
paired_snoc R [] [] x y h r = (r, tt)
paired_snoc R [] (b ∷ ys) x y h r = absurd h
paired_snoc R (a ∷ xs) [] x y h r = absurd h
paired_snoc R (a ∷ xs) (b ∷ ys) x y h r = (h.0, paired_snoc R xs ys x y h.1 r)

-- a record that has its place is posted
pub posts : (origin : Plain) (v : Knows) (w : ℕ) (wk wk' : Worker) (hand : Hand) (act : Act Txn) (b b' : PlainOutbox × PlainPending) (piece : Piece) → wk.hand ≡ Some hand → hand.phase ≡ Placed act → wk' ≡ record wk { hand = Some (record hand { phase = Freeing act }) } →
    b'.0.pieces ≡ b.0.pieces ++ piece ∷ [] → b'.1.calls ≡ b.1.calls → ((c : Now) → Sees origin c v → IsPieceOf origin.load (anchors_at c.core) piece (Record act)) → StepsBox origin (Post w) v w wk wk' b b'
posts origin v w wk wk' hand act b b' piece is phase worker pieces calls spelled style c meets sees at_worker box = (
  record (c.core.outboxes w) { posted = (c.core.outboxes w).posted ++ Record act ∷ [] },
  [],
  (
    record {
      hand = hand;
      act = act;
      is = ap (λ (x : Worker). x.hand) at_worker ∙ is;
      phase = phase;
      after = (λ i. with_outbox (with_worker c.core w ((worker ∙ (λ k. record (sym at_worker k) { hand = Some (record hand { phase = Freeing act }) })) i)) w (record (c.core.outboxes w) { posted = (c.core.outboxes w).posted ++ Record act ∷ [] }));
    },
    refl,
  ),
  record {
    posted = subst (λ (ps : List Piece). Paired (IsPieceOf origin.load (anchors_at c.core)) ps ((c.core.outboxes w).posted ++ Record act ∷ [])) (sym pieces)
        (paired_snoc (IsPieceOf origin.load (anchors_at c.core)) b.0.pieces (c.core.outboxes w).posted piece (Record act) box.posted (spelled c sees));
    pending = box.pending ∙ ap tickets (sym calls);
  },
  tt,
)

-- the pieces that stand in the outbox of a call that has its place end before it
low_end : (origin : Plain) (anchors : ℕ → List (List ℕ)) (pieces : List Piece) (items : List Item) (from start : ℕ) → Paired (IsPieceOf origin.load anchors) pieces items → from ≤ start → ((i : Item) → Member i items → past_of i ≤ start) → outbox.end_of from pieces ≤ start
low_end origin anchors [] [] from start h low all = low
low_end origin anchors [] (i ∷ is) from start h low all = absurd h
low_end origin anchors (p ∷ ps) [] from start h low all = absurd h
low_end origin anchors (p ∷ ps) (i ∷ is) from start h low all =
    low_end origin anchors ps is (outbox.past_of p) start h.1 (subst (λ (n : ℕ). n ≤ start) (sym h.0.past) (all i (inl refl))) (λ k m. all k (inr m))

pub posts_behind : (origin : Plain) {style : Style} (c : Now) (w : ℕ) (wk : Worker) (hand : Hand) (act : Act Txn) (b : PlainOutbox × PlainPending) → Meets origin style c → c.core.workers w ≡ wk → IsOutbox origin.load b.0 b.1 (anchors_at c.core) (c.core.outboxes w) → wk.hand ≡ Some hand → hand.phase ≡ Placed act →
    outbox.end_of 0 b.0.pieces ≤ act.call.place.start
posts_behind origin c w wk hand act b meets at_worker box is phase =
    let inv = reached_invariant origin c.core meets.reached in
    let placed : placed_in (c.core.workers w).hand ≡ Some act = ap (λ (x : Worker). placed_in x.hand) at_worker ∙ ap placed_in is ∙ ap placed_of phase in
    low_end origin (anchors_at c.core) b.0.pieces (c.core.outboxes w).posted 0 act.call.place.start box.posted (omega arith) (λ i m. inv.agrees.pieces.last w act i placed m)

pub told_box_is : (origin : Plain) (v : Knows) (t : PlainTxn) (spare : ℕ × ℕ) (w : ℕ) (x : Role) (wk : Worker) → v.roles ≡ (w, x) ∷ [] → x.share ≡ Working wk → told_box origin.load v t spare ≡ handed v w (with_box x (next_worker origin.load wk t) spare)
told_box_is origin v t spare w x wk roles share = λ i. handed v (first_role (roles i)).0 (with_box (first_role (roles i)).1 (next_worker origin.load ((ap (λ (r : List (ℕ × Role)). worker_in_share (first_role r).1.share) roles ∙ ap worker_in_share share) i) t) spare)

-- an outbox has the room that its worker counts on
pub part_rooms : (origin : Plain) (c : Now) (w : ℕ) (p : Part) (b : BoxOf) → box_in p ≡ Some b → IsPart origin.load (outbox_part w) p c → ((c.spare w).0 ≤ b.0.room) × ((c.spare w).1 ≤ b.1.room)
part_rooms origin c w (part.Shard x) b is h = cc
part_rooms origin c w (part.Outbox o p) b is h =
    let same : w ≡ h.0 = (let e = h.1 in omega arith) in
    let it : (o.value, p.value) ≡ b = cc in
    subst (λ (z : ℕ × BoxOf). ((c.spare z.0).0 ≤ z.1.0.room) × ((c.spare z.0).1 ≤ z.1.1.room)) (λ i. (sym same i, it i)) (h.4, h.5)
part_rooms origin c w (part.Anchor number lv) b is h = cc
