-- A call ends and waits for its acknowledgement; room for it.
use Rattle.std.proofs.Common.{◌≡◌, ◌≤◌, ℕ, true, subst, Option, List, [], ◌∷◌, ◌++◌, refl, sym, ap, ◌∙◌}
use Rattle.std.specs.Prelude.{Some, None, is_some}
use Rattle.tau_ack.specs.declared.Waiting.{Waiting}
use Rattle.tau_model.specs.History.{Act}
use Rattle.tau_machine.specs.Hands.{Txn, Hand, Freeing}
use Rattle.tau_machine.specs.State.{ticket}
use Rattle.tau_machine.specs.Worker.{Worker, begun}
use Rattle.tau_machine.specs.Events.{Done, with_outbox, with_worker}
use Rattle.tau_txn.specs.declared.action.ActionKind.TheVariants as kind
use Rattle.tau_txn.specs.Hand.{PlainHand}
use Rattle.tau_txn.specs.Next.{kind_of, next_action, next_of}
use Rattle.tau_txn.specs.Txn.{PlainTxn, worker_in, worker_of}
use Rattle.tau_core.specs.State.{Plain}
use Rattle.tau_core.specs.View.{tickets}
use Rattle.tau_core.specs.Pieces.{IsPieceOf, Paired}
use Rattle.tau_rule.specs.Knows.{Knows}
use Rattle.tau_rule.specs.Role.{Role}
use Rattle.tau_rule.specs.Rule.{anchors_at, outbox_part}
use Rattle.tau_rule.specs.Steps.{Agrees, IsReady, IsWorker, Sat, first_role, next_worker}
use Rattle.tau_rule.specs.Boxes.{BoxOf, StepsBox, box_in}
use Rattle.tau_rule.specs.declared.part.Part.{Part}
use Rattle.tau_rule.proofs.Boxes.{part_rooms}
use Rattle.tau_rule.proofs.Turns.{one_role}
use Rattle.tau_base.proofs.Lists.{map_append}

-- a call that is done is in hand
pub done_hand : (t : PlainTxn) → kind_of (next_action t) ≡ kind.Done → is_some t.hand ≡ true
done_hand t e = by_hand t.hand e
  where
    by_hand : (o : Option PlainHand) → kind_of (next_of o) ≡ kind.Done → is_some o ≡ true
    by_hand None f = cc
    by_hand (Some x) f = refl

pub dones : (origin : Plain) (v : Knows) (w : ℕ) (wk : Worker) (t' : PlainTxn) (hand : Hand) (act : Act Txn) (b b' : BoxOf) (number : ℕ) (lv : List ℕ) → wk.hand ≡ Some hand → begun origin.load.streams wk ≡ wk → hand.phase ≡ Freeing act → hand.held ≡ [] → t'.hand ≡ None →
    b'.0.pieces ≡ b.0.pieces → b'.1.calls ≡ b.1.calls ++ record { number = number; lv = lv } ∷ [] → record { number = number; lv = lv } ≡ ticket act → StepsBox origin (Done w) v w wk (next_worker origin.load wk t') b b'
dones origin v w wk t' hand act b b' number lv is same phase held gone pieces calls waits style c meets sees at_worker box =
    let worker : next_worker origin.load wk t' ≡ record wk { hand = None } =
    ap (λ (x : Worker). worker_of origin.load.procs x t') same ∙ ap (worker_in origin.load.procs t'.worker wk) gone in (
      record (c.core.outboxes w) { pending = (c.core.outboxes w).pending ++ ticket act ∷ [] },
      [],
      (
        record {
          hand = hand;
          act = act;
          is = ap (λ (x : Worker). x.hand) at_worker ∙ is;
          phase = phase;
          held = held;
          after = (λ i. with_outbox (with_worker c.core w ((worker ∙ (λ k. record (sym at_worker k) { hand = None })) i)) w (record (c.core.outboxes w) { pending = (c.core.outboxes w).pending ++ ticket act ∷ [] }));
        },
        refl,
      ),
      record {
        posted = subst (λ ps. Paired (IsPieceOf origin.load (anchors_at c.core)) ps (c.core.outboxes w).posted) (sym pieces) box.posted;
        pending = (λ i. box.pending i ++ sym waits i ∷ []) ∙ sym (ap tickets calls ∙ map_append (λ (x : Waiting). record { number = x.number; lv = x.lv }) b.1.calls (record { number = number; lv = lv } ∷ []));
      },
      tt,
    )

-- the outbox that was taken has the room that its worker counts on
pub box_rooms : (origin : Plain) (w : ℕ) (m : Sat) (t : PlainTxn) → (r : IsReady origin w m t) → (p : Part) (b : BoxOf) (records calls : ℕ) → Agrees origin m.0 (outbox_part w) p → box_in p ≡ Some b → (first_role m.0.roles).1.spare ≡ (records, calls) → (records ≤ b.0.room) × (calls ≤ b.1.room)
box_rooms origin w m t r p b records calls a is spare =
    let here = part_rooms origin a.state w p b is a.part in
    let mine = a.roles w r.role (one_role m.0 w r.role r.seat.roles) in
    let same : a.state.spare w ≡ (records, calls) = mine.2 ∙ sym (ap (λ (rs : List (ℕ × Role)). (first_role rs).1.spare) r.seat.roles) ∙ spare in
    subst (λ (z : ℕ × ℕ). (z.0 ≤ b.0.room) × (z.1 ≤ b.1.room)) same here

-- the same of a seat whose worker may rest
pub own_rooms : (origin : Plain) (w : ℕ) (m : Sat) (x : Role) → IsWorker origin m w x → (p : Part) (b : BoxOf) → Agrees origin m.0 (outbox_part w) p → box_in p ≡ Some b → (x.spare.0 ≤ b.0.room) × (x.spare.1 ≤ b.1.room)
own_rooms origin w m x s p b a is =
    let here = part_rooms origin a.state w p b is a.part in
    let mine = a.roles w x (one_role m.0 w x s.roles) in
    subst (λ (z : ℕ × ℕ). (z.0 ≤ b.0.room) × (z.1 ≤ b.1.room)) mine.2 here
